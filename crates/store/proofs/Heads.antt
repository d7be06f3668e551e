-- Telling three members of a superblock, and committing it.
-- Assumes nothing.
use Rattle.std.proofs.Common.{◌≡◌, ℕ, ◌+◌, ◌<◌, false, List, get_or, ap, ◌∙◌, subst, inl, inr, arith, below_more}
use Rattle.std.proofs.lemmas.Bool.{cases_eq}
use Rattle.layout.specs.Super.{Super, super_of}
use Rattle.store.specs.Event.{Event}
use Rattle.store.specs.Shelf.{Shelf}
use Rattle.store.specs.Durable.{Shows, Settled, Nowhere, Here, Went, Synced}
use Rattle.store.specs.Keeping.{Columns, Sound, Torn}
use Rattle.store.specs.Commits.{Heading, Copying, Headed, After, Committed, Interrupted}
use Rattle.store.proofs.Laws.{went_none, went_then, went_wider, went_anywhere, shows_went, among_synced, among_weaker}
use Rattle.store.proofs.Standing.{sound_went, torn_went, sound_torn, torn_new}

-- ---- one member more

pub copying_none : (S : Super) (b : List ℕ) (x : Shelf) (es : List Event) → Copying 0 S b x es x es
copying_none S b x es = record { went = went_none (Heading S) x es; shows = λ p l. absurd (omega arith) }

pub copying_is : {S : Super} {b : List ℕ} {m n : ℕ} {x y : Shelf} {es fs : List Event} → m ≡ n → Copying m S b x es y fs → Copying n S b x es y fs
copying_is {S} {b} {x = x} {y} {es} {fs} e k = subst (λ (i : ℕ). Copying i S b x es y fs) e k

module _ {S : Super} {b : List ℕ} {n at : ℕ} {x y z : Shelf} {es fs gs : List Event} (says : super_of b ≡ S) (l : n < 3) (e : at ≡ get_or S.members n 0) (m : Copying n S b x es y fs) (w : Went 1 (Here at 0 b) y fs z gs) where
  pub copying_went : Went (n + 1) (Heading S) x es z gs
  copying_went = went_then m.went (went_wider {n = 1} (omega arith) (λ d s c h. (h.1, ap super_of h.2 ∙ says, (n, (l, h.0 ∙ e)))) w)

  -- a later write of the same at another disk, or the same one, leaves it shown
  still : (d : ℕ) → Shows y d 0 b → Shows z at 0 b → Shows z d 0 b
  still d h t = elim (cases_eq d at) [ inl q ↦ rw q t | inr q ↦ shows_went w d 0 b (λ c v. q v.0) h ]

  pub copying_more : Shows z at 0 b → Copying (n + 1) S b x es z gs
  copying_more h =
      record {
        went = copying_went;
        shows = below_more (λ p. Shows z (get_or S.members p 0) 0 b) n (λ p k. still (get_or S.members p 0) (m.shows p k) h) (subst (λ (i : ℕ). Shows z i 0 b) e h);
      }

-- ---- all three, and a sync

module _ {S : Super} {b : List ℕ} {x y z : Shelf} {es fs gs : List Event} (m : Copying 3 S b x es y fs) (w : Went 1 Nowhere y fs z gs) where
  pub headed_went : Went 4 (Heading S) x es z gs
  headed_went = went_then m.went (went_anywhere (Heading S) w)

  pub headed : super_of b ≡ S → Synced z → Headed S z
  headed says s =
      record {
        lit = s.lit;
        settled = s.settled;
        three = λ p l. among_weaker z (get_or S.members p 0) 0 (λ a q. ap super_of q ∙ says) (among_synced w s.settled (get_or S.members p 0) 0 b (m.shows p l));
      }

-- ---- a commit: a sync, and then that

module _ (S' : Super) {x y : Shelf} {es fs : List Event} (w : Went 1 Nowhere x es y fs) where
  sound_synced : (S : Super) (c : Columns) → Sound x S c → Sound y S c
  sound_synced S c k = sound_went w S c (λ d p r b h v. absurd v) (λ d b v. absurd v) k

  pub interrupted_first : y.on ≡ false → Interrupted S' x y
  interrupted_first o = record { off = o; cut = λ S c c' k l a. inl (sound_synced S c k) }

  module _ (z : Settled y) {n : ℕ} {u : Shelf} {gs : List Event} (v : Went n (Heading S') y fs u gs) where
    -- in the midst of the three writes both candidates are kept
    torn_between : (S : Super) (c c' : Columns) → Sound x S c → S.generation < S'.generation → After x S' c' → Torn u S c S' c'
    torn_between S c c' k l a =
        torn_went v S c S' c' (λ d s b h. (h.0, inr h.1)) (sound_torn y S c S' c' (inl l) (sound_synced S c k) (a y es fs w z))

    pub interrupted_later : u.on ≡ false → Interrupted S' x u
    interrupted_later o = record { off = o; cut = λ S c c' k l a. inr (torn_between S c c' k l a) }

    pub committed_now : Headed S' u → Committed S' x u
    committed_now h = record { lit = h.lit; settled = h.settled; sound = λ S c c' k l a. torn_new u S c S' c' h.three (torn_between S c c' k l a) }
