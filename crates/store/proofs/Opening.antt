-- The power goes and comes back, and the store comes up: what was explained stays so.
-- Assumes nothing.
use Rattle.std.proofs.Common.{◌≡◌, ℕ, zero, suc, true, false, List, [], ◌∷◌, get_or, replicate, None, Option, sym, refl, ap, ◌∙◌, subst, inl, inr, arith}
use Rattle.field.proofs.Codewords.{blank}
use Rattle.layout.specs.Super.{Super, says}
use Rattle.layout.specs.declared.members.Marks.{Marks}
use Rattle.layout.specs.declared.members.Marks.TheVariants.{Nobody}
use Rattle.layout.specs.declared.superblock.Superblock.{Superblock}
use Rattle.store.specs.Event.{Event, Cut}
use Rattle.store.specs.Shelf.{Shelf, Back, AtStart, allowed}
use Rattle.field.specs.Stripe.{column}
use Rattle.store.specs.Store.{Seen, Way, Free, size_of, fresh, new}
use Rattle.store.specs.Durable.{Deaths, Went, Nowhere}
use Rattle.store.specs.Keeping.{Columns, Ready, Left}
use Rattle.store.specs.Recovers.{Up, Down, empty}
use Rattle.store.specs.Writes.{MarksTrue}
use Rattle.store.specs.Tags.{at, Entry, Waits}
use Rattle.store.specs.Between.{ticks, Explains, Lost, Recoverable, Serving}
use Rattle.store.specs.declared.Ask.{Ask}
use Rattle.store.specs.declared.Store.{Store}
use Rattle.store.specs.declared.tags.Tags.{Tags}
use Rattle.store.proofs.Truths.{T_true, with_marks}
use Rattle.store.proofs.Laws.{deaths_same, back_returned}
use Rattle.store.proofs.Standing.{ready_asked, sound_twice, torn_back, torn_went}
use Rattle.store.proofs.Beginning.{begins}
use Rattle.store.proofs.Histories.{mourned, explains_deaths, explains_later, explains_cut}

-- ---- how often may still be asked is no part of it

went_allowed : (x : Shelf) (k : ℕ) (es : List Event) → Went x.left Nowhere x es (allowed k x) es
went_allowed x k es = record { deaths = deaths_same es (refl, λ d. (refl, refl, refl)); spent = omega arith; grows = λ d s b t m. inl m; stays = λ d s n. refl }

pub serving_allowed : {s : Store} {room : List ℕ} {x : Shelf} {es : List Event} (k : ℕ) → Serving s room x es → Serving s room (allowed k x) es
serving_allowed {s} {x = x} {es} k v =
    record {
      c = v.c;
      h = v.h;
      stands = record { lit = v.stands.lit; ready = ready_asked (went_allowed x k es) (says s.superblock) v.c v.stands.ready; marks = v.stands.marks; same = v.stands.same; explains = v.stands.explains };
      table = v.table;
    }

pub recoverable_allowed : {x : Shelf} {es : List Event} (k : ℕ) → Recoverable x es → Recoverable (allowed k x) es
recoverable_allowed {x} {es} k v =
    record {
      lit = v.lit;
      S = v.S;
      c = v.c;
      h = v.h;
      S' = v.S';
      c' = v.c';
      h' = v.h';
      torn = torn_went (went_allowed x k es) v.S v.c v.S' v.c' (λ d s b n. absurd n) v.torn;
      one = v.one;
      two = v.two;
      quiet = v.quiet;
    }

-- ---- the power goes

module _ {y : Shelf} {fs : List Event} {S : Super} {c : Columns} {h : Seen} {S' : Super} {c' : Columns} {h' : Seen} (off : y.on ≡ false) (one : Explains y.sectors 2 fs S c h) (two : Explains y.sectors 2 fs S' c' h') where
  pub left_lost : Left y S c S' c' → Lost y fs
  left_lost (inl t) = record { off = off; S = S; c = c; h = h; S' = S'; c' = c'; h' = h'; torn = t; one = one; two = two }
  left_lost (inr (inl k)) = record { off = off; S = S; c = c; h = h; S' = S; c' = c; h' = h; torn = sound_twice y S c k; one = one; two = one }
  left_lost (inr (inr k)) = record { off = off; S = S'; c = c'; h = h'; S' = S'; c' = c'; h' = h'; torn = sound_twice y S' c' k; one = two; two = two }

-- ---- it comes back

pub recovers : {x z : Shelf} {es fs : List Event} → Lost x es → Back x (Cut ∷ es) z fs → Recoverable z fs
recovers {x} {z} l b =
    let r = back_returned b in
    record {
      lit = b.lit;
      S = l.S;
      c = l.c;
      h = _;
      S' = l.S';
      c' = l.c';
      h' = _;
      torn = torn_back r l.S l.c l.S' l.c' l.torn;
      one = explains_deaths r.deaths (explains_cut l.one);
      two = explains_deaths r.deaths (explains_cut l.two);
      quiet = λ t. (refl, refl);
    }

-- ---- a blank shelf

pub at_start : {x : Shelf} {es : List Event} → AtStart x → es ≡ [] → Recoverable x es
unfolding ticks
at_start {x} s e =
    let ready = begins x s in
    let nothing : Explains x.sectors 0 [] _ empty fresh =
    record { run = new; matches = record { disks = refl; content = λ i. refl }; coded = λ r. blank 4; idle = refl; early = omega arith } in
    subst (λ (gs : List Event). Recoverable x gs) (sym e)
    (record {
      lit = T_true s.2;
      S = _;
      c = empty;
      h = fresh;
      S' = _;
      c' = empty;
      h' = fresh;
      torn = sound_twice x _ empty ready.sound;
      one = nothing;
      two = nothing;
      quiet = λ t. (refl, refl);
    })

-- ---- it comes up

nobody_marked : (x : Shelf) (ds : List ℕ) (m : Marks) → m ≡ Nobody → MarksTrue x (with_marks ds m)
nobody_marked x ds m e = subst (λ (n : Marks). MarksTrue x (with_marks ds n)) (sym e) (λ p l t. absurd t)

same_there : {A : Type 0} (a : A) (n t : ℕ) → get_or (replicate n a) t a ≡ a
same_there a zero t = refl
same_there a (suc n) zero = refl
same_there a (suc n) (suc t) = same_there a n t

module _ {x y : Shelf} {es fs : List Event} (n : ℕ) (b : Superblock) (tags : Tags) (room : List ℕ) (died : Deaths x es y fs) (size : n ≡ y.sectors) (vacant : tags.asked ≡ replicate 8 None) (first : tags.cursor.number ≡ 0) where
  nothing_asked : (t : ℕ) → at tags.asked t ≡ None
  nothing_asked t = ap (λ (ts : List (Option Ask)). at ts t) vacant ∙ same_there None 8 t

  stand_up : {S : Super} {c : Columns} {h : Seen} → says b ≡ S → b.members.dead ≡ Nobody → y.on ≡ true → Ready y S c → Explains x.sectors 0 es S c h → ((t : ℕ) → h.way t ≡ Free) →
      Serving (record { sectors = n; superblock = b; tags = tags }) room y fs
  stand_up {S} {c} {h} e dead lit ready v quiet =
      record {
        c = c;
        h = mourned died.more h;
        stands = record {
          lit = lit;
          ready = subst (λ (Q : Super). Ready y Q c) (sym e) ready;
          marks = nobody_marked y _ b.members.dead dead;
          same = size;
          explains = subst (λ (Q : Super). Explains y.sectors 0 fs Q c (mourned died.more h)) (sym e) (explains_deaths died v);
        };
        table = record {
          in_turn = omega (arith, first);
          entries = λ t l. subst (λ (w : Way). Entry (at tags.asked t) (column t room) (size_of y.sectors h) w) (sym (quiet t)) (nothing_asked t);
          waits = λ j l. subst (λ (w : Way). Waits w j) (sym (quiet _)) tt;
        };
      }

  pub opened : Recoverable x es → Up (says b) x y → b.members.dead ≡ Nobody → Serving (record { sectors = n; superblock = b; tags = tags }) room y fs
  opened v up dead =
      elim (up.right v.S v.c v.S' v.c' v.torn) [
        | inl p ↦ stand_up p.0 dead up.lit p.1 v.one (λ t. (v.quiet t).0)
        | inr p ↦ stand_up p.0 dead up.lit p.1 v.two (λ t. (v.quiet t).1)
      ]

pub lost_again : {x y : Shelf} {es fs : List Event} → Recoverable x es → Deaths x es y fs → Down x y → Lost y fs
lost_again v died down =
    left_lost down.off (explains_later (explains_deaths died v.one)) (explains_later (explains_deaths died v.two)) (down.left v.S v.c v.S' v.c' v.torn)
