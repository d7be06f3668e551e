-- A stripe in the journal, committed, and in its place: what keeps what.
-- Assumes nothing.
use Rattle.std.proofs.Common.{◌≡◌, ℕ, ◌+◌, ◌^◌, ◌<◌, Bool, true, false, T, List, Some, None, Option, sym, ap, ◌∙◌, subst, inl, inr, ⊎_elim, arith}
use Rattle.std.proofs.lemmas.Bool.{cases_Bool}
use Rattle.layout.specs.declared.superblock.Rebuild.{Rebuild}
use Rattle.layout.specs.Places.{index}
use Rattle.layout.specs.Super.{Super, Joins, Proper}
use Rattle.layout.specs.declared.members.Marks.{Marks}
use Rattle.store.specs.Event.{Event}
use Rattle.store.specs.Shelf.{Shelf}
use Rattle.store.specs.Durable.{Among, Shows, Went}
use Rattle.store.specs.Keeping.{Columns, slot, Fills, Holds, Kept, Sound, Ready}
use Rattle.store.specs.Commits.{Heading, After, Committed, Interrupted}
use Rattle.store.specs.Stripes.{Serving, Held, Stored}
use Rattle.store.specs.Writes.{MarksTrue, journalling, Changes, Journalled, Unjournalled, Placing, Unplaced}
use Rattle.store.proofs.Truths.{true-T, with_marks}
use Rattle.store.proofs.Laws.{shows_went, shows_among, among_settled, among_synced}
use Rattle.store.proofs.Standing.{member_holds, slot_low, home_staged, home_placed, kept_went, sound_went, placed_went, all_shown, in_place_synced, kept_journalling}

-- members under a superblock that is kept can be asked
pub serving_kept : {x : Shelf} {S : Super} {c : Columns} (m : Marks) → Kept x S c → MarksTrue x (with_marks S.members m) → Serving x (with_marks S.members m)
serving_kept {S = S} m k t = record { roster = k.proper.roster; steady = k.steady; employed = λ p l. k.employed _ p 0 (member_holds S p 0 l); marks = t }

-- ---- staged in the other slot

module _ (S : Super) (r : ℕ) (h : ℕ → List ℕ) (all : ℕ → Bool) {n s : ℕ} {x y : Shelf} {es fs : List Event} (i : s ≡ slot (S.generation + 1)) (w : Went n (Held all S s r) x es y fs) where
  pub ready_staged : (c : Columns) → Ready x S c → Ready y S c
  ready_staged c k =
      record {
        sound = sound_went w S c (λ d p t b g v. absurd (home_staged S t (v.0 ∙ i))) (λ d b v. let z = v.0 ∙ i in absurd (omega (arith, z, slot_low (S.generation + 1)))) k.sound;
        placed = placed_went w S c (λ d p t b g j v. let z = v.0 ∙ i in omega (arith, z, slot_low (S.generation + 1))) k.placed;
      }

  pub unjournalled_first : y.on ≡ false → Unjournalled S r h x y
  unjournalled_first o = record { off = o; left = λ c c' k g. inr (inl (ready_staged c k).sound) }

  module _ (every : (d p : ℕ) → Holds S d p r → T (all (index p r))) (st : Stored all S s r h y) (l : 64 + r < x.sectors) where
    -- what was staged is all that the next superblock wants
    after_staged : (c c' : Columns) → Ready x S c → Changes r h c c' → After y (journalling S r) c'
    after_staged c c' k g z gs hs v q =
        let k' = ready_staged c k in
        let size : 64 + r < z.sectors = omega (arith, v.deaths.size, w.deaths.size, l) in
        kept_journalling z S c c' r (kept_went v S c (λ d p t a u b. absurd b) k'.sound.kept) (in_place_synced v q S c k'.sound.kept k'.placed) size g.others
        (λ d p u.
        subst (λ (a : ℕ). Among z d a (λ b. b ≡ c' r (index p r))) i
        (among_synced v q d s (c' r (index p r)) (subst (λ (a : List ℕ). Shows y d s a) (sym (g.this (index p r))) (st d p u (every d p u)))))

    newer : S.generation < S.generation + 1
    newer = omega arith

    pub unjournalled_later : {z : Shelf} → Interrupted (journalling S r) y z → Unjournalled S r h x z
    unjournalled_later q =
        record {
          off = q.off;
          left = λ c c' k g. ⊎_elim (λ u. inr (inl u)) (λ u. inl u) (q.cut S c c' (ready_staged c k).sound newer (after_staged c c' k g));
        }

    pub journalled_now : {z : Shelf} {gs : List Event} → Went 5 (Heading (journalling S r)) y fs z gs → Committed (journalling S r) y z → Journalled S r h x z
    journalled_now {z} v q =
        record {
          lit = q.lit;
          sound = λ c c' k g. q.sound S c c' (ready_staged c k).sound newer (after_staged c c' k g);
          places = λ c k d p t g size.
              let k' = ready_staged c k in
              among_settled z q.settled d (64 + t) (c t (index p t))
              (shows_went v d (64 + t) (c t (index p t)) (λ a u. let e = u.0 in omega arith) (all_shown y S c k'.sound.kept k'.placed d p t g (subst (λ (m : ℕ). 64 + t < m) v.deaths.size size)));
        }

-- ---- in its place

module _ (S : Super) (r : ℕ) (h : ℕ → List ℕ) (sel : ℕ → Bool) (j : S.journal ≡ Some r) {n : ℕ} {x y : Shelf} {es fs : List Event} (w : Went n (Held sel S (64 + r) r) x es y fs) where
  sound_placing : (c : Columns) → Sound x S c → Sound y S c
  sound_placing c k = sound_went w S c (λ d p t b g v. absurd (home_placed S t r j v.0)) (λ d b v. let z = v.0 in absurd (omega arith)) k

  pub unplaced : y.on ≡ false → Unplaced S x y
  unplaced o = record { off = o; sound = sound_placing }

  pub placing : (x.on ≡ true → y.on ≡ true) → Proper S → 64 + r < x.sectors → ((d p q : ℕ) → Holds S d p r → Holds S d q r → p ≡ q) → Stored sel S (64 + r) r h y → Placing sel S r h x y
  placing on o l once st =
      record {
        lit = on;
        ready = λ c₀ c k q this old.
            record {
              sound = sound_placing c k;
              placed = λ d p t g e.
                  let same : r ≡ t = cc in
                  subst (λ (z : ℕ). Shows y d (64 + z) (c z (index p z))) same
                  (let g' : Holds S d p r = subst (λ (z : ℕ). Holds S d p z) (sym same) g in
                  elim (cases_Bool (sel (index p r))) [
                    | inl a ↦ subst (λ (v : List ℕ). Shows y d (64 + r) v) (sym (this (index p r))) (st d p g' (true-T a))
                    | inr a ↦
                        shows_went w d (64 + r) (c r (index p r)) (λ b v. let u : p ≡ v.1.0 = once d p v.1.0 g' v.1.1.0 in absurd (subst T (ap (λ (z : ℕ). sel (index z r)) (sym u) ∙ a) v.1.1.1))
                        (shows_among x d (64 + r) (c r (index p r)) (subst (λ (v : List ℕ). Among x d (64 + r) (λ b. b ≡ v)) (sym (old (index p r) a)) (q d p r g' l)))
                  ]);
            };
      }

-- ---- the next superblock

fills_low : (R : Option Rebuild) (ds : List ℕ) (d p r : ℕ) → Joins R ds → Fills R d p r → p < 12
fills_low None ds d p r j f = absurd f
fills_low (Some b) ds d p r j f = subst (λ (q : ℕ). q < 12) (sym f.0) j.1

-- who holds a place holds one below twelve
pub holds_low : (S : Super) → Proper S → (d p r : ℕ) → Holds S d p r → p < 12
holds_low S k d p r (inl u) = omega (arith, u.0, k.roster.most)
holds_low S k d p r (inr u) = fills_low S.rebuild S.members d p r k.joins u

pub proper_journalling : (S : Super) (r : ℕ) → Proper S → r + 1 < 2 ^ 64 → Proper (journalling S r)
proper_journalling S r k l = record { roster = k.roster; joins = k.joins; numbered = l }
