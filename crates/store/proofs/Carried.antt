-- What is carried from one sector to another, disk by disk: the journalled stripe to its place.
-- Assumes nothing.
use Rattle.std.proofs.Common.{◌≡◌, ℕ, ◌+◌, ◌<◌, true, false, T, ◌⊎◌, List, length, get_or, Some, None, Option, sym, refl, ◌∙◌, subst, inl, inr, arith, below_more}
use Rattle.std.proofs.lemmas.Bool.{cases_eq}
use Rattle.layout.specs.Places.{index}
use Rattle.layout.specs.Super.{Super}
use Rattle.layout.specs.declared.superblock.Rebuild.{Rebuild}
use Rattle.store.specs.Event.{Event}
use Rattle.store.specs.Shelf.{Shelf}
use Rattle.store.specs.Durable.{Among, Shows, Nowhere, Here, Went}
use Rattle.store.specs.Keeping.{Columns, slot, Fills, Inside, Kept, Sound, Placed}
use Rattle.store.specs.Recovers.{Only, Level, Moved, Moving, Across, Brought}
use Rattle.store.proofs.Laws.{went_none, went_then, went_wider, went_anywhere, went_longer, shows_went, shows_among}
use Rattle.store.proofs.Standing.{slot_low, home_journal, home_placed, sound_went}

-- ---- one disk

module _ {x y : Shelf} {es fs : List Event} (w : Went 1 Nowhere x es y fs) where
  pub moved_dead : (d from to : ℕ) → y.alive d ≡ false → Moved d from to x y
  moved_dead d from to h a k t = absurd (subst T h t)

  pub only_none : (d to : ℕ) → Went 2 (Only d to) x es y fs
  only_none d to = went_longer (omega arith) (went_anywhere (Only d to) w)

  module _ {d to : ℕ} {b : List ℕ} {z : Shelf} {gs : List Event} (v : Went 1 (Here d to b) y fs z gs) where
    pub only_one : Went 2 (Only d to) x es z gs
    only_one = went_then (went_anywhere (Only d to) w) (went_wider {n = 1} (omega arith) (λ e t a h. (h.0, h.1)) v)

    pub moved_alive : (from : ℕ) → b ≡ y.shown d from → Shows z d to b → Moved d from to x z
    moved_alive from e s a k t = s t ∙ (e ∙ (w.stays d from (λ c n. n) ∙ k (w.deaths.falls d (v.deaths.falls d t))))

-- ---- one more

module _ {ds : List ℕ} {from to n : ℕ} {x y z : Shelf} {es fs gs : List Event} (apart : from ≡ to → ⊥) (m : Moving n ds from to x es y fs) (at : ℕ) (w : Went 2 (Only at to) y fs z gs) where
  -- a disk that has it, has it still
  keeps_moved : (d : ℕ) → Moved at from to y z → Moved d from to x y → Moved d from to x z
  keeps_moved d f g a k =
      elim (cases_eq d at) [
        | inl e ↦ subst (λ (i : ℕ). Shows z i to a) (sym e) (f a (subst (λ (i : ℕ). Shows y i from a) e (shows_went m.went d from a (λ c v. apart v) k)))
        | inr e ↦ shows_went w d to a (λ c v. e v.0) (g a k)
      ]

  gets_moved : Moved at from to y z → Moved at from to x z
  gets_moved f a k = f a (shows_went m.went at from a (λ c v. apart v) k)

  pub moving_went : Went (n + n + 2) (Level to) x es z gs
  moving_went = went_then m.went (went_wider {n = 2} (omega arith) (λ e t a v. v.1) w)

  pub moving_more : at ≡ get_or ds n 0 → z.on ≡ true → Moved at from to y z → Moving (n + 1) ds from to x es z gs
  moving_more e on f =
      record {
        went = went_longer (omega arith) moving_went;
        lit = λ _. on;
        moved = below_more (λ p. Moved (get_or ds p 0) from to x z) n (λ p l. keeps_moved (get_or ds p 0) f (m.moved p l)) (subst (λ (i : ℕ). Moved i from to x z) e (gets_moved f));
      }

  -- and one that is none of them
  pub moving_other : Moved at from to y z → (d : ℕ) → (d ≡ at) ⊎ Moved d from to x y → Moved d from to x z
  moving_other f d (inl e) = subst (λ (i : ℕ). Moved i from to x z) (sym e) (gets_moved f)
  moving_other f d (inr g) = keeps_moved d f g

pub moving_none : (ds : List ℕ) (from to : ℕ) (x : Shelf) (es : List Event) → Moving 0 ds from to x es x es
moving_none ds from to x es = record { went = went_none (Level to) x es; lit = λ on. on; moved = λ p l. absurd (omega arith) }

pub moving_is : {ds : List ℕ} {from to m n : ℕ} {x y : Shelf} {es fs : List Event} → m ≡ n → Moving m ds from to x es y fs → Moving n ds from to x es y fs
moving_is {ds} {from} {to} {x = x} {y} {es} {fs} e k = subst (λ (i : ℕ). Moving i ds from to x es y fs) e k

-- ---- the journalled stripe

pub brought_none : (S : Super) (x : Shelf) → S.journal ≡ None → Brought S x x
brought_none S x e r j d p h = cc

module _ (S : Super) {from r : ℕ} (i : from ≡ slot S.generation) (j : S.journal ≡ Some r) where
  pub level_across : {n : ℕ} {x y : Shelf} {es fs : List Event} → Went n (Level (64 + r)) x es y fs → Went n (Across S) x es y fs
  level_across w = went_wider (omega arith) (λ d s a v. (r, (j, v))) w

  -- the members, and then the disk that is being filled
  pub across_then : {n at : ℕ} {x y z : Shelf} {es fs gs : List Event} → Went n (Level (64 + r)) x es y fs → Went 2 (Only at (64 + r)) y fs z gs → Went (n + 2) (Across S) x es z gs
  across_then w v = went_then (level_across w) (level_across (went_wider {n = 2} (omega arith) (λ d s a l. l.1) v))

  same_row : (t : ℕ) → S.journal ≡ Some t → r ≡ t
  same_row t e = cc

  pub slot_apart : from ≡ 64 + r → ⊥
  slot_apart e = omega (arith, slot_low S.generation)

  module _ {x y : Shelf} {es fs : List Event} (m : Moving (length S.members) S.members from (64 + r) x es y fs) where
    as_brought : (z : Shelf) (d t : ℕ) → S.journal ≡ Some t → Moved d from (64 + r) x z → Moved d (slot S.generation) (64 + t) x z
    as_brought z d t e f = subst (λ (s : ℕ). Moved d s (64 + t) x z) i (subst (λ (u : ℕ). Moved d from (64 + u) x z) (same_row t e) f)

    -- nobody is being filled so far
    pub brought_members : ((d p : ℕ) → Fills S.rebuild d p r → ⊥) → (x.on ≡ true → y.on ≡ true) × Brought S x y
    brought_members none = (
      m.lit,
      λ t e d p h. as_brought y d t e (elim h [
        | inl u ↦ subst (λ (k : ℕ). Moved k from (64 + r) x y) u.1 (m.moved p u.0)
        | inr u ↦ absurd (none d p (subst (λ (k : ℕ). Fills S.rebuild d p k) (sym (same_row t e)) u))
      ]),
    )

    -- or it is this disk
    pub brought_fill : {z : Shelf} {gs : List Event} (at : ℕ) → ((d p : ℕ) → Fills S.rebuild d p r → d ≡ at) → Went 2 (Only at (64 + r)) y fs z gs → Moved at from (64 + r) y z → Brought S x z
    brought_fill {z} at one w f t e d p h =
        as_brought z d t e (elim h [
          | inl u ↦ moving_other slot_apart m at w f d (inr (subst (λ (k : ℕ). Moved k from (64 + r) x y) u.1 (m.moved p u.0)))
          | inr u ↦ moving_other slot_apart m at w f d (inl (one d p (subst (λ (k : ℕ). Fills S.rebuild d p k) (sym (same_row t e)) u)))
        ])

pub inside_some : (j : Option ℕ) (r n : ℕ) → j ≡ Some r → Inside j n → 64 + r < n
inside_some j r n e h = subst (λ (i : Option ℕ). Inside i n) e h

-- It is in its place then.
pub placed_brought : (x y : Shelf) (S : Super) (c : Columns) → Kept x S c → Brought S x y → Placed y S c
placed_brought x y S c k f d p r h j =
    f r j d p h (c r (index p r)) (shows_among x d (slot S.generation) (c r (index p r))
    (subst (λ (s : ℕ). Among x d s (λ b. b ≡ c r (index p r))) (home_journal S r j) (k.stripes d p r h (inside_some S.journal r x.sectors j k.inside))))

pub sound_across : {n : ℕ} {x y : Shelf} {es fs : List Event} (S : Super) (c : Columns) → Went n (Across S) x es y fs → Sound x S c → Sound y S c
sound_across S c w k = sound_went w S c (λ d p t b h v. absurd (home_placed S t v.0 v.1.0 v.1.1)) (λ d b v. let z = v.1.1 in absurd (omega arith)) k

-- ---- the disk that is being filled

pub fills_of : (R : Option Rebuild) (b : Rebuild) (d p r : ℕ) → R ≡ Some b → Fills R d p r → (p ≡ b.place) × (d ≡ b.disk) × (r < b.done)
fills_of R b d p r e f = subst (λ (Q : Option Rebuild). Fills Q d p r) e f

pub fills_by : (R : Option Rebuild) (b : Rebuild) (r : ℕ) → R ≡ Some b → r < b.done → Fills R b.disk b.place r
fills_by R b r e l = subst (λ (Q : Option Rebuild). Fills Q b.disk b.place r) (sym e) (refl, refl, l)

pub fills_none : (R : Option Rebuild) (d p r : ℕ) → R ≡ None → Fills R d p r → ⊥
fills_none R d p r e f = subst (λ (Q : Option Rebuild). Fills Q d p r) e f
