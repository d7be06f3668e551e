-- The change of one stripe: whole in the journal, committed, and then in its place.
-- Assumes nothing.
use Rattle.std.specs.Prelude.{◌≡◌, ℕ, ◌+◌, ◌<◌, Bool, true, false, T, List, length, Some, ◌≢◌, slice_index}
use Rattle.layout.specs.Places.{index}
use Rattle.layout.specs.Members.{Membership, marked}
use Rattle.layout.specs.Super.{Super}
use Rattle.store.specs.Shelf.{Shelf}
use Rattle.store.specs.Durable.{Among}
use Rattle.store.specs.Keeping.{Columns, Holds, Sound, Ready, Left}

-- members that are marked are dead
abbrev pub MarksTrue : Shelf → Membership → Type 0
MarksTrue x m = (p : ℕ) → p < length m.list → T (marked m.dead p) → x.alive (slice_index m.list p) ≡ false

-- the next superblock, with stripe r in the journal, which says the same otherwise
abbrev pub journalling : Super → ℕ → Super
journalling S r = record { generation = S.generation + 1; members = S.members; rebuild = S.rebuild; journal = Some r }

-- all stripes are in their places, and last
abbrev pub InPlace : Shelf → Super → Columns → Type 0
InPlace x S c = (d p r : ℕ) → Holds S d p r → 64 + r < x.sectors → Among x d (64 + r) (λ b. b ≡ c r (index p r))

-- c' is c but for stripe r, whose columns are h
pub record Changes (r : ℕ) (h : ℕ → List ℕ) (c c' : Columns) : Type 0 where
  pub others : (t i : ℕ) → (t ≢ r) → c' t i ≡ c t i
  pub this : (i : ℕ) → c' r i ≡ h i

-- Stripe r lies in the journal with the columns h, and that is in force; in their places all stripes are as before.
pub record Journalled (S : Super) (r : ℕ) (h : ℕ → List ℕ) (x y : Shelf) : Type 0 where
  pub lit : y.on ≡ true
  pub sound : (c c' : Columns) → Ready x S c → Changes r h c c' → Sound y (journalling S r) c'
  pub places : (c : Columns) → Ready x S c → InPlace y S c

-- The power went: the stripe is as before, or either.
pub record Unjournalled (S : Super) (r : ℕ) (h : ℕ → List ℕ) (x y : Shelf) : Type 0 where
  pub off : y.on ≡ false
  pub left : (c c' : Columns) → Ready x S c → Changes r h c c' → Left y S c (journalling S r) c'

-- The journalled stripe is in its place, where the columns that are not selected lay already.
pub record Placing (sel : ℕ → Bool) (S : Super) (r : ℕ) (h : ℕ → List ℕ) (x y : Shelf) : Type 0 where
  pub lit : x.on ≡ true → y.on ≡ true
  pub ready : (c₀ c : Columns) → Sound x S c → InPlace x S c₀ → ((i : ℕ) → c r i ≡ h i) → ((i : ℕ) → sel i ≡ false → c r i ≡ c₀ r i) → Ready y S c

-- The power went: the stripe is in the journal still.
pub record Unplaced (S : Super) (x y : Shelf) : Type 0 where
  pub off : y.on ≡ false
  pub sound : (c : Columns) → Sound x S c → Sound y S c
