-- A commit: the moment in which a next superblock comes into force.
-- Assumes nothing.
use Rattle.std.specs.Prelude.{◌≡◌, ℕ, ◌<◌, true, false, ◌⊎◌, List, slice_index}
use Rattle.layout.specs.Super.{Super, super_of, Proper}
use Rattle.store.specs.Event.{Event}
use Rattle.store.specs.Shelf.{Shelf}
use Rattle.store.specs.Durable.{Among, Shows, Settled, Employed, Nowhere, Went}
use Rattle.store.specs.Keeping.{Columns, Kept, Sound, Torn}

-- S can be written to its members at places 0, 1 and 2
pub record CanHead (x : Shelf) (S : Super) : Type 0 where
  pub size : 0 < x.sectors
  pub proper : Proper S
  pub employed : (p : ℕ) → p < 3 → Employed x (slice_index S.members p)

-- only words that say S are written, and only to sector 0 of the members at places 0, 1 and 2
abbrev pub Heading : Super → (d s : ℕ) → List ℕ → Type 0
Heading S d s b = (s ≡ 0) × (super_of b ≡ S) × ((p : ℕ) × ((p < 3) × (d ≡ slice_index S.members p)))

-- the first n of them were asked to say S, by the words b
pub record Copying (n : ℕ) (S : Super) (b : List ℕ) (x : Shelf) (es : List Event) (y : Shelf) (fs : List Event) : Type 0 where
  pub went : Went n (Heading S) x es y fs
  pub shows : (p : ℕ) → p < n → Shows y (slice_index S.members p) 0 b

-- all three say S, and that lasts
pub record Headed (S : Super) (y : Shelf) : Type 0 where
  pub lit : y.on ≡ true
  pub settled : Settled y
  pub three : (p : ℕ) → p < 3 → Among y (slice_index S.members p) 0 (λ b. super_of b ≡ S)

-- whatever a sync makes of x, the disks keep c under S there: what was staged is all that S wants
abbrev pub After : Shelf → Super → Columns → Type 0
After x S c = (z : Shelf) (es fs : List Event) → Went 1 Nowhere x es z fs → Settled z → Kept z S c

-- From x to y the next superblock came into force, for whichever was before, if all that it wants was staged.
pub record Committed (S' : Super) (x y : Shelf) : Type 0 where
  pub lit : y.on ≡ true
  pub settled : Settled y
  pub sound : (S : Super) (c c' : Columns) → Sound x S c → S.generation < S'.generation → After x S' c' → Sound y S' c'

-- The power went meanwhile: the one before is in force, or either is.
pub record Interrupted (S' : Super) (x y : Shelf) : Type 0 where
  pub off : y.on ≡ false
  pub cut : (S : Super) (c c' : Columns) → Sound x S c → S.generation < S'.generation → After x S' c' → Sound y S c ⊎ Torn y S c S' c'
