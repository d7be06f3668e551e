-- What the disks keep under a superblock, and what a cut may leave of it: the invariant of the store.
-- Assumes nothing.
use Rattle.std.specs.Prelude.{◌≡◌, ℕ, ◌+◌, ◌%◌, ◌<◌, ◌≤◌, Bool, false, cond, ◌⊎◌, List, length, Some, None, Option, ◌==◌, slice_index}
use Rattle.layout.specs.Places.{index}
use Rattle.layout.specs.Super.{Super, super_of, Proper}
use Rattle.layout.specs.declared.superblock.Rebuild.{Rebuild}
use Rattle.store.specs.Shelf.{Shelf}
use Rattle.store.specs.Durable.{Among, Shows, Steady, Employed}

-- column i of stripe r
abbrev pub Columns : Type 0
Columns = (r i : ℕ) → List ℕ

-- the journal slot of a generation: the two take turns
unfoldable pub slot : ℕ → ℕ
slot g = 1 + g % 2

-- is it stripe r that lies in the journal
abbrev pub is_journalled : Option ℕ → ℕ → Bool
is_journalled None r = false
is_journalled (Some q) r = q == r

-- where the true stripe r is: in the slot if it is journalled, and else in its place
unfoldable pub home : Super → ℕ → ℕ
home S r = cond (is_journalled S.journal r) (slot S.generation) (64 + r)

-- disk d is being filled for place p, and has stripe r
abbrev pub Fills : Option Rebuild → (d p r : ℕ) → Type 0
Fills None d p r = ⊥
Fills (Some b) d p r = (p ≡ b.place) × (d ≡ b.disk) × (r < b.done)

-- disk d holds place p of stripe r: it is the member there, or is being filled for it and has come so far
abbrev pub Holds : Super → (d p r : ℕ) → Type 0
Holds S d p r = ((p < length S.members) × (slice_index S.members p ≡ d)) ⊎ Fills S.rebuild d p r

-- the journalled stripe is one that there is
abbrev pub Inside : Option ℕ → ℕ → Type 0
Inside None n = Unit {0}
Inside (Some r) n = 64 + r < n

-- The columns c are what the disks keep under S: who holds a place is in use, and has its column where the true stripe is, now and after a cut.
pub record Kept (x : Shelf) (S : Super) (c : Columns) : Type 0 where
  pub steady : Steady x
  pub least : 128 ≤ x.sectors
  pub most : x.sectors ≤ 4294967296
  pub inside : Inside S.journal x.sectors
  pub proper : Proper S
  pub employed : (d p r : ℕ) → Holds S d p r → Employed x d
  pub stripes : (d p r : ℕ) → Holds S d p r → 64 + r < x.sectors → Among x d (home S r) (λ b. b ≡ c r (index p r))

-- a sector 0 that says S, or is older
abbrev pub UpTo : Super → List ℕ → Type 0
UpTo S b = ((super_of b).generation < S.generation) ⊎ (super_of b ≡ S)

-- S is in force: the members at places 0, 1 and 2 say so, and no disk says anything that is as new.
pub record Sound (x : Shelf) (S : Super) (c : Columns) : Type 0 where
  pub kept : Kept x S c
  pub three : (p : ℕ) → p < 3 → Among x (slice_index S.members p) 0 (λ b. super_of b ≡ S)
  pub all : (d : ℕ) → d < 16 → Among x d 0 (UpTo S)

-- Two candidates, as between the two syncs of a commit: the disks keep what both want, S's three members say one of them, and nobody says anything else
-- that is as new as S.
pub record Torn (x : Shelf) (S : Super) (c : Columns) (S' : Super) (c' : Columns) : Type 0 where
  pub old : Kept x S c
  pub new : Kept x S' c'
  pub later : (S.generation < S'.generation) ⊎ (S ≡ S')
  pub three : (p : ℕ) → p < 3 → Among x (slice_index S.members p) 0 (λ b. (super_of b ≡ S) ⊎ (super_of b ≡ S'))
  pub all : (d : ℕ) → d < 16 → Among x d 0 (λ b. UpTo S b ⊎ (super_of b ≡ S'))

-- the journalled stripe is in its place too, as is shown until a cut
abbrev pub Placed : Shelf → Super → Columns → Type 0
Placed x S c = (d p r : ℕ) → Holds S d p r → S.journal ≡ Some r → Shows x d (64 + r) (c r (index p r))

-- S is in force, and every stripe is shown in its place
pub record Ready (x : Shelf) (S : Super) (c : Columns) : Type 0 where
  pub sound : Sound x S c
  pub placed : Placed x S c

-- what a cut may leave of the change from (S, c) to (S', c'): either one, or the choice between them
abbrev pub Left : Shelf → Super → Columns → Super → Columns → Type 0
Left x S c S' c' = Torn x S c S' c' ⊎ (Sound x S c ⊎ Sound x S' c')
