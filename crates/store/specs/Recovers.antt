-- Coming up: which superblock is found among the disks, that it is written again, and that its journalled stripe is brought to its place.
-- Assumes nothing.
use Rattle.std.specs.Prelude.{◌≡◌, ℕ, ◌+◌, ◌<◌, ◌≤◌, true, false, cond, T, ◌⊎◌, List, Some, nat_le, slice_index}
use Rattle.field.specs.Column.{noughts}
use Rattle.field.specs.Stripe.{Codeword}
use Rattle.layout.specs.Super.{Super, super_of, blank}
use Rattle.store.specs.Event.{Event}
use Rattle.store.specs.Shelf.{Shelf, AtStart}
use Rattle.store.specs.Durable.{Shows, Settled, Nowhere, Went}
use Rattle.store.specs.Keeping.{Columns, slot, Holds, Sound, Torn, Ready, Left}

-- what may be found between two lives: one superblock in force, or one of two
pub record Open (x : Shelf) : Type 0 where
  pub S : Super
  pub c : Columns
  pub S' : Super
  pub c' : Columns
  pub torn : Torn x S c S' c'

-- the newer of two sectors, and of two that are as new the second
abbrev pub newer : List ℕ → List ℕ → List ℕ
newer a b = cond (nat_le (super_of a).generation (super_of b).generation) b a

-- of the disks below n that answered, from x to y, b is the newest sector 0; where none did it is of generation 0
pub record Newest (n : ℕ) (b : List ℕ) (x y : Shelf) : Type 0 where
  pub most : (e : ℕ) → e < n → T (y.alive e) → (super_of (y.shown e 0)).generation ≤ (super_of b).generation
  pub from : (((super_of b).generation ≡ 0) × ((e : ℕ) → e < n → y.alive e ≡ false)) ⊎ ((e : ℕ) × (e < 16) × T (x.alive e) × (b ≡ x.shown e 0))

pub record Looked (n : ℕ) (b : List ℕ) (x : Shelf) (es : List Event) (y : Shelf) (fs : List Event) : Type 0 where
  pub went : Went n Nowhere x es y fs
  pub newest : Newest n b x y

-- S was found and is in force: it is one of the candidates, whichever they were
pub record Recovered (S : Super) (x y : Shelf) : Type 0 where
  pub lit : y.on ≡ true
  pub settled : Settled y
  pub right : (T : Super) (c : Columns) (T' : Super) (c' : Columns) → Torn x T c T' c' → ((S ≡ T) × Sound y T c) ⊎ ((S ≡ T') × Sound y T' c')

-- the power went before that: the candidates are the same
pub record Lapsed (x y : Shelf) : Type 0 where
  pub off : y.on ≡ false
  pub torn : (S : Super) (c : Columns) (S' : Super) (c' : Columns) → Torn x S c S' c' → Torn y S c S' c'

-- anything may have been written at one sector of one disk, or at that sector of any
abbrev pub Only : ℕ → ℕ → (d s : ℕ) → List ℕ → Type 0
Only d s e t a = (e ≡ d) × (t ≡ s)

abbrev pub Level : ℕ → (d s : ℕ) → List ℕ → Type 0
Level s e t a = t ≡ s

-- what d showed at one sector in x it shows at another in y
abbrev pub Moved : (d from to : ℕ) → Shelf → Shelf → Type 0
Moved d from to x y = (a : List ℕ) → Shows x d from a → Shows y d to a

-- so does each of the first n of these disks
pub record Moving (n : ℕ) (ds : List ℕ) (from to : ℕ) (x : Shelf) (es : List Event) (y : Shelf) (fs : List Event) : Type 0 where
  pub went : Went (n + n) (Level to) x es y fs
  pub lit : x.on ≡ true → y.on ≡ true
  pub moved : (p : ℕ) → p < n → Moved (slice_index ds p) from to x y

-- only the place of the journalled stripe was written
abbrev pub Across : Super → (d s : ℕ) → List ℕ → Type 0
Across S e t a = (r : ℕ) × ((S.journal ≡ Some r) × (t ≡ 64 + r))

-- whoever holds the journalled stripe shows in its place what it had in the slot
abbrev pub Brought : Super → Shelf → Shelf → Type 0
Brought S x y = (r : ℕ) → S.journal ≡ Some r → (d p : ℕ) → Holds S d p r → Moved d (slot S.generation) (64 + r) x y

-- it has come up under S, which is one of the candidates, and every stripe is in its place
pub record Up (S : Super) (x y : Shelf) : Type 0 where
  pub lit : y.on ≡ true
  pub right : (T : Super) (c : Columns) (T' : Super) (c' : Columns) → Torn x T c T' c' → ((S ≡ T) × Ready y T c) ⊎ ((S ≡ T') × Ready y T' c')

-- the power went meanwhile: what is left is of those candidates
pub record Down (x y : Shelf) : Type 0 where
  pub off : y.on ≡ false
  pub left : (S : Super) (c : Columns) (S' : Super) (c' : Columns) → Torn x S c S' c' → Left y S c S' c'

-- every column is noughts
abbrev pub empty : Columns
empty r i = noughts

-- A blank shelf is a store: the blank superblock is in force, every column is noughts and in its place, and that is a codeword for any number of members.
pub record Begins : Type 0 where
  pub ready : (x : Shelf) → AtStart x → Ready x blank empty
  pub coded : (k r : ℕ) → Codeword k (empty r)
