-- A sector of the store among the columns of its stripes, and what reading and writing it come to.
-- Assumes nothing.
use Rattle.std.specs.Prelude.{◌≡◌, ℕ, ◌+◌, ◌-◌, true, false, ◌⊎◌, List, length, ◌≢◌}
use Rattle.field.specs.Stripe.{Codeword}
use Rattle.layout.specs.Places.{column_of, stripe_of}
use Rattle.layout.specs.Super.{Super}
use Rattle.store.specs.Shelf.{Shelf}
use Rattle.store.specs.Keeping.{Columns, Sound, Ready, Left}
use Rattle.store.specs.Writes.{journalling}

-- sector s of the store, on disks of n sectors
abbrev pub sector_of : ℕ → ℕ → Columns → List ℕ
sector_of n s c = c (stripe_of (n - 64) s) (2 + column_of (n - 64) s)

-- every stripe of k columns is a codeword
abbrev pub Coded : ℕ → Columns → Type 0
Coded k c = (r : ℕ) → Codeword k (c r)

-- c' is c with sector s holding b, and no other sector changed
pub record Rewrites (n s : ℕ) (b : List ℕ) (k : ℕ) (c c' : Columns) : Type 0 where
  pub code : Coded k c'
  pub this : sector_of n s c' ≡ b
  pub others : (i : ℕ) → (i ≢ s) → sector_of n i c' ≡ sector_of n i c

-- sector s was read
pub record Fetched (n s : ℕ) (words : List ℕ) (S : Super) (x y : Shelf) : Type 0 where
  pub lit : x.on ≡ true → y.on ≡ true
  pub words_are : (c : Columns) → Ready x S c → Coded (length S.members) c → words ≡ sector_of n s c

-- sector s was written, for good
pub record Saved (n s : ℕ) (b : List ℕ) (S : Super) (x y : Shelf) : Type 0 where
  pub lit : y.on ≡ true
  pub ready : (c : Columns) → Ready x S c → Coded (length S.members) c → (c' : Columns) × (Ready y (journalling S (stripe_of (n - 64) s)) c' × Rewrites n s b (length S.members) c c')

-- the power went: nothing came of it, or it may have
pub record Unsaved (n s : ℕ) (b : List ℕ) (S : Super) (x y : Shelf) : Type 0 where
  pub off : y.on ≡ false
  pub left :
      (c : Columns) → Ready x S c → Coded (length S.members) c →
      Sound y S c ⊎ ((c' : Columns) × (Left y S c (journalling S (stripe_of (n - 64) s)) c' × Rewrites n s b (length S.members) c c'))
