-- Which member has which column of a stripe, and where a sector of the store is.
-- Assumes nothing.
use Rattle.std.specs.Prelude.{◌≡◌, ℕ, ◌+◌, ◌-◌, ◌*◌, ◌/◌, ◌%◌, ◌<◌, ◌≤◌, cond, nat_lt}

-- the place of the member that has column i of stripe r: it turns with the stripe among the first four, and is fixed beyond them
unfoldable pub place : ℕ → ℕ → ℕ
place i r = cond (nat_lt i 4) ((i + r % 4) % 4) i

-- the column that the member at place p has of stripe r
unfoldable pub index : ℕ → ℕ → ℕ
index p r = cond (nat_lt p 4) ((p + 3 * (r % 4)) % 4) p

-- the data column, from 0, that sector s of the store is in, with m stripes
unfoldable pub column_of : ℕ → ℕ → ℕ
column_of m s = s / m

-- the stripe that it is in
unfoldable pub stripe_of : ℕ → ℕ → ℕ
stripe_of m s = s % m

-- Among k members, each column has a place and each place a column, and one is the other's inverse.
pub record Turns (k r : ℕ) : Type 0 where
  pub within : (i : ℕ) → i < k → place i r < k
  pub column : (p : ℕ) → p < k → index p r < k
  pub back : (i : ℕ) → index (place i r) r ≡ i
  pub forth : (p : ℕ) → place (index p r) r ≡ p

abbrev pub PlacesTurn : Type 0
PlacesTurn = (k r : ℕ) → 4 ≤ k → Turns k r

-- The sectors of a store of k members are in its columns and stripes, and no two are in one. Where one is doesn't depend on k, so this holds before,
-- during and after a change.
pub record Homes (m : ℕ) : Type 0 where
  pub within : (k s : ℕ) → s < (k - 2) * m → (2 + column_of m s < k) × (stripe_of m s < m)
  pub apart : (s t : ℕ) → stripe_of m s ≡ stripe_of m t → place (2 + column_of m s) (stripe_of m s) ≡ place (2 + column_of m t) (stripe_of m t) → s ≡ t

abbrev pub OneHome : Type 0
OneHome = (m : ℕ) → 0 < m → Homes m
