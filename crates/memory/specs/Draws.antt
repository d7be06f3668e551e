-- The pseudo-random sequence that a cut draws from: SplitMix64. Its k-th number, counted from 0, for the number S that it starts from.
use Rattle.std.specs.Prelude.{◌≡◌, ℕ, ◌+◌, ◌*◌, ◌/◌, ◌%◌, ◌^◌, cond, ◌&&◌, List, length, bit_xor, nat_le}
use Rattle.memory.specs.declared.platter.Platter.{Platter}
use Rattle.memory.specs.Held.{waits, cell_at}

abbrev pub stirred : ℕ → ℕ
stirred z = bit_xor z (z / 2 ^ 30) * 0xBF58476D1CE4E5B9 % 2 ^ 64

abbrev pub beaten : ℕ → ℕ
beaten z = bit_xor z (z / 2 ^ 27) * 0x94D049BB133111EB % 2 ^ 64

abbrev pub poured : ℕ → ℕ
poured z = bit_xor z (z / 2 ^ 31)

unfoldable pub drawn : ℕ → ℕ → ℕ
drawn seed k = poured (beaten (stirred ((seed + (k + 1) % 2 ^ 64 * 0x9E3779B97F4A7C15 % 2 ^ 64) % 2 ^ 64)))

-- What a cut leaves of the cell at place k: what was there at the last sync, if it was written since and the draw's highest bit is 1; else what
-- is shown.
abbrev pub left_of : Platter → ℕ → ℕ → List ℕ
left_of p seed k = cond (waits p k && nat_le (2 ^ 63) (drawn seed k)) (cell_at p k).lasting (cell_at p k).shown

-- the same cells, of which the first i are listed
abbrev pub listing : ℕ → Platter → Platter
listing i p = record { cells = p.cells; written = i }

-- Of the cells of p those are chosen that are listed below i, and nothing else is changed.
pub record ChosenAt (p : Platter) (i seed : ℕ) (q : Platter) (k : ℕ) : Type 0 where
  pub slot : (cell_at q k).slot ≡ (cell_at p k).slot
  pub listed : (cell_at q k).listed ≡ (cell_at p k).listed
  pub lasting : (cell_at q k).lasting ≡ (cell_at p k).lasting
  pub shown : (cell_at q k).shown ≡ left_of (listing i p) seed k

abbrev pub Chosen : Platter → ℕ → ℕ → Platter → Type 0
Chosen p i seed q = (length q.cells.now ≡ length p.cells.now) × ((k : ℕ) → ChosenAt p i seed q k)
