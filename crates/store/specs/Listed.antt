-- What the layout says of the members as a list, in the words of what is seen.
-- Assumes nothing.
use Rattle.std.specs.Prelude.{◌≡◌, ℕ, ◌<◌, true, false, List, length, ◌≢◌, slice_index, slice_set}
use Rattle.layout.specs.Members.{Absent}
use Rattle.store.specs.Store.{is_in, put}

-- A disk that is absent is not in, one that has a place is, and to put e where d has its first place is to set that place.
pub record Listed : Type 0 where
  pub absent : (d : ℕ) (ds : List ℕ) → Absent d ds → is_in d ds ≡ false
  pub present : (d : ℕ) (ds : List ℕ) (p : ℕ) → p < length ds → slice_index ds p ≡ d → is_in d ds ≡ true
  pub puts : (d e : ℕ) (ds : List ℕ) (p : ℕ) → p < length ds → slice_index ds p ≡ d → ((q : ℕ) → q < p → slice_index ds q ≢ d) → put d e ds ≡ slice_set ds p e
