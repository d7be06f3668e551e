-- What is asked under the eight tags, and the words that were lent with it, against what is seen.
-- Assumes nothing.
use Rattle.std.specs.Prelude.{◌≡◌, ℕ, ◌+◌, ◌%◌, ◌<◌, ◌≤◌, Bool, true, false, cond, not, ◌||◌, T, List, Some, None, Option, Ok, Err, Result, nat_le, nat_lt, slice_index_or, codes}
use Rattle.store.specs.Store.{Way, Free, Under, Over, core}
use Rattle.store.specs.declared.tags.Tag.{Tag}
use Rattle.store.specs.declared.refusal.Refusal.{Refusal}
use Rattle.store.specs.declared.refusal.Refusal.TheVariants.{Tag as BadTag, Sector, Unbuilt}
use Rattle.store.specs.declared.Ask.{Ask}
use Rattle.store.specs.declared.Ask.TheVariants.{Read, Write, Flush, Size, Add, Replace}

-- what is asked under tag t
abbrev pub at : List (Option Ask) → ℕ → Option Ask
at ts t = slice_index_or ts t None

-- nothing is
abbrev pub is_open : Option Ask → Bool
is_open None = true
is_open (Some a) = false

-- a sector that is asked for is one of so many
abbrev pub Reaches : Ask → ℕ → Type 0
Reaches (Read s) n = s < n
Reaches (Write s) n = s < n
Reaches Flush n = Unit {0}
Reaches Size n = Unit {0}
Reaches (Add e) n = Unit {0}
Reaches (Replace d e) n = Unit {0}

-- A tag's entry o and its words w are what is seen of it, in a store of n sectors: between turns, what was done was told.
abbrev pub Entry : Option Ask → List ℕ → ℕ → Way → Type 0
Entry o w n Free = o ≡ None
Entry o w n (Under a v m g) = (o ≡ Some a) × (v ≡ w) × T (core a) × Reaches a n
Entry o w n (Over a r v g) = ⊥

-- One that is j tags from the cursor on is told within 7 − j turns.
abbrev pub Waits : Way → ℕ → Type 0
Waits Free j = Unit {0}
Waits (Under a w m g) j = g + j ≤ 7
Waits (Over a r w g) j = g + j ≤ 7

-- t is the first from the cursor on under which something is asked, and that is a
pub record First (t : ℕ) (a : Ask) (ts : List (Option Ask)) (cursor : ℕ) : Type 0 where
  pub k : ℕ
  pub near : k < 8
  pub here : t ≡ (cursor + k) % 8
  pub asked : at ts t ≡ Some a
  pub before : (j : ℕ) → j < k → at ts ((cursor + j) % 8) ≡ None

-- what is due: the first from the cursor on, if there is any
abbrev pub Due : Option (Tag × Ask) → List (Option Ask) → ℕ → Type 0
Due None ts cursor = (j : ℕ) → j < 8 → at ts ((cursor + j) % 8) ≡ None
Due (Some e) ts cursor = First e.0.number e.1 ts cursor

-- a number as a tag, if it is one
abbrev pub TagOf : ℕ → Result Tag Refusal → Type 0
TagOf n (Ok t) = t.number ≡ n
TagOf n (Err why) = (why ≡ BadTag) × (8 ≤ n)

-- the number by which a refusal is told
abbrev pub number_of : Refusal → ℕ
number_of BadTag = 1
number_of Sector = 3
number_of Unbuilt = 9

-- and what is printed of it
abbrev pub text_of : Refusal → List ℕ
text_of BadTag = codes "no such tag, or something is asked under it"
text_of Sector = codes "no such sector"
text_of Unbuilt = codes "not built"

-- the number of why, or 0 where it is taken
abbrev pub numbered : {A : Type 0} → Result A Refusal → ℕ
numbered (Ok _) = 0
numbered (Err why) = number_of why

-- why a sector number is turned away, of a store of n sectors
abbrev pub beyond : ℕ → Ask → ℕ
beyond n (Read s) = cond (nat_lt s n) 0 3
beyond n (Write s) = cond (nat_lt s n) 0 3
beyond n Flush = 0
beyond n Size = 0
beyond n (Add e) = 9
beyond n (Replace d e) = 9

-- why it is turned away, or 0
abbrev pub refusal_of : List (Option Ask) → (n t : ℕ) → Ask → ℕ
refusal_of ts n t a = cond (nat_le 8 t || not (is_open (at ts t))) 1 (beyond n a)
