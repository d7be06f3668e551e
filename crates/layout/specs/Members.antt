-- Who the members are, by place, and which places are known to have a dead disk.
-- Assumes nothing.
use Rattle.std.specs.Prelude.{◌≡◌, ℕ, ◌<◌, ◌≤◌, Bool, false, cond, ◌||◌, List, ◌++◌, length, take, drop, replicate, ◌-◌, Some, None, Option, ◌==◌, ◌≢◌, slice_index}
use Rattle.std.proofs.Common.{sym, ap, ◌∙◌}
use Rattle.std.proofs.lemmas.List.{take-append-drop}
use Rattle.layout.specs.declared.members.Marks.{Marks}
use Rattle.layout.specs.declared.members.Marks.TheVariants.{Nobody, One, Two}

-- a list of members: 4 to 12 disks of the sixteen, no disk twice
pub record Roster (ds : List ℕ) : Type 0 where
  pub least : 4 ≤ length ds
  pub most : length ds ≤ 12
  pub known : (p : ℕ) → p < length ds → slice_index ds p < 16
  pub apart : (p q : ℕ) → p < length ds → q < p → slice_index ds q ≢ slice_index ds p

-- Who the members are, in their places, and which of these are known to have a dead disk.
pub record Membership : Type 0 where
  pub list : List ℕ
  pub dead : Marks

-- Of twelve words the first n are members, and behind them are noughts.
pub record Packed (n : ℕ) (ds : List ℕ) : Type 0 where
  pub roster : Roster (take n ds)
  pub many : length (take n ds) ≡ n
  pub rest : drop n ds ≡ replicate (12 - n) 0

-- Twelve such words are told by their members alone.
pub unpacked : (n : ℕ) (ds : List ℕ) → Packed n ds → take n ds ++ replicate (12 - length (take n ds)) 0 ≡ ds
unpacked n ds h =
    ap (λ (k : ℕ). take n ds ++ replicate (12 - k) 0) h.many ∙ (ap (λ (xs : List ℕ). take n ds ++ xs) (sym h.rest) ∙ take-append-drop n ds)

-- d is none of them
abbrev pub Absent : ℕ → List ℕ → Type 0
Absent d ds = (p : ℕ) → p < length ds → slice_index ds p ≢ d

-- where d is, if it is one of them
abbrev pub Finds : Option ℕ → ℕ → List ℕ → Type 0
Finds None d ds = Absent d ds
Finds (Some p) d ds = (p < length ds) × (slice_index ds p ≡ d)

-- is the place marked
abbrev pub marked : Marks → ℕ → Bool
marked Nobody p = false
marked (One a) p = a == p
marked (Two a b) p = a == p || b == p

-- with a mark at place p, unless there are two already
abbrev pub with_mark : Marks → ℕ → Marks
with_mark Nobody p = One p
with_mark (One a) p = cond (a == p) (One a) (Two a p)
with_mark (Two a b) p = Two a b

-- a mark at place a, unless that is p
abbrev pub unless : ℕ → ℕ → Marks
unless a p = cond (a == p) Nobody (One a)

-- with none at place p
abbrev pub without_mark : Marks → ℕ → Marks
without_mark Nobody p = Nobody
without_mark (One a) p = unless a p
without_mark (Two a b) p = cond (a == p) (unless b p) (cond (b == p) (One a) (Two a b))
