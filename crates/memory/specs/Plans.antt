-- What is planned: deaths and cuts, by the number of the thing asked that they come with.
use Rattle.std.specs.Prelude.{◌≡◌, ℕ, ◌+◌, ◌-◌, ◌^◌, ◌<◌, ◌≤◌, min, ◌⊎◌, Option, Some, None, slice_index_or, slice_set}
use Rattle.memory.specs.declared.fate.Due.{Due}
use Rattle.memory.specs.declared.fate.Plan.{Plan}
use Rattle.memory.specs.declared.fate.Fate.{Fate}
use Rattle.memory.specs.declared.fate.Fate.TheVariants.{Dies, Cut}
use Rattle.memory.specs.declared.fate.Power.{Power}
use Rattle.memory.specs.declared.fate.Power.TheVariants.{Stays, Goes, Gone}

-- what is planned at place i of the table, if anything
abbrev pub due_at : Plan → ℕ → Option Due
due_at p i = slice_index_or p.due i None

-- that much is to come at the thing asked of this number
abbrev pub due : ℕ → Fate → Due
due at f = record { at = at; fate = f }

-- the same plan but for place i
abbrev pub replan : ℕ → Option Due → Plan → Plan
replan i x p = record { asks = p.asks; due = slice_set p.due i x; spared = p.spared; seed = p.seed }

-- it is planned for the n-th thing asked from here on, at a place at which nothing was
pub record Planned (p : Plan) (n : ℕ) (f : Fate) (q : Plan) : Type 0 where
  pub place : ℕ
  pub within : place < 32
  pub free : due_at p place ≡ None
  pub after : q ≡ replan place (Some (due (min (p.asks + n) (2 ^ 64 - 1)) f)) p

-- what is planned at place i is due, and is planned no more
pub record Comes (p : Plan) (i : ℕ) (f : Fate) (q : Plan) : Type 0 where
  pub at : ℕ
  pub was : due_at p i ≡ Some (due at f)
  pub come : at ≤ p.asks
  pub after : q ≡ replan i None p

-- nothing of the kind is due at place i
abbrev pub NotYet : Plan → ℕ → Fate → Type 0
NotYet p i f = (at : ℕ) → due_at p i ≡ Some (due at f) → p.asks < at

-- one more thing was asked
abbrev pub one_more : ℕ → ℕ
one_more n = min (n + 1) (2 ^ 64 - 1)

-- no death is due any more
abbrev pub NoneDies : Plan → Type 0
NoneDies p = (i d : ℕ) → i < 32 → NotYet p i (Dies d)

-- What becomes of the plan while something is asked: nothing if the power had gone; else one thing more was asked, and no death is due any more,
-- nor is a cut, unless there was no room to note one.
abbrev pub Timely : Plan → Power → Plan → Type 0 → Type 0
Timely p Gone q full = q ≡ p
Timely p Goes q full = q.asks ≡ one_more p.asks
Timely p Stays q full = (q.asks ≡ one_more p.asks) × NoneDies q × (((i seed : ℕ) → i < 32 → NotYet q i (Cut seed)) ⊎ full)
