use Rattle.std.proofs.Common.{◌≡◌, ℕ, ◌<◌, None, get_or}
use Rattle.memory.proofs.fate.Plan.schedule.Given as goal

abbrev pub invariant-loop-place : goal.invariant-loop-place
invariant-loop-place l = (l.place-items ≡ l.fn.self.due) × ((j : ℕ) → j < l.place-index → get_or l.fn.self.due j None ≡ None → ⊥)
