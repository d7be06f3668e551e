use Rattle.std.proofs.Common.{◌≡◌, ℕ, ◌<◌}
use Rattle.memory.specs.declared.fate.Fate.TheVariants.{Cut}
use Rattle.memory.proofs.Dues.{Early}
use Rattle.memory.proofs.fate.Plan.cut_due.Given as goal

abbrev pub invariant-loop-place : goal.invariant-loop-place
invariant-loop-place l = (l.place-items ≡ l.fn.self.due) × ((j seed : ℕ) → j < l.place-index → Early l.fn.self.asks l.fn.self.due j (Cut seed))
