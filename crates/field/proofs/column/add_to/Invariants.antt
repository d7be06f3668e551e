use Rattle.std.proofs.Common.{◌≡◌, ◌+◌, ◌*◌}
use Rattle.field.proofs.Loops.{upto}
use Rattle.field.proofs.column.add_to.Given as goal

abbrev pub invariant-loop-i : goal.invariant-loop-i
invariant-loop-i g l = (l.to ≡ upto g.R.Raising.raise l.i l.initial.to l.other) × (l.steps ≡ l.i * (g.R.Raising.STEPS + 1))
