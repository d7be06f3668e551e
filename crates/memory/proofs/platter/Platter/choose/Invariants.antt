use Rattle.memory.specs.Draws.{Chosen}
use Rattle.memory.proofs.platter.Platter.choose.Given as goal

abbrev pub invariant-loop-i : goal.invariant-loop-i
invariant-loop-i l = Chosen l.initial.self l.i l.seed l.self
