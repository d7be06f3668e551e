use Rattle.store.specs.Recovers.{Looked}
use Rattle.store.proofs.recovery.look.Given as goal

abbrev pub invariant-loop-i : goal.invariant-loop-i
invariant-loop-i g l = Looked l.i l.best (g.D.Disks.shelf l.initial.d) (g.D.Disks.seen l.initial.d) (g.D.Disks.shelf l.d) (g.D.Disks.seen l.d)
