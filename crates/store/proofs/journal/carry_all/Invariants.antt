use Rattle.store.specs.Recovers.{Moving}
use Rattle.store.proofs.journal.carry_all.Given as goal

abbrev pub invariant-loop-at : goal.invariant-loop-at
invariant-loop-at g l = Moving l.at-index l.members.list l.from l.to (g.D.Disks.shelf l.initial.d) (g.D.Disks.seen l.initial.d) (g.D.Disks.shelf l.d) (g.D.Disks.seen l.d)
