use Rattle.store.specs.Stripes.{Loading}
use Rattle.store.proofs.stripe.load.Given as goal

abbrev pub invariant-loop-i : goal.invariant-loop-i
invariant-loop-i g l =
    Loading l.i l.missing l.members.list l.row.sector l.row.stripe l.stripe (g.D.Disks.shelf l.initial.d) (g.D.Disks.seen l.initial.d) (g.D.Disks.shelf l.d) (g.D.Disks.seen l.d)
