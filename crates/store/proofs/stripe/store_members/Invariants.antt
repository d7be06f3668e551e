use Rattle.field.specs.Stripe.{held}
use Rattle.store.specs.Stripes.{Storing, chosen}
use Rattle.store.proofs.stripe.store_members.Given as goal

abbrev pub invariant-loop-i : goal.invariant-loop-i
invariant-loop-i g l =
    Storing l.i (chosen l.which) l.members.list l.row.sector l.row.stripe (held l.stripe)
    (g.D.Disks.shelf l.initial.d) (g.D.Disks.seen l.initial.d) (g.D.Disks.shelf l.d) (g.D.Disks.seen l.d)
