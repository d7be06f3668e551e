use Rattle.layout.specs.Super.{says}
use Rattle.store.specs.Commits.{Copying}
use Rattle.store.proofs.commit.write_copies.Given as goal

abbrev pub invariant-loop-at : goal.invariant-loop-at
invariant-loop-at g l = Copying l.at-index (says l.next) l.words (g.D.Disks.shelf l.initial.d) (g.D.Disks.seen l.initial.d) (g.D.Disks.shelf l.d) (g.D.Disks.seen l.d)
