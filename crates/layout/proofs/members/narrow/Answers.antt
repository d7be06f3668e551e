use Rattle.std.proofs.Common.{zero-add, arith}
use Rattle.layout.proofs.Listing.{sets_done}
use Rattle.layout.proofs.members.narrow.Goals as goal

pub returns : goal.returns
returns c = simp zero-add at (sets_done c.args.words.now c.loop-p.disks c.args.disks.now 0 c.loop-p.p (omega arith) (omega arith) (rw zero-add c.loop-p.invariant))
