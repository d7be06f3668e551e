use Rattle.std.proofs.Common.{length, ap, arith}
use Rattle.layout.proofs.Listing.{sets_done}
use Rattle.layout.proofs.superblock.write_members.Goals as goal

pub returns : goal.returns
returns c = sets_done c.args.members.now.list c.loop-p.words c.args.words.now 8 c.loop-p.p (omega (arith, c.disks-disk-items.ensures.roster.most)) (omega (arith, ap length c.disks-disk-items.ensures.is)) c.loop-p.invariant
