use Rattle.std.proofs.Common.{◌∙◌}
use Rattle.valley.proofs.Room.{kept_more}
use Rattle.valley.proofs.line.keep.Goals as goal

pub returns : goal.returns
returns c begun h = rw (c.write.ensures.count, h) at c.write.ensures.bytes ∙ kept_more 256 begun c.args.bytes.now
