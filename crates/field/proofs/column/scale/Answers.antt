use Rattle.std.proofs.Common.{arith}
use Rattle.field.specs.Word.{product8}
use Rattle.field.proofs.Loops.{over_more}
use Rattle.field.proofs.column.scale.Goals as goal

pub loop-word-preserved : goal.loop-word-preserved
loop-word-preserved c = (
  over_more (product8 c.args.c) c.args.words.now c.loop-word.words c.loop-word.word-index c.times.result (omega arith) (omega arith) c.loop-word.invariant.0 c.times.ensures,
  omega arith,
)
