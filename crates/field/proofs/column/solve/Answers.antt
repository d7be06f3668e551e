use Rattle.std.proofs.Common.{arith}
use Rattle.field.proofs.Loops.{not_raised}
use Rattle.field.proofs.Solving.{solved}
use Rattle.field.proofs.column.solve.Goals as goal

pub returns-clause-value : goal.returns-clause-value
returns-clause-value c = solved c.args.x c.args.y c.apart.result c.args.p.now c.args.q.now c.lower-lowered.new.words c.add_to-joined.new.to c.scale-parted.new.words c.add_to.new.to
    (omega arith) (omega arith) c.apart.ensures c.lower-lowered.ensures.value (not_raised _ _ _ c.add_to-joined.ensures.value) c.scale-parted.ensures.value (not_raised _ _ _ c.add_to.ensures.value)
