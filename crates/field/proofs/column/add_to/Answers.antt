use Rattle.std.proofs.Common.{◌∙◌, arith}
use Rattle.field.proofs.Loops.{upto_none, upto_more, upto_all}
use Rattle.field.proofs.column.add_to.Goals as goal

pub loop-i-init : goal.loop-i-init
loop-i-init g c = (upto_none g.R.Raising.raise c.args.to.now c.args.other.now, omega arith)

pub loop-i-preserved : goal.loop-i-preserved
loop-i-preserved g c = (
  upto_more g.R.Raising.raise c.loop-i.i c.args.to.now c.args.other.now c.loop-i.to c.raised.result (omega arith) c.loop-i.invariant.0 c.raised.ensures,
  omega arith,
)

pub returns-clause-value : goal.returns-clause-value
returns-clause-value g c = c.loop-i.invariant.0 ∙ upto_all g.R.Raising.raise c.args.to.now c.args.other.now c.loop-i.i (omega arith) (omega arith)
