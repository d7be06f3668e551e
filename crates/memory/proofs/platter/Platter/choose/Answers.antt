use Rattle.memory.proofs.platter.Platter.choose.Goals as goal

pub loop-i-preserved : goal.loop-i-preserved
loop-i-preserved c = c.choose_one.ensures.chosen _ c.loop-i.invariant
