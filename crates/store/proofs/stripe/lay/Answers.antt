use Rattle.std.proofs.Common.{arith}
use Rattle.store.proofs.Laws.{went_none, went_longer}
use Rattle.store.proofs.stripe.lay.Goals as goal

pub returns-else-not-is_marked-clause-went : goal.returns-else-not-is_marked-clause-went
returns-else-not-is_marked-clause-went g c = went_longer (omega arith) (went_none _ _ _)
