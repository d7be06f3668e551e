use Rattle.std.proofs.Common.{arith}
use Rattle.store.proofs.Laws.{went_none, went_longer}
use Rattle.store.proofs.stripe.fetch.Goals as goal

pub returns-then-is_marked-clause-went : goal.returns-then-is_marked-clause-went
returns-then-is_marked-clause-went g c =
    let m = c.args.members.now in
    went_longer (omega arith) (went_none _ _ _)
