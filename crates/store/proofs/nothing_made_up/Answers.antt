use Rattle.store.proofs.Origin.{originates}
use Rattle.store.proofs.nothing_made_up.Goals as goal

pub returns : goal.returns
returns c = λ can n es h r s k within. (originates r).content s k
