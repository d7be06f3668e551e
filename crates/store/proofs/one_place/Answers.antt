use Rattle.store.proofs.Membership.{placed}
use Rattle.store.proofs.Truths.{true-T}
use Rattle.store.proofs.one_place.Goals as goal

pub returns : goal.returns
returns c = λ can n es h r. let v = placed r in (true-T v.once, v.least, v.most)
