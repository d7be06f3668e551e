use Rattle.store.proofs.Growth.{before, size_grows}
use Rattle.store.proofs.never_smaller.Goals as goal

pub returns : goal.returns
returns c = λ can n es e h least r. let b = before r in (b.0, b.1, size_grows n b.0 h b.2)
