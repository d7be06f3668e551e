use Rattle.std.proofs.Common.{refl}
use Rattle.store.specs.Keeping.{slot}
use Rattle.store.proofs.journal.slot_of.Goals as goal

pub returns : goal.returns
unfolding slot
returns c = refl
