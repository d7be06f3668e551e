use Rattle.std.proofs.Common.{refl}
use Rattle.store.specs.Store.{why, is_in}
use Rattle.store.proofs.first_answers.Goals as goal

-- all of it computes
pub returns : goal.returns
unfolding why is_in
returns c = record { size = refl; content = refl; answers = refl }
