use Rattle.field.proofs.Parities.{noughts_change_nothing_lem}
use Rattle.field.proofs.laws.noughts_change_nothing.Goals as goal

pub returns : goal.returns
returns c = noughts_change_nothing_lem
