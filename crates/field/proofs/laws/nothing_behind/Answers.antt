use Rattle.field.proofs.Parities.{nothing_behind_lem}
use Rattle.field.proofs.laws.nothing_behind.Goals as goal

pub returns : goal.returns
returns c = nothing_behind_lem
