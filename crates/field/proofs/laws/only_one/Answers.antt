use Rattle.field.proofs.Parities.{only_one}
use Rattle.field.proofs.laws.only_one.Goals as goal

pub returns : goal.returns
returns c = only_one
