use Rattle.field.proofs.Powers.{powers_of_two_lem}
use Rattle.field.proofs.laws.powers_of_two.Goals as goal

pub returns : goal.returns
returns c = powers_of_two_lem
