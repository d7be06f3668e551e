use Rattle.field.proofs.Products.{sums_are_a_group_lem}
use Rattle.field.proofs.laws.sums_are_a_group.Goals as goal

pub returns : goal.returns
returns c = sums_are_a_group_lem
