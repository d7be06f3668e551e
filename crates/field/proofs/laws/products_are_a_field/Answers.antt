use Rattle.field.proofs.Products.{products_are_a_field_lem}
use Rattle.field.proofs.laws.products_are_a_field.Goals as goal

pub returns : goal.returns
returns c = products_are_a_field_lem
