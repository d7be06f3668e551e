use Rattle.std.proofs.Common.{refl}
use Rattle.field.specs.Word.{double8}
use Rattle.field.proofs.product.U64Doubles.twice.Goals as goal

pub returns : goal.returns
unfolding double8
returns c = refl
