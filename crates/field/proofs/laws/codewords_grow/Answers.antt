use Rattle.field.proofs.Codewords.{grows}
use Rattle.field.proofs.laws.codewords_grow.Goals as goal

pub returns : goal.returns
returns c = grows
