use Rattle.field.proofs.Codewords.{unique}
use Rattle.field.proofs.laws.codewords_are_unique.Goals as goal

pub returns : goal.returns
returns c = unique
