use Rattle.field.proofs.Codewords.{blank}
use Rattle.field.proofs.laws.blank_is_a_codeword.Goals as goal

pub returns : goal.returns
returns c = blank
