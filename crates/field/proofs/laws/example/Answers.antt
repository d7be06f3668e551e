use Rattle.field.proofs.Codewords.{six_columns_lem}
use Rattle.field.proofs.laws.example.Goals as goal

pub returns : goal.returns
returns c = six_columns_lem
