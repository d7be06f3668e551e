use Rattle.field.proofs.Codewords.{blank}
use Rattle.store.proofs.Beginning.{begins}
use Rattle.store.proofs.blank_shelf.Goals as goal

pub returns : goal.returns
returns c = record { ready = begins; coded = λ k r. blank k }
