use Rattle.layout.proofs.Coding.{read_again}
use Rattle.layout.proofs.superblock.read_again.Goals as goal

pub returns : goal.returns
returns c = λ S few. read_again S
