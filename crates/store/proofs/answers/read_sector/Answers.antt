use Rattle.store.proofs.Laws.{read_went, read_heard}
use Rattle.store.proofs.answers.read_sector.Goals as goal

pub returns : goal.returns
returns g c = record { went = read_went c.read.ensures; how = read_heard c.read.result c.lives.result c.read.ensures c.lives.ensures }
