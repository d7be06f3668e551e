use Rattle.store.proofs.Laws.{write_went, write_wrote}
use Rattle.store.proofs.answers.write_sector.Goals as goal

pub returns : goal.returns
returns g c = record { went = write_went c.write.ensures; how = write_wrote c.write.result c.lives.result c.write.ensures c.lives.ensures }
