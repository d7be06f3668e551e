use Rattle.std.proofs.Common.{ap, ◌∙◌, arith}
use Rattle.store.specs.Shelf.{out}
use Rattle.memory.specs.Held.{shelf_with}
use Rattle.memory.proofs.Laws.{leaves}
use Rattle.memory.proofs.State.leave.Goals as goal

pub returns-clause-shelf : goal.returns-clause-shelf
returns-clause-shelf c = λ p d. leaves p d c.args.self.now c.in_ok-k.k (omega (arith, c.in_ok-k.ensures.1)) ∙ ap (λ e. out e (shelf_with p d c.args.self.now)) c.in_ok-k.ensures.0
