use Rattle.std.proofs.Common.{ap, ◌∙◌, arith}
use Rattle.memory.specs.Held.{shelf_with}
use Rattle.memory.specs.Uses.{into}
use Rattle.memory.proofs.Laws.{in_use_lem}
use Rattle.memory.proofs.State.enter.Goals as goal

pub returns-clause-shelf : goal.returns-clause-shelf
returns-clause-shelf c = λ p d. in_use_lem p d c.args.self.now c.in_ok-self.field-0 (omega (arith, c.in_ok-self.ensures.1)) ∙ ap (λ e. into e (shelf_with p d c.args.self.now)) c.in_ok-self.ensures.0
