use Rattle.std.proofs.Common.{ℕ, ◌-◌, [], ◌∷◌}
use Rattle.field.specs.Field.{double, power}
use Rattle.field.proofs.Linear.{table_rule}
use Rattle.field.proofs.column.down.Goals as goal

pub returns : goal.returns
unfolding power double
returns c = table_rule (1 ∷ 142 ∷ 71 ∷ 173 ∷ 216 ∷ 108 ∷ 54 ∷ 27 ∷ 131 ∷ 207 ∷ []) (λ (x : ℕ). power (255 - x)) 10 tt c.args.x c.requires
