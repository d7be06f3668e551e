use Rattle.std.proofs.Common.{◌≡◌, ℕ, ◌+◌, ◌-◌, [], ◌∷◌, ap, ◌∙◌, arith}
use Rattle.field.specs.Field.{double, power, neighbour}
use Rattle.field.proofs.Linear.{table_rule}
use Rattle.field.proofs.column.apart.Goals as goal

pub returns : goal.returns
unfolding power double
returns c =
    let e : c.args.d - 1 + 1 ≡ c.args.d = omega arith in
    table_rule (244 ∷ 167 ∷ 157 ∷ 114 ∷ 237 ∷ 95 ∷ 84 ∷ 160 ∷ 169 ∷ []) (λ (x : ℕ). power (255 - neighbour (x + 1))) 9 tt (c.args.d - 1) (omega arith)
    ∙ ap (λ (x : ℕ). power (255 - neighbour x)) e
