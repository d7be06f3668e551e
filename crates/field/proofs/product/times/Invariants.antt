use Rattle.std.proofs.Common.{◌≡◌, ◌-◌, ◌/◌, ◌^◌}
use Rattle.field.specs.Field.{product_by}
use Rattle.field.proofs.product.times.Given as goal

abbrev pub invariant-loop-j : goal.invariant-loop-j
invariant-loop-j g l = g.V.Doubles.number l.r ≡ product_by g.V.Doubles.double (8 - l.j) (l.c / 2 ^ l.j) (g.V.Doubles.number l.v)
