use Rattle.std.proofs.Common.{◌≡◌, ℕ, ◌+◌, ◌-◌, ◌/◌, ◌^◌, ap, ◌∙◌, ap₂, arith}
use lib.Bits.{bit_xor}
use Rattle.field.specs.Field.{product_by}
use Rattle.field.proofs.Loops.{product_none, product_more}
use Rattle.field.proofs.product.times.Goals as goal

pub loop-j-init : goal.loop-j-init
loop-j-init g c = c.nought-r.ensures ∙ product_none g.V.Doubles.double (c.args.c / 2 ^ 8) (g.V.Doubles.number c.args.v)

pub loop-j-preserved : goal.loop-j-preserved
loop-j-preserved g c =
    let i : ℕ = c.loop-j.j - 1 in
    let f = g.V.Doubles.double in
    let v = g.V.Doubles.number c.args.v in
    let e : c.loop-j.j ≡ i + 1 = omega arith in
    let m : 8 - c.loop-j.j + 1 ≡ 8 - i = omega arith in
    c.plus-r.ensures
    ∙ ap₂ bit_xor c.picked.ensures (c.twice.ensures ∙ ap f (c.loop-j.invariant ∙ ap (λ (n : ℕ). product_by f (8 - c.loop-j.j) (c.args.c / 2 ^ n) v) e))
    ∙ product_more f (8 - c.loop-j.j) i c.args.c v ∙ ap (λ (n : ℕ). product_by f n (c.args.c / 2 ^ i) v) m
