use Rattle.std.proofs.Common.{◌∙◌, arith}
use Rattle.script.proofs.Digits.{number_over}
use Rattle.script.proofs.value.large.Goals as goal

pub returns-in_err-checked_mul : goal.returns-in_err-checked_mul
returns-in_err-checked_mul c =
    c.from_residual-in_err-checked_mul.ensures
    ∙ number_over _ _ _ _ _ c.loop-b.invariant.read _ c.loop-b-test.true c.in_ok-d.ensures
    (omega (arith, c.in_err-checked_mul.ensures))

pub returns-in_err-n : goal.returns-in_err-n
returns-in_err-n c =
    c.from_residual-in_err-n.ensures
    ∙ number_over _ _ _ _ _ c.loop-b.invariant.read _ c.loop-b-test.true c.in_ok-d.ensures
    (omega (arith, c.in_err-n.ensures, c.in_ok-checked_mul.ensures))
