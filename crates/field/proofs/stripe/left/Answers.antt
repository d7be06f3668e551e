use Rattle.std.proofs.Common.{[], length, subst, ◌∙◌, ap, arith}
use Rattle.field.specs.Column.{Good, add}
use Rattle.field.specs.Stripe.{held}
use Rattle.field.proofs.Loops.{not_raised}
use Rattle.field.proofs.Gathering.{left_from}
use Rattle.field.proofs.Slices.{held_at}
use Rattle.field.proofs.stripe.left.Goals as goal

pub returns-clause-value : goal.returns-clause-value
returns-clause-value c =
    let e0 = held_at c.args.stripe.now 0 [] (omega arith) in
    let e1 = held_at c.args.stripe.now 1 [] (omega arith) in
    left_from (length c.args.stripe.now) (held c.args.stripe.now) c.parity-steps.new.p c.parity-steps.new.q c.add_to-in_p.new.to c.add_to-in_q.new.to
    (subst Good e0 c.add_to-in_p.ensures.good) (subst Good e1 c.add_to-in_q.ensures.good) c.parity-steps.ensures.is_p c.parity-steps.ensures.is_q
    (not_raised _ _ _ c.add_to-in_p.ensures.value ∙ ap (add c.parity-steps.new.p) e0) (not_raised _ _ _ c.add_to-in_q.ensures.value ∙ ap (add c.parity-steps.new.q) e1)
