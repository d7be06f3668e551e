use Rattle.std.proofs.Common.{◌-◌, sym, subst}
use Rattle.field.specs.Column.{IsP, IsQ}
use Rattle.field.specs.Stripe.{column, data_of}
use Rattle.field.proofs.Words.{p_of_words, q_of_words}
use Rattle.field.proofs.lent.try_parity_by_table.Goals as goal

pub returns-clause-is_p : goal.returns-clause-is_p
returns-clause-is_p c =
    subst (IsP (c.args.k - 2) (data_of (λ i. column i c.args.stripe.now))) (sym c.copy_from_slice.ensures.after)
    (p_of_words c.args.k c.args.stripe.now c.in_ok-columns.columns.now c.in_ok-columns.ensures c.parity.new.p c.parity.ensures.is_p)

pub returns-clause-is_q : goal.returns-clause-is_q
returns-clause-is_q c =
    subst (IsQ (c.args.k - 2) (data_of (λ i. column i c.args.stripe.now))) (sym c.copy_from_slice-2.ensures.after)
    (q_of_words c.args.k c.args.stripe.now c.in_ok-columns.columns.now c.in_ok-columns.ensures c.parity.new.q c.parity.ensures.is_q)
