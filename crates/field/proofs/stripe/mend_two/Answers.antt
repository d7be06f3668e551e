use Rattle.std.proofs.Common.{ℕ, List, length, subst, arith}
use Rattle.field.specs.Column.{Sector}
use Rattle.field.specs.Stripe.{held, Anew}
use Rattle.field.proofs.Mending.{anew_mends, restored_anew}
use Rattle.field.proofs.stripe.mend_two.Goals as goal

pub returns-then-b-lt2-clause-mended : goal.returns-then-b-lt2-clause-mended
returns-then-b-lt2-clause-mended g c = λ cs cw but.
    let s : List Sector = g.T.Part.cut c.args.stripe.now in
    anew_mends (length s) (held s) (held (g.T.Part.cut c.make_parity.new.stripe)) (omega arith) c.make_parity.ensures.anew cs cw
    (λ i h n0 n1. but i h (λ e. n0 (omega arith)) (λ e. n1 (omega arith)))

pub returns-then-a-eq0-clause-mended : goal.returns-then-a-eq0-clause-mended
returns-then-a-eq0-clause-mended g c = λ cs cw but.
    let s : List Sector = g.T.Part.cut c.args.stripe.now in
    let u : List Sector = g.T.Part.cut c.from_q-steps.new.stripe in
    let t : List Sector = g.T.Part.cut c.make_parity-then-a-eq0.new.stripe in
    restored_anew (length s) 0 c.args.b (held s) (held u) (held t) (omega arith) (omega arith) (omega arith)
    c.from_q-steps.ensures.restored (subst (λ (k : ℕ). Anew k (held u) (held t)) c.from_q-steps.ensures.many c.make_parity-then-a-eq0.ensures.anew) cs cw
    (λ i h n0 nb. but i h (λ e. n0 (omega arith)) nb)

pub returns-else-a-eq0-clause-mended : goal.returns-else-a-eq0-clause-mended
returns-else-a-eq0-clause-mended g c = λ cs cw but.
    let s : List Sector = g.T.Part.cut c.args.stripe.now in
    let u : List Sector = g.T.Part.cut c.from_p-steps.new.stripe in
    let t : List Sector = g.T.Part.cut c.make_parity-else-a-eq0.new.stripe in
    restored_anew (length s) 1 c.args.b (held s) (held u) (held t) (omega arith) (omega arith) (omega arith)
    c.from_p-steps.ensures.restored (subst (λ (k : ℕ). Anew k (held u) (held t)) c.from_p-steps.ensures.many c.make_parity-else-a-eq0.ensures.anew) cs cw
    (λ i h n1 nb. but i h (λ e. n1 (omega arith)) nb)
