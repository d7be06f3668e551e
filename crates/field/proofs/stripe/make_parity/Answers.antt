use Rattle.std.proofs.Common.{ℕ, ◌+◌, ◌-◌, ◌*◌, List, length, ◌∙◌, ap, subst, arith}
use Rattle.field.specs.Column.{Sector, Good, IsP, IsQ}
use Rattle.field.specs.Stripe.{data_of, held}
use Rattle.field.proofs.Slices.{anew_as}
use Rattle.field.proofs.stripe.make_parity.Goals as goal

pub returns : goal.returns
returns g c =
    let s : List Sector = g.T.Part.cut c.args.stripe.now in
    let p = c.parity-steps.new.p in
    let q = c.parity-steps.new.q in
    let e = c.columns.ensures in
    let w = anew_as s (g.T.Part.cut c.write.new.stripe) (g.T.Part.cut c.write-2.new.stripe) p q (omega arith) c.write.ensures.set c.write-2.ensures.set
    (subst (λ (r : List Sector). IsP (length r - 2) (data_of (held r)) p) e c.parity-steps.ensures.is_p)
    (subst (λ (r : List Sector). IsQ (length r - 2) (data_of (held r)) q) e c.parity-steps.ensures.is_q)
    (subst (λ (r : List Sector). (j : ℕ) → Good (held r (2 + j))) e c.parity-steps.ensures.good) in
    record {
      anew = w.0;
      many = c.write-2.ensures.many ∙ c.write.ensures.many;
      behind = c.write-2.ensures.behind ∙ c.write.ensures.behind;
      good = w.1;
      steps = c.parity-steps.ensures.steps ∙ ap (λ (r : List Sector). 192 * (length r - 2)) e;
    }
