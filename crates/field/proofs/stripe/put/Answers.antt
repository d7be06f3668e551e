use Rattle.std.proofs.Common.{◌≡◌, ℕ, ◌+◌, List, length, ◌∙◌, subst, arith}
use Rattle.field.specs.Column.{Sector}
use Rattle.field.specs.Stripe.{held, Anew}
use Rattle.field.proofs.Slices.{written_as, held_beyond}
use Rattle.field.proofs.Putting.{puts}
use Rattle.field.proofs.stripe.put.Goals as goal

pub returns-clause-done : goal.returns-clause-done
returns-clause-done g c =
    let s : List Sector = g.T.Part.cut c.args.stripe.now in
    let u : List Sector = g.T.Part.cut c.write.new.stripe in
    let t : List Sector = g.T.Part.cut c.make_parity.new.stripe in
    let j : ℕ = c.args.j in
    let w : Sector = c.args.words.now in
    let l : length t ≡ length s = c.make_parity.ensures.many ∙ c.write.ensures.many in
    puts (length s) j w (held s) (held u) (held t) (omega arith) (omega arith) c.make_parity.ensures.good (λ i h. held_beyond t i (omega arith))
    (written_as (2 + j) w s u (omega arith) c.write.ensures.set) (subst (λ (k : ℕ). Anew k (held u) (held t)) c.write.ensures.many c.make_parity.ensures.anew)
