use Rattle.std.proofs.Common.{ℕ, List, length, replicate, refl, subst, arith}
use Rattle.field.specs.Column.{Sector}
use Rattle.field.specs.Stripe.{held, Left}
use Rattle.field.proofs.Slices.{written_as}
use Rattle.field.proofs.Mending.{restores_q}
use Rattle.field.proofs.stripe.from_q.Goals as goal

pub returns-clause-restored : goal.returns-clause-restored
returns-clause-restored g c =
    let s : List Sector = g.T.Part.cut c.args.stripe.now in
    let u : List Sector = g.T.Part.cut c.write.new.stripe in
    let t : List Sector = g.T.Part.cut c.write-2.new.stripe in
    let i : ℕ = c.args.i in
    let z : Sector = replicate 64 0 in
    let p : Sector = c.left-steps.new.p in
    let q : Sector = c.left-steps.new.q in
    let left : Left (length s) (held u) p q
    = subst (λ (k : ℕ). Left k (held u) p q) c.write.ensures.many (subst (λ (r : List Sector). Left (length r) (held r) p q) c.columns.ensures c.left-steps.ensures.value) in
    let r : Sector = c.lower-lowered.new.words in
    restores_q (length s) i (held s) (held u) (held t) z p q r (omega arith) (omega arith) (omega arith) (omega arith) refl
    (written_as i z s u (omega arith) c.write.ensures.set) left c.lower-lowered.ensures.value (written_as i r u t (omega arith) c.write-2.ensures.set)
