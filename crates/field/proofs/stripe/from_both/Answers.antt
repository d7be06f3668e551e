use Rattle.std.proofs.Common.{◌≡◌, ℕ, List, length, replicate, refl, ◌∙◌, subst, arith}
use Rattle.field.specs.Column.{Sector}
use Rattle.field.specs.Stripe.{held, Left}
use Rattle.field.proofs.Slices.{written_as}
use Rattle.field.proofs.Mending.{mends_both}
use Rattle.field.proofs.stripe.from_both.Goals as goal

pub returns-clause-mended : goal.returns-clause-mended
returns-clause-mended g c =
    let s : List Sector = g.T.Part.cut c.args.stripe.now in
    let u : List Sector = g.T.Part.cut c.write.new.stripe in
    let v : List Sector = g.T.Part.cut c.write-2.new.stripe in
    let t : List Sector = g.T.Part.cut c.write-3.new.stripe in
    let r : List Sector = g.T.Part.cut c.write-4.new.stripe in
    let a : ℕ = c.args.a in
    let b : ℕ = c.args.b in
    let z : Sector = replicate 64 0 in
    let p : Sector = c.solve-solved.new.p in
    let q : Sector = c.solve-solved.new.q in
    let lv : length v ≡ length s = c.write-2.ensures.many ∙ c.write.ensures.many in
    let left : Left (length s) (held v) c.left-steps.new.p c.left-steps.new.q
    = subst (λ (k : ℕ). Left k (held v) c.left-steps.new.p c.left-steps.new.q) lv (subst (λ (x : List Sector). Left (length x) (held x) c.left-steps.new.p c.left-steps.new.q) c.columns.ensures c.left-steps.ensures.value) in
    mends_both (length s) a b (held s) (held u) (held v) (held t) (held r) z z c.left-steps.new.p c.left-steps.new.q p q
    (omega arith) (omega arith) (omega arith) (omega arith) (omega arith) refl refl (written_as a z s u (omega arith) c.write.ensures.set) (written_as b z u v (omega arith) c.write-2.ensures.set)
    left c.solve-solved.ensures.value
    (written_as a p v t (omega arith) c.write-3.ensures.set) (written_as b q t r (omega arith) c.write-4.ensures.set)
