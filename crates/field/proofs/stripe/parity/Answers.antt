use Rattle.std.proofs.Common.{◌≡◌, ℕ, ◌+◌, ◌-◌, ◌*◌, [], ◌∷◌, ◌++◌, length, drop, refl, ap, ◌∙◌, subst, length-append, length-drop, arith, Iter}
use Rattle.std.proofs.lemmas.List.{take_all}
use Rattle.std.specs.declared.iter.Rev.{Rev}
use Rattle.field.specs.Column.{Sector, Good}
use Rattle.field.specs.Stripe.{held}
use Rattle.field.specs.Word.{double8}
use Rattle.field.proofs.Loops.{not_raised, raised_by}
use Rattle.field.proofs.Gathering.{Gathered, way_none, way_more, gathered_p, gathered_q}
use Rattle.field.proofs.stripe.parity.Goals as goal

stepped : (s m n t x y e : ℕ) → m ≡ n + 1 → x ≡ 64 → y ≡ 64 * (s + 1) → t + 64 * (s + 2) * m ≡ e → t + x + y + 64 * (s + 2) * n ≡ e
stepped s m n t x y e em ex ey h = let z : 64 * (s + 2) * m ≡ 64 * (s + 2) * (n + 1) = ap (λ (i : ℕ). 64 * (s + 2) * i) em in omega arith

pub loop-column-init : goal.loop-column-init
loop-column-init g c =
    let l : length (drop 2 c.args.stripe.now) ≡ length c.args.stripe.now - 2 = length-drop 2 c.args.stripe.now in
    let e : c.into_iter-column-iterator.result.iter.rest.now ≡ drop 2 c.args.stripe.now
    = ap (λ (r : Rev (Iter Sector)). r.iter.rest.now) c.into_iter-column-iterator.ensures.into_iter_gives ∙ ap (λ (r : Iter Sector). r.rest.now) c.rev-column-items.ensures.source ∙ c.iter.ensures.rest
    ∙ take_all (length c.args.stripe.now - 2) (drop 2 c.args.stripe.now) (omega arith) in
    let n : length c.into_iter-column-iterator.result.iter.rest.now ≡ length c.args.stripe.now - 2 = ap length e ∙ l in
    record {
      long = (refl, refl);
      way = way_none c.args.stripe.now _ _ _ (omega arith) e refl refl;
      steps = let z : 64 * (g.D.Raising.STEPS + 2) * length c.into_iter-column-iterator.result.iter.rest.now ≡ 64 * (g.D.Raising.STEPS + 2) * (length c.args.stripe.now - 2) = ap (λ (m : ℕ). 64 * (g.D.Raising.STEPS + 2) * m) n in omega arith;
    }

pub loop-column-preserved : goal.loop-column-preserved
loop-column-preserved g c =
    let e : c.loop-column.column-iterator.iter.rest.now ≡ c.next.new.self.iter.rest.now ++ c.in-Some.column.now ∷ [] = c.in-Some.ensures.steps in
    let l : length c.loop-column.column-iterator.iter.rest.now ≡ length c.next.new.self.iter.rest.now + 1 = ap length e ∙ length-append c.next.new.self.iter.rest.now (c.in-Some.column.now ∷ []) in
    record {
      way = way_more c.args.stripe.now _ _ _ _ _ _ _ (omega arith) c.add_to-steps.ensures.good c.loop-column.invariant.way e (not_raised _ _ _ c.add_to-steps.ensures.value) (raised_by g.D.Raising.raise double8 g.met.D.Doubling.doubles _ _ _ c.add_to-steps-in-loop-column.ensures.value);
      long = (c.add_to-steps.array_long, c.add_to-steps-in-loop-column.array_long);
      steps = stepped g.D.Raising.STEPS _ _ c.loop-column.steps _ _ _ l c.add_to-steps.ensures.steps c.add_to-steps-in-loop-column.ensures.steps c.loop-column.invariant.steps;
    }

pub returns : goal.returns
returns g c =
    let e : length c.loop-column.column-iterator.iter.rest.now ≡ 0 = c.in-None.ensures.steps.0 in
    let w = c.loop-column.invariant.way in
    let h : (j : ℕ) → Good (held c.args.stripe.now (2 + j)) = λ j. w.good (2 + j) (omega arith) in
    let m : 2 + length c.loop-column.column-iterator.iter.rest.now ≡ 2 = omega arith in
    let s : Gathered (length c.args.stripe.now) 2 (held c.args.stripe.now) c.loop-column.p c.loop-column.q
    = subst (λ (i : ℕ). Gathered (length c.args.stripe.now) i (held c.args.stripe.now) c.loop-column.p c.loop-column.q) m w.so_far in
    record {
      is_p = gathered_p (length c.args.stripe.now) (held c.args.stripe.now) h c.loop-column.p c.loop-column.q s c.loop-column.invariant.long.0;
      is_q = gathered_q (length c.args.stripe.now) (held c.args.stripe.now) h c.loop-column.p c.loop-column.q s c.loop-column.invariant.long.1;
      good = h;
      steps = let z : 64 * (g.D.Raising.STEPS + 2) * length c.loop-column.column-iterator.iter.rest.now ≡ 64 * (g.D.Raising.STEPS + 2) * 0 = ap (λ (n : ℕ). 64 * (g.D.Raising.STEPS + 2) * n) e in omega arith;
    }
