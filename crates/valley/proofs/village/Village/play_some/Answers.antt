use Rattle.std.proofs.Common.{◌≡◌, ◌∷◌, ◌++◌, length, ap, ◌∙◌, rules, arith}
use Rattle.std.proofs.lemmas.List.{length-append}
use Rattle.valley.specs.Lines.{line_of}
use Rattle.valley.proofs.Pieces.{last_line, next_line}
use Rattle.valley.proofs.Plays.{begun_last, begun_next}
use Rattle.valley.proofs.village.Village.play_some.Goals as goal

pub loop-behind-preserved : goal.loop-behind-preserved
loop-behind-preserved g c =
    let r = c.loop-behind.rest.now in
    let s = c.in-Some.behind.now in
    let e : r ≡ line_of r ++ 10 ∷ s = c.in-Some.ensures.behind in
    record {
      small = omega (arith, c.saturating_add-number.ensures);
      within = omega (arith, ap length e ∙ length-append (line_of r) (10 ∷ s), c.loop-behind.invariant.within);
      counted = omega (arith, (next_line r r s e).1, c.loop-behind.invariant.counted, c.saturating_add-number.ensures);
      begun = λ begun h. begun_next _ _ r s _ e (search rules) (c.loop-behind.invariant.begun begun h);
    }

pub returns-clause-number : goal.returns-clause-number
returns-clause-number g c =
    let r = c.loop-behind.rest.now in
    omega (arith, (last_line r r c.in_default.ensures.behind).1, c.loop-behind.invariant.counted, c.loop-behind.invariant.small)

pub returns-clause-after : goal.returns-clause-after
returns-clause-after g c = λ begun h. begun_last _ _ _ _ c.fill.ensures.after c.in_default.ensures.behind (c.loop-behind.invariant.begun begun h)
