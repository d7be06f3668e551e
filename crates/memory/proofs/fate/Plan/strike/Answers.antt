use Rattle.std.proofs.Common.{arith}
use Rattle.store.specs.Shelf.{none}
use Rattle.store.specs.Shelf.{Dies as Perish}
use Rattle.memory.specs.Held.{shelf_with}
use Rattle.memory.specs.Words.{seen_of}
use Rattle.memory.specs.declared.State.{State}
use Rattle.memory.specs.declared.diary.Diary.{Diary}
use Rattle.memory.specs.declared.fate.Fate.TheVariants.{Dies}
use Rattle.memory.proofs.Dues.{early_next, early_none, early_of}
use Rattle.memory.proofs.Laws.{at_both, dies_more, dies_or_not}
use Rattle.memory.proofs.fate.Plan.strike.Goals.{in-Some+then-is_err, in-Some+else-is_err, in_default}
use Rattle.memory.proofs.fate.Plan.strike.Goals as goal

pub loop-place-init : goal.loop-place-init
loop-place-init c = (λ p. none _ _, λ j d l. absurd (omega arith), omega arith)

pub loop-place-preserved : goal.loop-place-preserved
loop-place-preserved c = (
  λ p.
      let P = λ (k : Diary) (y : State). Perish (shelf_with p c.args.diary.now c.args.state.now) (seen_of c.args.diary.now) (shelf_with p k y) (seen_of k) in
      elim c.match-take_due.branch [
        | in-Some+then-is_err w ↦ at_both P w.diary-is w.state-is (dies_more (c.loop-place.invariant.0 p) (dies_or_not w.die.result c.loop-place.diary w.die.new.diary c.loop-place.state w.die.new.self _ _ p w.die.ensures.done w.die.ensures.kept))
        | in-Some+else-is_err w ↦ at_both P w.diary-is w.state-is (dies_more (c.loop-place.invariant.0 p) (dies_or_not w.die.result c.loop-place.diary w.die.new.diary c.loop-place.state w.die.new.self _ _ p w.die.ensures.done w.die.ensures.kept))
        | in_default w ↦ at_both P w.diary-is w.state-is (c.loop-place.invariant.0 p)
      ],
  early_next c.args.self.now.asks c.loop-place.place-items c.loop-place.place-index Dies _ c.loop-place.invariant.1
      (elim c.match-take_due.branch [
        | in-Some+then-is_err w ↦ early_none _ _ Dies w.in-Some.ensures.1.1.1.1.0
        | in-Some+else-is_err w ↦ early_none _ _ Dies w.in-Some.ensures.1.1.1.1.0
        | in_default w ↦ early_of _ _ Dies (λ at f e l d. (w.in_default.ensures.1 at f e l).1 d) _ w.in_default.ensures.0
      ]),
  elim c.match-take_due.branch [ in-Some+then-is_err w ↦ omega (arith, w.kept-is) | in-Some+else-is_err w ↦ omega (arith, w.kept-is) | in_default w ↦ omega (arith, w.kept-is) ],
)
