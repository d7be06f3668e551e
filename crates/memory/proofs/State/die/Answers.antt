use Rattle.std.proofs.Common.{◌≡◌, false, T, sym, ap, ◌∙◌, subst, inl, inr, arith, rules}
use Rattle.store.specs.Shelf.{died}
use Rattle.memory.specs.Held.{disk_at, shelf_with}
use Rattle.std.proofs.lemmas.Bool.{leb-false}
use Rattle.memory.proofs.Laws.{died_is, truth, or_then, or_else}
use Rattle.memory.proofs.State.die.Goals.{then-in_use, else-in_use, then-lost, else-lost}
use Rattle.memory.proofs.State.die.Goals as goal

pub returns-clause-done : goal.returns-clause-done
returns-clause-done c = λ p. let e : c.in_ok-d.d ≡ c.args.disk = search rules in (
  (
    omega arith,
    subst (λ k. T (disk_at c.args.self.now k).alive) e (truth _ c.if-not-alive.false),
    elim c.if-in_use.branch [
      | then-in_use w ↦ inr (omega (arith, w.weakness.ensures, leb-false 2 w.weakness.result (sym w.value-is ∙ c.if-weakness-ge-MOST_LOST.false)))
      | else-in_use w ↦ inl (subst (λ k. (disk_at c.args.self.now k).in_use ≡ false) e w.if-in_use.false)
    ],
  ),
  died_is p c.args.diary.now c.note_death.new.self c.args.self.now c.in_ok-d.d c.if-lost.self (omega arith) c.note_death.ensures.same
      (elim c.if-lost.branch [ then-lost w ↦ or_then _ _ _ w.if-lost.true w.self-is | else-lost w ↦ or_else _ _ _ w.if-lost.false w.self-is ])
      ∙ ap (λ k. died k (shelf_with p c.args.diary.now c.args.self.now)) e,
  c.in_ok-note_death.ensures.seen,
)
