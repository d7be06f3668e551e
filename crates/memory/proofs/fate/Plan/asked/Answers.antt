use Rattle.std.proofs.Common.{◌≡◌, true, sym, ◌∙◌, inl, inr}
use Rattle.memory.specs.Held.{lit}
use Rattle.memory.specs.Went.{stays}
use Rattle.memory.proofs.Laws.{went_gone, went_goes, lit_on, truth}
use Rattle.memory.proofs.fate.Plan.asked.Goals.{else-not-state-via-then-not-state+else-not-is_full, else-not-state-via-else-not-state}
use Rattle.memory.proofs.fate.Plan.asked.Goals as goal

pub returns-then-not-is_full-clause-went : goal.returns-then-not-is_full-clause-went
returns-then-not-is_full-clause-went c = λ p. went_gone p c.args.diary.now c.args.state.now _ c.if-not-state.true (sym c.is_full.ensures ∙ c.if-not-is_full.true)

pub returns-then-is_full-clause-went : goal.returns-then-is_full-clause-went
returns-then-is_full-clause-went c = λ p.
    let o : lit c.args.diary.now c.args.state.now ≡ true =
    lit_on c.args.diary.now _ (elim c.else-not-state.branch [ else-not-state-via-then-not-state+else-not-is_full w ↦ inr (sym w.is_full.ensures ∙ w.if-not-is_full.false) | else-not-state-via-else-not-state w ↦ inl w.if-not-state.false ]) in
    stays _ _ (truth _ o) (c.strike.ensures.died p)

pub returns-in-Some-clause-went : goal.returns-in-Some-clause-went
returns-in-Some-clause-went c = λ p.
    let o : lit c.args.diary.now c.args.state.now ≡ true =
    lit_on c.args.diary.now _ (elim c.else-not-state.branch [ else-not-state-via-then-not-state+else-not-is_full w ↦ inr (sym w.is_full.ensures ∙ w.if-not-is_full.false) | else-not-state-via-else-not-state w ↦ inl w.if-not-state.false ]) in
    went_goes p c.args.diary.now c.strike.new.diary c.args.state.now c.strike.new.state _ _ o (c.strike.ensures.died p) (sym c.is_full-2.ensures ∙ c.if-is_full.false)

pub returns-in-None-clause-went : goal.returns-in-None-clause-went
returns-in-None-clause-went c = λ p.
    let o : lit c.args.diary.now c.args.state.now ≡ true =
    lit_on c.args.diary.now _ (elim c.else-not-state.branch [ else-not-state-via-then-not-state+else-not-is_full w ↦ inr (sym w.is_full.ensures ∙ w.if-not-is_full.false) | else-not-state-via-else-not-state w ↦ inl w.if-not-state.false ]) in
    stays _ _ (truth _ o) (c.strike.ensures.died p)
