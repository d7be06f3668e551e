use Rattle.std.proofs.Common.{◌≡◌, ℕ, ◌+◌, ◌<◌, Option, None, List, set, sym, ap, ◌∙◌, subst}
use Rattle.std.proofs.lemmas.List.{set-get_or}
use Rattle.memory.specs.declared.fate.Due.{Due}
use Rattle.memory.specs.declared.fate.Fate.TheVariants.{Cut}
use Rattle.memory.proofs.Dues.{Early, early_next, early_of}
use Rattle.memory.proofs.fate.Plan.cut_due.Goals as goal

pub loop-place-preserved : goal.loop-place-preserved
loop-place-preserved c =
    let items = c.loop-place.place-items in
    let i = c.loop-place.place-index in
    let same : set items i c.take_due.new.place ≡ c.args.self.now.due = ap (set items i) c.in_default.ensures.0 ∙ (set-get_or items i None ∙ c.loop-place.invariant.0) in
    let early = λ (l : List (Option Due)). (j seed : ℕ) → j < i + 1 → Early c.args.self.now.asks l j (Cut seed) in (
      same,
      subst early same
          (early_next c.args.self.now.asks items i Cut _ (λ j seed k. subst (λ (l : List (Option Due)). Early c.args.self.now.asks l j (Cut seed)) (sym c.loop-place.invariant.0) (c.loop-place.invariant.1 j seed k))
          (early_of c.args.self.now.asks _ Cut (λ at f e l seed. (c.in_default.ensures.1 at f e l).1 seed) _ c.in_default.ensures.0)),
    )
