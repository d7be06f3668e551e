use Rattle.std.proofs.Common.{sym, ◌∙◌, subst}
use Rattle.store.specs.Shelf.{Shelf, AtStart}
use Rattle.plays.proofs.play_out.Goals as goal

pub years-requires-clause-starts : goal.years-requires-clause-starts
years-requires-clause-starts c = subst (λ (x : Shelf). AtStart x) (sym (c.plan_death-2.ensures.0 ∙ (c.plan_death.ensures.0 ∙ (c.plan_cut-2.ensures.same.0 ∙ c.plan_cut.ensures.same.0)))) c.new-m.ensures.starts
