use Rattle.std.proofs.Common.{sym, refl, ◌∙◌, inl, inr, arith}
use Rattle.memory.proofs.Listing.{laid_again, laid_first}
use Rattle.memory.proofs.platter.Platter.lay.Goals.{then-waits-via-then-waits, then-waits-via-else-waits+then-self}
use Rattle.memory.proofs.platter.Platter.lay.Goals as goal

pub returns-then-waits : goal.returns-then-waits
returns-then-waits c =
    laid_again c.args.self.now c.args.at c.args.shown c.args.lasting c.requires
    (elim c.then-waits.branch [ then-waits-via-then-waits w ↦ inl (sym c.waits.ensures ∙ w.if-waits.true) | then-waits-via-else-waits+then-self w ↦ inr w.if-self.true ])

pub returns : goal.returns
returns c = laid_first c.args.self.now c.args.at c.args.shown c.args.lasting c.requires (omega arith) _ refl
