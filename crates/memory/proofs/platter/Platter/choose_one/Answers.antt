use Rattle.std.proofs.Common.{◌≡◌, ◌^◌, sym, refl, ap, ◌∙◌, arith}
use Rattle.std.proofs.lemmas.Bool.{leb-true, le-leb}
use Rattle.memory.specs.Draws.{drawn}
use Rattle.memory.specs.Held.{cell_at}
use Rattle.memory.proofs.Listing.{chosen_same, chosen_old}
use Rattle.memory.proofs.platter.Platter.choose_one.Goals.{then-k-self-via-then-k-self, then-k-self-via-else-k-self+then-self-k, then-k-self-via-else-k-self+else-self-k+then-draw}
use Rattle.memory.proofs.platter.Platter.choose_one.Goals as goal

pub returns-then-k-self-clause-chosen : goal.returns-then-k-self-clause-chosen
returns-then-k-self-clause-chosen c = λ p h.
    chosen_same p c.args.self.now c.args.i c.args.seed h
    (elim c.then-k-self.branch [
      | then-k-self-via-then-k-self w ↦ λ j e q r. omega (arith, w.if-k-self.true)
      | then-k-self-via-else-k-self+then-self-k w ↦ λ j e q r. absurd (w.if-self-k.true (ap (λ k. (cell_at c.args.self.now k).slot) (sym e) ∙ q))
      | then-k-self-via-else-k-self+else-self-k+then-draw w ↦ λ j e q r.
          let d : drawn c.args.seed j ≡ w.draw.result = ap (drawn c.args.seed) e ∙ sym w.draw.ensures in absurd (omega (arith, leb-true (2 ^ 63) (drawn c.args.seed j) r, w.if-draw.true, d))
    ])

pub returns-clause-chosen : goal.returns-clause-chosen
returns-clause-chosen c = λ p h.
    chosen_old p c.args.self.now c.args.i c.args.seed _ c.requires c.if-k-self.false refl c.if-self-k.false (le-leb (2 ^ 63) _ (omega (arith, c.draw.ensures, c.if-draw.false))) h
