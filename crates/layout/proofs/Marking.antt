-- Marks that are set: only the one that was asked for is new.
-- Assumes nothing.
use Rattle.std.proofs.Common.{◌≡◌, ℕ, T, ◌⊎◌, arith}
use Rattle.std.proofs.lemmas.Bool.Decides.{nat_tests}
use Rattle.layout.specs.Members.{marked, with_mark}
use Rattle.layout.specs.declared.members.Marks.{Marks}
use Rattle.layout.specs.declared.members.Marks.TheVariants.{Nobody, One, Two}

pub marked_more : (m : Marks) (p q : ℕ) → T (marked (with_mark m p) q) → T (marked m q) ⊎ (q ≡ p)
marked_more Nobody p q t = grind (arith, nat_tests)
marked_more (One a) p q t = grind (arith, nat_tests)
marked_more (Two a b) p q t = grind (arith, nat_tests)
