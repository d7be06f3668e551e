-- Places and columns are each other's inverse.
-- Assumes nothing.
use Rattle.std.proofs.Common.{◌≡◌, ℕ, ◌<◌, ◌≤◌, ◌≢◌, sym, ap, ◌∙◌, arith}
use Rattle.std.proofs.lemmas.Bool.Decides.{nat_tests}
use Rattle.layout.specs.Places.{place, index}

pub place_within : (k i r : ℕ) → 4 ≤ k → i < k → place i r < k
unfolding place
place_within k i r few h = grind (arith, nat_tests)

pub index_within : (k p r : ℕ) → 4 ≤ k → p < k → index p r < k
unfolding index
index_within k p r few h = grind (arith, nat_tests)

pub index-place : (i r : ℕ) → index (place i r) r ≡ i
unfolding place index
index-place i r = grind (arith, nat_tests)

pub place-index : (p r : ℕ) → place (index p r) r ≡ p
unfolding place index
place-index p r = grind (arith, nat_tests)

pub place_apart : (i j r : ℕ) → i ≢ j → place i r ≢ place j r
place_apart i j r n e = n (sym (index-place i r) ∙ (ap (λ (p : ℕ). index p r) e ∙ index-place j r))
