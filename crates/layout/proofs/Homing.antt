-- Each sector of the store has a place of its own: a law of division.
-- Assumes nothing.
use Rattle.std.proofs.Common.{◌≡◌, ℕ, ◌+◌, ◌-◌, ◌*◌, ◌/◌, ◌%◌, ◌<◌, sym, ap, ◌∙◌, mod-lt, div-lt_iff_lt-mul, arith}
use native.Mathlib.Nat.{div-add-mod}
use Rattle.layout.specs.Places.{place, index, column_of, stripe_of, Homes}
use Rattle.layout.proofs.Turning.{index-place}

-- places that are the same in one stripe are the same column's
place_injective : (i j r : ℕ) → place i r ≡ place j r → i ≡ j
place_injective i j r e = sym (index-place i r) ∙ (ap (λ (p : ℕ). index p r) e ∙ index-place j r)

module _ (m : ℕ) (some : 0 < m) where
  pub home_within : (k s : ℕ) → s < (k - 2) * m → (2 + column_of m s < k) × (stripe_of m s < m)
  unfolding column_of stripe_of
  home_within k s l = let q : s / m < k - 2 = (div-lt_iff_lt-mul some).1 l in (omega arith, mod-lt s some)

  pub home_apart : (s t : ℕ) → stripe_of m s ≡ stripe_of m t → place (2 + column_of m s) (stripe_of m s) ≡ place (2 + column_of m t) (stripe_of m t) → s ≡ t
  unfolding column_of stripe_of
  home_apart s t e p =
      let same = place_injective (2 + s / m) (2 + t / m) (s % m) (p ∙ ap (λ (r : ℕ). place (2 + t / m) r) (sym e)) in
      let q : s / m ≡ t / m = omega arith in
      let a = div-add-mod s m in
      let b = div-add-mod t m in
      let c : m * (s / m) ≡ m * (t / m) = ap (λ (z : ℕ). m * z) q in
      omega arith

  pub homes : Homes m
  homes = record { within = home_within; apart = home_apart }
