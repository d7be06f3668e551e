-- Laws of P and Q of some columns.
-- Assumes nothing.
use Rattle.std.proofs.Common.{◌≡◌, ℕ, zero, suc, ◌+◌, ◌<◌, ◌≢◌, sym, refl, ap, ◌∙◌, subst, ap₂, add-one, arith, lit<}
use lib.Bits.{bit_xor, xor_self, xor_zero_r}
use Rattle.field.specs.Field.{sum, product, power}
use Rattle.field.specs.Column.{Sector, noughts, byte_at, total, IsSum, plain, raised, NoughtsChangeNothing, NothingBehind, OnlyOne}
use Rattle.field.proofs.Products.{product_sum}
use Rattle.field.proofs.Totals.{total_same, total_sum, total_one, total_two, good_noughts, byte_noughts, same_sector}

pub product_zero : (a : ℕ) → product a 0 ≡ 0
product_zero a = product_sum a 0 0 (lit< tt) (lit< tt) ∙ xor_self (product a 0)

module _ (f : ℕ → ℕ → ℕ) where
  pub same_behind : (n : ℕ) (d e : ℕ → Sector) → ((j : ℕ) → j < n → d j ≡ e j) → (s : Sector) → IsSum f n d s → IsSum f n e s
  same_behind n d e h s is = record {
    good = is.good;
    bytes = λ w b lw lb. is.bytes w b lw lb ∙ total_same n (λ j. f j (byte_at w b (d j))) (λ j. f j (byte_at w b (e j))) (λ j l. ap (λ (t : Sector). f j (byte_at w b t)) (h j l));
  }

  noughts_more : (n : ℕ) (d : ℕ → Sector) → f n 0 ≡ 0 → d n ≡ noughts → (s : Sector) → IsSum f n d s → IsSum f (n + 1) d s
  noughts_more n d z h s is = record {
    good = is.good;
    bytes = λ w b lw lb.
        let g : ℕ → ℕ = λ j. f j (byte_at w b (d j)) in
        is.bytes w b lw lb
        ∙ sym (ap (λ (m : ℕ). total m g) (add-one n) ∙ ap (bit_xor (total n g)) (ap (f n) (ap (byte_at w b) h ∙ byte_noughts w b) ∙ z) ∙ xor_zero_r (total n g));
  }

  pub one_sum : (n : ℕ) (d : ℕ → Sector) (s t : Sector) → IsSum f n d s → IsSum f n d t → s ≡ t
  one_sum n d s t is so = same_sector s t is.good so.good (λ w b lw lb. is.bytes w b lw lb ∙ sym (so.bytes w b lw lb))

  pub noughts_sum : ((j : ℕ) → f j 0 ≡ 0) → (n : ℕ) → IsSum f n (λ _. noughts) noughts
  noughts_sum z zero = record { good = good_noughts; bytes = λ w b lw lb. byte_noughts w b }
  noughts_sum z (suc n) = let e : n + 1 ≡ suc n = omega arith in subst (λ (m : ℕ). IsSum f m (λ _. noughts) noughts) e (noughts_more n (λ _. noughts) (z n) refl noughts (noughts_sum z n))

pub raised_zero : (j : ℕ) → raised j 0 ≡ 0
raised_zero j = product_zero (power j)

pub nothing_behind_lem : NothingBehind
nothing_behind_lem n d e h = (same_behind plain n d e h, same_behind raised n d e h)

pub noughts_change_nothing_lem : NoughtsChangeNothing
noughts_change_nothing_lem n d h = (noughts_more plain n d refl h, noughts_more raised n d (raised_zero n) h)

pub only_one : OnlyOne
only_one n d = (one_sum plain n d, one_sum raised n d)

-- ---- what the terms g leave of the terms f, from which they differ at one place or two

module _ (n : ℕ) (f g : ℕ → ℕ) where
  gap : ℕ → ℕ
  gap j = bit_xor (g j) (f j)

  same_gap : (j : ℕ) → g j ≡ f j → gap j ≡ 0
  unfolding gap
  same_gap j e = ap (λ (x : ℕ). bit_xor x (f j)) e ∙ xor_self (f j)

  gap_at : (j : ℕ) → g j ≡ 0 → gap j ≡ f j
  unfolding gap
  gap_at j e = ap (λ (x : ℕ). bit_xor x (f j)) e

  pub left_one : (x : ℕ) → x < n → ((j : ℕ) → j < n → j ≢ x → g j ≡ f j) → g x ≡ 0 → sum (total n g) (total n f) ≡ f x
  unfolding gap
  left_one x l h z = total_sum n g f ∙ total_one n gap x l (λ j m d. same_gap j (h j m d)) ∙ gap_at x z

  pub left_two : (x y : ℕ) → x < y → y < n → ((j : ℕ) → j < n → j ≢ x → j ≢ y → g j ≡ f j) → g x ≡ 0 → g y ≡ 0
      → sum (total n g) (total n f) ≡ sum (f x) (f y)
  unfolding gap
  left_two x y xy l h zx zy = total_sum n g f ∙ total_two n gap x y xy l (λ j m d d'. same_gap j (h j m d d')) ∙ ap₂ bit_xor (gap_at x zx) (gap_at y zy)
