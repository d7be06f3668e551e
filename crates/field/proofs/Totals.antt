-- Sums of n terms, and sectors element by element.
-- Assumes nothing.
use Rattle.std.proofs.Common.{◌≡◌, ℕ, zero, suc, ◌^◌, ◌<◌, ◌≢◌, [], ◌∷◌, map, length, get_or, replicate, sym, refl, ap, ◌∙◌, subst, ap₂, inl, inr, not-suc-le-zero, arith, lit<}
use lib.Bits.{bit_xor, xor_assoc, xor_zero_r, xor_lt}
use Rattle.std.proofs.lemmas.List.{same_lists, get_or_default, length-map}
use Rattle.std.proofs.lemmas.Bool.{cases_eq}
use Rattle.field.specs.Field.{sum, product}
use Rattle.field.specs.Word.{byte, product8}
use Rattle.field.specs.Column.{Sector, noughts, Good, byte_at, total, add}
use Rattle.field.proofs.Linear.{Linear, linear_zero, xor_swap}
use Rattle.field.proofs.Products.{linear_product8_n}
use Rattle.field.proofs.Eight.{linear_byte, byte_product, product8_n_lt, same_word}

-- ---- sums of n terms

pub total_same : (n : ℕ) (f g : ℕ → ℕ) → ((j : ℕ) → j < n → f j ≡ g j) → total n f ≡ total n g
total_same zero f g h = refl
total_same (suc n) f g h = ap₂ bit_xor (total_same n f g (λ j l. h j (omega arith))) (h n (omega arith))

pub total_sum : (n : ℕ) (f g : ℕ → ℕ) → bit_xor (total n f) (total n g) ≡ total n (λ j. bit_xor (f j) (g j))
total_sum zero f g = refl
total_sum (suc n) f g = xor_swap (total n f) (f n) (total n g) (g n) ∙ ap (λ (x : ℕ). bit_xor x (bit_xor (f n) (g n))) (total_sum n f g)

pub total_map : (F : ℕ → ℕ) → Linear F → (n : ℕ) (f : ℕ → ℕ) → F (total n f) ≡ total n (λ j. F (f j))
total_map F h zero f = linear_zero F h
total_map F h (suc n) f = h (total n f) (f n) ∙ ap (λ (x : ℕ). bit_xor x (F (f n))) (total_map F h n f)

pub total_front : (n : ℕ) (f : ℕ → ℕ) → total (suc n) f ≡ bit_xor (f 0) (total n (λ j. f (suc j)))
total_front zero f = sym (xor_zero_r (f 0))
total_front (suc n) f =
    ap (λ (x : ℕ). bit_xor x (f (suc n))) (total_front n f) ∙ xor_assoc (f 0) (total n (λ j. f (suc j))) (f (suc n))

total_none : (n : ℕ) (f : ℕ → ℕ) → ((j : ℕ) → j < n → f j ≡ 0) → total n f ≡ 0
total_none zero f h = refl
total_none (suc n) f h = ap₂ bit_xor (total_none n f (λ j l. h j (omega arith))) (h n (omega arith))

-- all terms but one are 0
pub total_one : (n : ℕ) (f : ℕ → ℕ) (x : ℕ) → x < n → ((j : ℕ) → j < n → j ≢ x → f j ≡ 0) → total n f ≡ f x
total_one zero f x l h = absurd (not-suc-le-zero l)
total_one (suc n) f x l h = elim (cases_eq x n) [
  | inl e ↦
      let z : total n f ≡ 0 = total_none n f (λ j m. h j (omega arith) (omega arith)) in
      ap (λ (y : ℕ). bit_xor y (f n)) z ∙ ap f (sym e)
  | inr ne ↦
      ap₂ bit_xor (total_one n f x (omega arith) (λ j m d. h j (omega arith) d)) (h n (omega arith) (λ e. ne (sym e))) ∙ xor_zero_r (f x)
]

-- all but two
pub total_two : (n : ℕ) (f : ℕ → ℕ) (x y : ℕ) → x < y → y < n → ((j : ℕ) → j < n → j ≢ x → j ≢ y → f j ≡ 0) → total n f ≡ bit_xor (f x) (f y)
total_two zero f x y xy l h = absurd (not-suc-le-zero l)
total_two (suc n) f x y xy l h = elim (cases_eq y n) [
  | inl e ↦ ap₂ bit_xor (total_one n f x (omega arith) (λ j m d. h j (omega arith) d (omega arith))) (ap f (sym e))
  | inr ne ↦
      ap₂ bit_xor (total_two n f x y xy (omega arith) (λ j m d d'. h j (omega arith) d d')) (h n (omega arith) (omega arith) (λ e. ne (sym e)))
      ∙ xor_zero_r (bit_xor (f x) (f y))
]

-- ---- sectors, word by word

pub get_or-add : (s t : Sector) (w : ℕ) → get_or (add s t) w 0 ≡ bit_xor (get_or s w 0) (get_or t w 0)
unfolding add
get_or-add [] t w = refl
get_or-add (x ∷ s) [] w = sym (xor_zero_r (get_or (x ∷ s) w 0))
get_or-add (x ∷ s) (y ∷ t) zero = refl
get_or-add (x ∷ s) (y ∷ t) (suc w) = get_or-add s t w

pub get_or-map : (f : ℕ → ℕ) → f 0 ≡ 0 → (s : Sector) (w : ℕ) → get_or (map f s) w 0 ≡ f (get_or s w 0)
get_or-map f z [] w = sym z
get_or-map f z (x ∷ s) zero = refl
get_or-map f z (x ∷ s) (suc w) = get_or-map f z s w

pub get_or-noughts : (n w : ℕ) → ◌≡◌ {A = ℕ} (get_or (replicate n 0) w 0) 0
get_or-noughts zero w = refl
get_or-noughts (suc n) zero = refl
get_or-noughts (suc n) (suc w) = get_or-noughts n w

pub length-add : (s t : Sector) → length s ≡ length t → length (add s t) ≡ length t
unfolding add
length-add [] t h = refl
length-add (x ∷ s) [] h = h
length-add (x ∷ s) (y ∷ t) h = ap suc (length-add s t (omega arith))

pub good_noughts : Good noughts
good_noughts = record { long = refl; words = λ w. let e = get_or-noughts 64 w in subst (λ (x : ℕ). x < 2 ^ 64) (sym e) (lit< tt) }

pub good_add : (s t : Sector) → Good s → Good t → Good (add s t)
good_add s t g h = record {
  long = length-add s t (g.long ∙ sym h.long) ∙ h.long;
  words = λ w. subst (λ (x : ℕ). x < 2 ^ 64) (sym (get_or-add s t w)) (xor_lt 64 (get_or s w 0) (get_or t w 0) (g.words w) (h.words w));
}

product8_zero : (c : ℕ) → product8 c 0 ≡ 0
product8_zero c = linear_zero (product8 c) (linear_product8_n 8 c)

pub good_scaled : (c : ℕ) (s : Sector) → Good s → Good (map (product8 c) s)
good_scaled c s g = record {
  long = length-map s (product8 c) ∙ g.long;
  words = λ w. subst (λ (x : ℕ). x < 2 ^ 64) (sym (get_or-map (product8 c) (product8_zero c) s w)) (product8_n_lt 8 c (get_or s w 0) (g.words w));
}

-- ---- and element by element

pub byte_noughts : (w b : ℕ) → byte_at w b noughts ≡ 0
byte_noughts w b = ap (byte b) (get_or-noughts 64 w) ∙ linear_zero (byte b) (linear_byte b)

pub byte_add : (w b : ℕ) (s t : Sector) → byte_at w b (add s t) ≡ sum (byte_at w b s) (byte_at w b t)
byte_add w b s t = ap (byte b) (get_or-add s t w) ∙ linear_byte b (get_or s w 0) (get_or t w 0)

pub byte_scaled : (c w b : ℕ) (s : Sector) → Good s → b < 8 → byte_at w b (map (product8 c) s) ≡ product c (byte_at w b s)
byte_scaled c w b s g h =
    ap (byte b) (get_or-map (product8 c) (product8_zero c) s w) ∙ byte_product 8 c (get_or s w 0) (g.words w) b h

pub same_sector : (s t : Sector) → Good s → Good t → ((w b : ℕ) → w < 64 → b < 8 → byte_at w b s ≡ byte_at w b t) → s ≡ t
same_sector s t g h e =
    same_lists s t (g.long ∙ sym h.long)
    (λ w d l.
    let lt : w < length t = omega (arith, g.long, h.long) in
    let m : w < 64 = omega (arith, g.long) in
    get_or_default s w d 0 l ∙ same_word (get_or s w 0) (get_or t w 0) (g.words w) (h.words w) (λ b k. e w b m k) ∙ get_or_default t w 0 d lt)
