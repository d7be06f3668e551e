-- Steps of the loops over words.
-- Assumes nothing.
use Rattle.std.proofs.Common.{◌≡◌, ℕ, zero, suc, ◌+◌, ◌/◌, ◌%◌, ◌^◌, ◌<◌, [], ◌∷◌, ◌++◌, map, length, get_or, take, drop, set, sym, refl, ap, ◌∙◌, ap₂, le_of_suc-le-suc, not-suc-le-zero, add-one, arith}
use lib.Bits.{bit_xor}
use Rattle.std.proofs.lemmas.List.{take_all, drop_all, append-nil, get_or_default, map-id}
use Rattle.std.proofs.lemmas.List.Edits.{map_over_more}
use Rattle.std.proofs.lemmas.Nat.{shr-shr}
use Rattle.field.specs.Field.{pick, product_by}
use Rattle.field.specs.Column.{Sector, add}

-- ---- a map in place

pub over_more : (f : ℕ → ℕ) (a s : Sector) (i r : ℕ) → i < length a → length s ≡ length a → s ≡ map f (take i a) ++ drop i a → r ≡ f (get_or s i 0)
    → set s i r ≡ map f (take (i + 1) a) ++ drop (i + 1) a
over_more f a s i r h l e q =
    ap (set s i) q ∙ map_over_more f a s i (get_or s i 0) h e (get_or_default s i 0 (get_or s i 0) (omega arith))

pub over_all : (f : ℕ → ℕ) (a s : Sector) (n : ℕ) → n ≡ length a → s ≡ map f (take n a) ++ drop n a → s ≡ map f a
over_all f a s n h e =
    e ∙ ap₂ (λ (x y : Sector). map f x ++ y) (take_all n a (omega arith)) (drop_all n a (omega arith)) ∙ append-nil (map f a)

-- ---- f of each word of a, with b's added: at the first i words, the others still a's

pub upto : (ℕ → ℕ) → ℕ → Sector → Sector → Sector
upto f zero a b = a
upto f (suc i) [] b = []
upto f (suc i) (x ∷ a) [] = x ∷ a
upto f (suc i) (x ∷ a) (y ∷ b) = bit_xor (f x) y ∷ upto f i a b

module _ (f : ℕ → ℕ) where
  pub upto_none : (a b : Sector) → a ≡ upto f 0 a b
  unfolding upto
  upto_none a b = refl

  upto_at : (i : ℕ) (a b : Sector) → get_or (upto f i a b) i 0 ≡ get_or a i 0
  unfolding upto
  upto_at zero a b = refl
  upto_at (suc i) [] b = refl
  upto_at (suc i) (x ∷ a) [] = refl
  upto_at (suc i) (x ∷ a) (y ∷ b) = upto_at i a b

  upto_suc : (i : ℕ) (a b : Sector) → i < length b → set (upto f i a b) i (bit_xor (f (get_or a i 0)) (get_or b i 0)) ≡ upto f (suc i) a b
  unfolding upto
  upto_suc zero [] b h = refl
  upto_suc zero (x ∷ a) [] h = absurd (not-suc-le-zero h)
  upto_suc zero (x ∷ a) (y ∷ b) h = refl
  upto_suc (suc i) [] b h = refl
  upto_suc (suc i) (x ∷ a) [] h = absurd (not-suc-le-zero h)
  upto_suc (suc i) (x ∷ a) (y ∷ b) h = ap (λ (s : Sector). bit_xor (f x) y ∷ s) (upto_suc i a b (le_of_suc-le-suc h))

  pub upto_more : (i : ℕ) (a b s : Sector) (v : ℕ) → i < length b → s ≡ upto f i a b → v ≡ f (get_or s i 0) → set s i (bit_xor v (get_or b i 0)) ≡ upto f (i + 1) a b
  upto_more i a b s v h e ev =
      ap (λ (x : ℕ). set s i (bit_xor x (get_or b i 0))) ev
      ∙ ap (λ (r : Sector). set r i (bit_xor (f (get_or r i 0)) (get_or b i 0))) e
      ∙ ap (λ (x : ℕ). set (upto f i a b) i (bit_xor (f x) (get_or b i 0))) (upto_at i a b)
      ∙ upto_suc i a b h ∙ ap (λ (n : ℕ). upto f n a b) (sym (add-one i))

  pub upto_all : (a b : Sector) (n : ℕ) → n ≡ length a → length a ≡ length b → upto f n a b ≡ add (map f a) b
  unfolding upto add
  upto_all [] [] zero e h = refl
  upto_all [] (y ∷ b) n e h = absurd (omega arith)
  upto_all [] [] (suc n) e h = absurd (omega arith)
  upto_all (x ∷ a) b zero e h = absurd (omega arith)
  upto_all (x ∷ a) [] (suc n) e h = absurd (omega arith)
  upto_all (x ∷ a) (y ∷ b) (suc n) e h = ap (λ (s : Sector). bit_xor (f x) y ∷ s) (upto_all a b n (omega arith) (omega arith))

map_same : (f g : ℕ → ℕ) → ((v : ℕ) → f v ≡ g v) → (s : Sector) → map f s ≡ map g s
map_same f g h [] = refl
map_same f g h (x ∷ s) = ap₂ (λ (y : ℕ) (t : Sector). y ∷ t) (h x) (map_same f g h s)

-- words that are raised by what computes the same are the same
pub raised_by : (f g : ℕ → ℕ) → ((v : ℕ) → f v ≡ g v) → (s t r : Sector) → r ≡ add (map f s) t → r ≡ add (map g s) t
raised_by f g h s t r e = e ∙ ap (λ (u : Sector). add u t) (map_same f g h s)

pub not_raised : (s t r : Sector) → r ≡ add (map (λ (v : ℕ). v) s) t → r ≡ add s t
not_raised s t r e = e ∙ ap (λ (u : Sector). add u t) (map-id s)

-- ---- the product, from the highest bit on

module _ (f : ℕ → ℕ) where
  pub product_none : (c v : ℕ) → 0 ≡ product_by f 0 c v
  unfolding product_by
  product_none c v = refl

  pub product_more : (n i c v : ℕ) → bit_xor (pick (c / 2 ^ i % 2) v) (f (product_by f n (c / 2 ^ (i + 1)) v)) ≡ product_by f (n + 1) (c / 2 ^ i) v
  unfolding product_by
  product_more n i c v =
      ap (λ (x : ℕ). bit_xor (pick (c / 2 ^ i % 2) v) (f (product_by f n x v))) (sym (shr-shr c i 1)) ∙ ap (λ (m : ℕ). product_by f m (c / 2 ^ i) v) (sym (add-one n))
