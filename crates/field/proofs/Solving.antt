-- Two data columns from what is left of P and Q.
-- Assumes nothing.
use Rattle.std.proofs.Common.{◌≡◌, ℕ, zero, suc, ◌+◌, ◌-◌, ◌<◌, ◌≤◌, T, leb, map, get_or, sym, ap, ◌∙◌, subst, ap₂, arith, lit<, leb→le}
use lib.Bits.{bit_xor, xor_comm, xor_assoc, xor_self, xor_zero_r, xor_lt}
use Rattle.field.specs.Field.{sum, product, power, neighbour}
use Rattle.field.specs.Word.{product8}
use Rattle.field.specs.Column.{Sector, Good, byte_at, add, Solves}
use Rattle.field.proofs.Linear.{xor_swap, all, all_at}
use Rattle.field.proofs.Products.{product_lt, product_comm, product_sum, product_one}
use Rattle.field.proofs.Powers.{power_lt, power_power, power_round, power_undone, neighbour_is}
use Rattle.field.proofs.Eight.{byte_lt}
use Rattle.field.proofs.Totals.{good_add, good_scaled, byte_add, byte_scaled, same_sector}

neighbour_test : T (all 9 (λ d. leb (neighbour (suc d)) 255))
neighbour_test = tt

neighbour_le : (d : ℕ) → 1 ≤ d → d ≤ 9 → neighbour d ≤ 255
neighbour_le zero p l = absurd (omega arith)
neighbour_le (suc d) p l = leb→le (neighbour (suc d)) 255 (all_at 9 (λ d. leb (neighbour (suc d)) 255) neighbour_test d (omega arith))

sum_product : (a b c : ℕ) → a < 256 → b < 256 → c < 256 → product (sum a b) c ≡ sum (product a c) (product b c)
sum_product a b c ha hb hc =
    product_comm (sum a b) c (xor_lt 8 a b ha hb) hc ∙ product_sum c a b ha hb
    ∙ ap₂ bit_xor (product_comm c a hc ha) (product_comm c b hc hb)

-- an element of each: p = a + b and q = 2^x · a + 2^y · b
module _ (x y a b p q : ℕ) (xy : x < y) (few : y < 10) (ha : a < 256) (hb : b < 256)
    (ep : p ≡ sum a b) (eq : q ≡ sum (product (power x) a) (product (power y) b)) where
  -- q / 2^x = a + 2^(y - x) · b
  lowered : product (power (255 - x)) q ≡ sum a (product (power (y - x)) b)
  lowered =
      ap (product (power (255 - x))) eq
      ∙ product_sum (power (255 - x)) (product (power x) a) (product (power y) b) (product_lt (power x) a ha) (product_lt (power y) b hb)
      ∙ ap₂ bit_xor (power_undone x a (omega arith) ha) (power_power (255 - x) y b hb ∙ power_round (255 - x + y) (y - x) b (omega arith) hb)

  -- and with p added (1 + 2^(y - x)) · b
  both : sum (product (power (255 - x)) q) p ≡ product (power (neighbour (y - x))) b
  both =
      let d = y - x in
      let c = product (power d) b in
      ap₂ bit_xor lowered ep ∙ xor_swap a c a b ∙ ap (λ (z : ℕ). bit_xor z (bit_xor c b)) (xor_self a) ∙ xor_comm c b
      ∙ ap (λ (z : ℕ). bit_xor z c) (sym (product_one b hb)) ∙ sym (sum_product 1 (power d) b (lit< tt) (power_lt d) hb)
      ∙ ap (λ (z : ℕ). product z b) (neighbour_is d (omega arith) (omega arith))

  pub second : product (power (255 - neighbour (y - x))) (sum (product (power (255 - x)) q) p) ≡ b
  second =
      ap (product (power (255 - neighbour (y - x)))) both
      ∙ power_undone (neighbour (y - x)) b (neighbour_le (y - x) (omega arith) (omega arith)) hb

  pub first : (r : ℕ) → r ≡ b → sum p r ≡ a
  first r e = ap₂ bit_xor ep e ∙ xor_assoc a b b ∙ ap (bit_xor a) (xor_self b) ∙ xor_zero_r a

-- and so of two sectors
pub solved : (x y r : ℕ) (p q q1 q2 q3 p1 : Sector) → x < y → y < 10 → r ≡ power (255 - neighbour (y - x))
    → q1 ≡ map (product8 (power (255 - x))) q → q2 ≡ add q1 p → q3 ≡ map (product8 r) q2 → p1 ≡ add p q3 → Solves x y p q p1 q3
solved x y r p q q1 q2 q3 p1 xy few er e1 e2 e3 e4 a b ga gb rs =
    let g1 : Good q1 = subst Good (sym e1) (good_scaled (power (255 - x)) q rs.good_q) in
    let g2 : Good q2 = subst Good (sym e2) (good_add q1 p g1 rs.good_p) in
    let g3 : Good q3 = subst Good (sym e3) (good_scaled r q2 g2) in
    let g4 : Good p1 = subst Good (sym e4) (good_add p q3 rs.good_p g3) in
    let at2 : (w e : ℕ) → e < 8 → byte_at w e q2 ≡ sum (product (power (255 - x)) (byte_at w e q)) (byte_at w e p)
    = λ w e h.
    ap (byte_at w e) e2 ∙ byte_add w e q1 p
    ∙ ap (λ (z : ℕ). bit_xor z (byte_at w e p)) (ap (byte_at w e) e1 ∙ byte_scaled (power (255 - x)) w e q rs.good_q h) in
    let at3 : (w e : ℕ) → w < 64 → e < 8 → byte_at w e q3 ≡ byte_at w e b
    = λ w e l h.
    ap (byte_at w e) e3 ∙ byte_scaled r w e q2 g2 h ∙ ap₂ product er (at2 w e h)
    ∙ second x y (byte_at w e a) (byte_at w e b) (byte_at w e p) (byte_at w e q) xy few (byte_lt e (get_or a w 0)) (byte_lt e (get_or b w 0)) (rs.in_p w e l h) (rs.in_q w e l h) in
    let at4 : (w e : ℕ) → w < 64 → e < 8 → byte_at w e p1 ≡ byte_at w e a
    = λ w e l h.
    ap (byte_at w e) e4 ∙ byte_add w e p q3
    ∙ first x y (byte_at w e a) (byte_at w e b) (byte_at w e p) (byte_at w e q) xy few (byte_lt e (get_or a w 0)) (byte_lt e (get_or b w 0)) (rs.in_p w e l h) (rs.in_q w e l h) (byte_at w e q3) (at3 w e l h) in
    (same_sector p1 a g4 ga at4, same_sector q3 b g3 gb at3)
