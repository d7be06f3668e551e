-- Bytes are a field: each law from one computed test, at the bytes that have one bit or at all of them.
-- Assumes nothing.
use Rattle.std.proofs.Common.{◌≡◌, ℕ, zero, suc, ◌*◌, ◌/◌, ◌%◌, ◌^◌, ◌<◌, T, eqb, ltb, sym, refl, ap, ◌∙◌, ap₂, le_of_suc-le-suc, not-suc-le-zero, mod-lt, arith, lit<, eqb→eq, ltb→lt}
use lib.Bits.{bit_and, bit_xor, xor_self, xor_comm, xor_assoc, xor_zero_r, xor_lt}
use Rattle.field.specs.Field.{sum, double, pick, product_by, product, inverse, SumsAreAGroup, ProductsAreAField}
use Rattle.field.specs.Word.{carried, double8, product8}
use Rattle.field.proofs.Linear.{Linear, linear_id, linear_after, linear_sum, linear_and, linear_shl, linear_shr, linear_mod, all, all_at, agree, ext, ext'}

pub sums_are_a_group_lem : SumsAreAGroup
sums_are_a_group_lem = record { closed = xor_lt 8; comm = xor_comm; assoc = xor_assoc; nought = λ a. refl; itself = xor_self }

-- ---- what keeps sums

linear_carried : Linear carried
linear_carried =
    linear_sum (λ c. c) (λ c. bit_xor (c * 4) (bit_xor (c * 8) (c * 16))) linear_id
    (linear_sum (λ c. c * 4) (λ c. bit_xor (c * 8) (c * 16)) (linear_shl 2)
    (linear_sum (λ c. c * 8) (λ c. c * 16) (linear_shl 3) (linear_shl 4)))

pub linear_double8 : Linear double8
unfolding double8
linear_double8 =
    linear_sum (λ v. bit_and v 0x7f7f_7f7f_7f7f_7f7f * 2) (λ v. carried (bit_and (v / 128) 0x0101_0101_0101_0101))
    (linear_after (λ v. v * 2) (λ v. bit_and v 0x7f7f_7f7f_7f7f_7f7f) (linear_shl 1) (linear_and 0x7f7f_7f7f_7f7f_7f7f))
    (linear_after carried (λ v. bit_and (v / 128) 0x0101_0101_0101_0101) linear_carried
    (linear_after (λ v. bit_and v 0x0101_0101_0101_0101) (λ v. v / 128) (linear_and 0x0101_0101_0101_0101) (linear_shr 7)))

linear_pick : (b : ℕ) → Linear (pick b)
linear_pick zero a c = refl
linear_pick (suc b) a c = refl

pub linear_product8_n : (n c : ℕ) → Linear (product_by double8 n c)
unfolding product_by
linear_product8_n zero c = λ a b. refl
linear_product8_n (suc n) c =
    linear_sum (pick (c % 2)) (λ v. double8 (product_by double8 n (c / 2) v)) (linear_pick (c % 2))
    (linear_after double8 (product_by double8 n (c / 2)) linear_double8 (linear_product8_n n (c / 2)))

-- on the left too

not_digit {ℓ} : {A : Type ℓ} {x : ℕ} → suc (suc x) < 2 → A
not_digit h = absurd (not-suc-le-zero (le_of_suc-le-suc (le_of_suc-le-suc h)))

pick_sum : (a b v : ℕ) → a < 2 → b < 2 → pick (bit_xor a b) v ≡ bit_xor (pick a v) (pick b v)
pick_sum zero b v ha hb = refl
pick_sum (suc zero) zero v ha hb = sym (xor_zero_r v)
pick_sum (suc zero) (suc zero) v ha hb = sym (xor_self v)
pick_sum (suc zero) (suc (suc b)) v ha hb = not_digit hb
pick_sum (suc (suc a)) b v ha hb = not_digit ha

linear_bit : (v : ℕ) → Linear (λ c. pick (c % 2) v)
linear_bit v a b = ap (λ (x : ℕ). pick x v) (linear_mod 1 a b) ∙ pick_sum (a % 2) (b % 2) v (mod-lt a (lit< tt)) (mod-lt b (lit< tt))

linear_left : (n v : ℕ) → Linear (λ c. product_by double8 n c v)
unfolding product_by
linear_left zero v = λ a b. refl
linear_left (suc n) v =
    linear_sum (λ c. pick (c % 2) v) (λ c. double8 (product_by double8 n (c / 2) v)) (linear_bit v)
    (linear_after double8 (λ c. product_by double8 n (c / 2) v) linear_double8 (linear_after (λ c. product_by double8 n c v) (λ c. c / 2) (linear_left n v) (linear_shr 1)))

-- ---- a byte alone: what is done to words is what the field does

double_test : T (all 256 (λ a. eqb (double a) (double8 a)))
unfolding double double8
double_test = tt

pub double_is : (a : ℕ) → a < 256 → double a ≡ double8 a
double_is a h = eqb→eq (double a) (double8 a) (all_at 256 (λ a. eqb (double a) (double8 a)) double_test a h)

small_test : T (all 256 (λ a. ltb (double a) 256))
unfolding double
small_test = tt

pub double_lt : (a : ℕ) → a < 256 → double a < 256
double_lt a h = ltb→lt (double a) 256 (all_at 256 (λ a. ltb (double a) 256) small_test a h)

pub pick_lt : (n b v : ℕ) → v < 2 ^ n → pick b v < 2 ^ n
pick_lt n zero v h = omega arith
pick_lt n (suc b) v h = h

pub product_n_lt : (n a b : ℕ) → b < 256 → product_by double n a b < 256
unfolding product_by
product_n_lt zero a b h = lit< tt
product_n_lt (suc n) a b h =
    xor_lt 8 (pick (a % 2) b) (double (product_by double n (a / 2) b)) (pick_lt 8 (a % 2) b h) (double_lt (product_by double n (a / 2) b) (product_n_lt n (a / 2) b h))

product_n_is : (n a b : ℕ) → b < 256 → product_by double n a b ≡ product_by double8 n a b
unfolding product_by
product_n_is zero a b h = refl
product_n_is (suc n) a b h =
    ap (bit_xor (pick (a % 2) b)) (double_is (product_by double n (a / 2) b) (product_n_lt n (a / 2) b h) ∙ ap double8 (product_n_is n (a / 2) b h))

is : (a b : ℕ) → b < 256 → product a b ≡ product8 a b
is a b h = product_n_is 8 a b h

pub product_lt : (a b : ℕ) → b < 256 → product a b < 256
product_lt a b h = product_n_lt 8 a b h

-- ---- the laws, for words that have one byte

comm_test : T (all 8 (λ i. agree (product8 (2 ^ i)) (λ b. product8 b (2 ^ i)) 8))
unfolding product_by double8
comm_test = tt

assoc_test : T (all 8 (λ i. all 8 (λ j. agree (λ c. product8 (product8 (2 ^ i) (2 ^ j)) c) (λ c. product8 (2 ^ i) (product8 (2 ^ j) c)) 8)))
unfolding product_by double8
assoc_test = tt

one_test : T (agree (product8 1) (λ b. b) 8)
unfolding product_by double8
one_test = tt

comm8 : (a b : ℕ) → a < 256 → b < 256 → product8 a b ≡ product8 b a
comm8 a b ha hb =
    ext' (λ c. product8 c b) (product8 b) (linear_left 8 b) (linear_product8_n 8 b) 8
    (λ i hi. ext (product8 (2 ^ i)) (λ c. product8 c (2 ^ i)) (linear_product8_n 8 (2 ^ i)) (linear_left 8 (2 ^ i)) 8
    (all_at 8 (λ i. agree (product8 (2 ^ i)) (λ b. product8 b (2 ^ i)) 8) comm_test i hi) b hb)
    a ha

assoc8 : (a b c : ℕ) → a < 256 → b < 256 → c < 256 → product8 (product8 a b) c ≡ product8 a (product8 b c)
assoc8 a b c ha hb hc =
    ext' (λ x. product8 (product8 x b) c) (λ x. product8 x (product8 b c)) (linear_after (λ x. product8 x c) (λ x. product8 x b) (linear_left 8 c) (linear_left 8 b)) (linear_left 8 (product8 b c)) 8
    (λ i hi.
    ext' (λ y. product8 (product8 (2 ^ i) y) c) (λ y. product8 (2 ^ i) (product8 y c))
    (linear_after (λ x. product8 x c) (product8 (2 ^ i)) (linear_left 8 c) (linear_product8_n 8 (2 ^ i)))
    (linear_after (product8 (2 ^ i)) (λ y. product8 y c) (linear_product8_n 8 (2 ^ i)) (linear_left 8 c)) 8
    (λ j hj.
    ext (product8 (product8 (2 ^ i) (2 ^ j))) (λ z. product8 (2 ^ i) (product8 (2 ^ j) z)) (linear_product8_n 8 (product8 (2 ^ i) (2 ^ j)))
    (linear_after (product8 (2 ^ i)) (product8 (2 ^ j)) (linear_product8_n 8 (2 ^ i)) (linear_product8_n 8 (2 ^ j))) 8
    (all_at 8 (λ j. agree (λ c. product8 (product8 (2 ^ i) (2 ^ j)) c) (λ c. product8 (2 ^ i) (product8 (2 ^ j) c)) 8)
    (all_at 8 (λ i. all 8 (λ j. agree (λ c. product8 (product8 (2 ^ i) (2 ^ j)) c) (λ c. product8 (2 ^ i) (product8 (2 ^ j) c)) 8)) assoc_test i hi) j hj)
    c hc)
    b hb)
    a ha

-- ---- and so for the field

pub product_comm : (a b : ℕ) → a < 256 → b < 256 → product a b ≡ product b a
product_comm a b ha hb = is a b hb ∙ comm8 a b ha hb ∙ sym (is b a ha)

pub product_assoc : (a b c : ℕ) → a < 256 → b < 256 → c < 256 → product (product a b) c ≡ product a (product b c)
product_assoc a b c ha hb hc =
    is (product a b) c hc ∙ ap (λ (x : ℕ). product8 x c) (is a b hb) ∙ assoc8 a b c ha hb hc
    ∙ sym (is a (product b c) (product_lt b c hc) ∙ ap (product8 a) (is b c hc))

pub product_sum : (a b c : ℕ) → b < 256 → c < 256 → product a (sum b c) ≡ sum (product a b) (product a c)
product_sum a b c hb hc =
    is a (sum b c) (xor_lt 8 b c hb hc) ∙ linear_product8_n 8 a b c ∙ sym (ap₂ bit_xor (is a b hb) (is a c hc))

pub product_one : (a : ℕ) → a < 256 → product 1 a ≡ a
product_one a h = is 1 a h ∙ ext (product8 1) (λ b. b) (linear_product8_n 8 1) linear_id 8 one_test a h

two_test : T (all 256 (λ a. eqb (product 2 a) (double a)))
unfolding product_by double
two_test = tt

pub product_two : (a : ℕ) → a < 256 → product 2 a ≡ double a
product_two a h = eqb→eq (product 2 a) (double a) (all_at 256 (λ a. eqb (product 2 a) (double a)) two_test a h)

inverse_test : T (all 255 (λ a. eqb (product (suc a) (inverse (suc a))) 1))
unfolding product_by double inverse
inverse_test = tt

product_inverse : (a : ℕ) → a < 256 → 0 < a → product a (inverse a) ≡ 1
product_inverse zero h p = absurd (not-suc-le-zero p)
product_inverse (suc a) h p =
    eqb→eq (product (suc a) (inverse (suc a))) 1 (all_at 255 (λ a. eqb (product (suc a) (inverse (suc a))) 1) inverse_test a (omega arith))

pub products_are_a_field_lem : ProductsAreAField
products_are_a_field_lem = record {
  closed = λ a b ha hb. product_lt a b hb;
  comm = product_comm;
  assoc = product_assoc;
  distrib = λ a b c ha hb hc. product_sum a b c hb hc;
  one = product_one;
  two = product_two;
  inverses = product_inverse;
}
