-- A word's eight elements are added, doubled and multiplied apart, and the word is known by them.
-- Assumes nothing.
use Rattle.std.proofs.Common.{◌≡◌, ℕ, zero, suc, ◌+◌, ◌-◌, ◌*◌, ◌/◌, ◌%◌, ◌^◌, ◌<◌, ◌≤◌, T, sym, refl, ap, ◌∙◌, subst, ap₂, mod-lt, div-add-mod', mul-suc, div-one, arith, lit<, pow_mono}
use native.Mathlib.Nat.{div-eq_of_lt}
use lib.Bits.{bit_and, bit_xor, xor_lt, xor_shifted, and_le_r}
use Rattle.std.proofs.lemmas.Nat.{shr-shr, shr_below}
use Rattle.field.specs.Field.{double, pick, product_by}
use Rattle.field.specs.Word.{byte, double8, EightElements}
use Rattle.field.proofs.Linear.{Linear, linear_zero, linear_after, linear_shl, linear_shr, linear_mod, all, all_at, agree, ext}
use Rattle.field.proofs.Products.{linear_double8, double_is, double_lt, pick_lt}

pub byte_lt : (b v : ℕ) → byte b v < 256
byte_lt b v = mod-lt (v / 2 ^ (8 * b)) (lit< tt)

pub linear_byte : (b : ℕ) → Linear (byte b)
linear_byte b = linear_after (λ v. v % 256) (λ v. v / 2 ^ (8 * b)) (linear_mod 8) (linear_shr (8 * b))

double_test : T (all 8 (λ b. agree (λ v. byte b (double8 v)) (λ v. double8 (byte b v)) 64))
unfolding double8
double_test = tt

pub byte_double : (v : ℕ) → v < 2 ^ 64 → (b : ℕ) → b < 8 → byte b (double8 v) ≡ double (byte b v)
byte_double v h b hb =
    ext (λ v. byte b (double8 v)) (λ v. double8 (byte b v)) (linear_after (byte b) double8 (linear_byte b) linear_double8) (linear_after double8 (byte b) linear_double8 (linear_byte b)) 64
    (all_at 8 (λ b. agree (λ v. byte b (double8 v)) (λ v. double8 (byte b v)) 64) double_test b hb) v h
    ∙ sym (double_is (byte b v) (byte_lt b v))

-- ---- what stays below 2^64

sums_lt : (a b c d e : ℕ) → a < 2 ^ 64 → b < 2 ^ 64 → c < 2 ^ 64 → d < 2 ^ 64 → e < 2 ^ 64 → bit_xor a (bit_xor b (bit_xor c (bit_xor d e))) < 2 ^ 64
sums_lt a b c d e ha hb hc hd he =
    xor_lt 64 a (bit_xor b (bit_xor c (bit_xor d e))) ha (xor_lt 64 b (bit_xor c (bit_xor d e)) hb (xor_lt 64 c (bit_xor d e) hc (xor_lt 64 d e hd he)))

pub double8_lt : (v : ℕ) → double8 v < 2 ^ 64
unfolding double8
double8_lt v =
    let m = bit_and v 0x7f7f_7f7f_7f7f_7f7f in
    let n = bit_and (v / 128) 0x0101_0101_0101_0101 in
    let hm = and_le_r v 0x7f7f_7f7f_7f7f_7f7f in
    let hn = and_le_r (v / 128) 0x0101_0101_0101_0101 in
    sums_lt (m * 2) n (n * 4) (n * 8) (n * 16) (omega arith) (omega arith) (omega arith) (omega arith) (omega arith)

pub product8_n_lt : (n c v : ℕ) → v < 2 ^ 64 → product_by double8 n c v < 2 ^ 64
unfolding product_by
product8_n_lt zero c v h = lit< tt
product8_n_lt (suc n) c v h = xor_lt 64 (pick (c % 2) v) (double8 (product_by double8 n (c / 2) v)) (pick_lt 64 (c % 2) v h) (double8_lt (product_by double8 n (c / 2) v))

-- ---- products

byte_pick : (bit b v : ℕ) → byte b (pick bit v) ≡ pick bit (byte b v)
byte_pick zero b v = linear_zero (byte b) (linear_byte b)
byte_pick (suc bit) b v = refl

pub byte_product : (n c v : ℕ) → v < 2 ^ 64 → (b : ℕ) → b < 8 → byte b (product_by double8 n c v) ≡ product_by double n c (byte b v)
unfolding product_by
byte_product zero c v h b hb = linear_zero (byte b) (linear_byte b)
byte_product (suc n) c v h b hb =
    linear_byte b (pick (c % 2) v) (double8 (product_by double8 n (c / 2) v))
    ∙ ap₂ bit_xor (byte_pick (c % 2) b v) (byte_double (product_by double8 n (c / 2) v) (product8_n_lt n (c / 2) v h) b hb ∙ ap double (byte_product n (c / 2) v h b hb))

-- ---- a word by its elements

above : (b v : ℕ) → byte b (v / 256) ≡ byte (suc b) v
above b v = ap (λ (x : ℕ). x % 256) (shr-shr v 8 (8 * b) ∙ ap (λ (n : ℕ). v / 2 ^ n) e)
  where
    e : 8 + 8 * b ≡ 8 * suc b
    e = omega (arith, mul-suc 8 b)

same_bytes : (n u v : ℕ) → u < 2 ^ (8 * n) → v < 2 ^ (8 * n) → ((b : ℕ) → b < n → byte b u ≡ byte b v) → u ≡ v
same_bytes zero u v hu hv h = omega arith
same_bytes (suc n) u v hu hv h =
    let e : 8 * n + 8 ≡ 8 * suc n = omega (arith, mul-suc 8 n) in
    let below : (x : ℕ) → x < 2 ^ (8 * suc n) → x / 256 < 2 ^ (8 * n)
    = λ x l. shr_below x (8 * n) 8 (subst (λ (k : ℕ). x < 2 ^ k) (sym e) l) in
    let high : u / 256 ≡ v / 256 = same_bytes n (u / 256) (v / 256) (below u hu) (below v hv) (λ b l. above b u ∙ h (suc b) (omega arith) ∙ sym (above b v)) in
    let low : u % 256 ≡ v % 256
    = ap (λ (x : ℕ). x % 256) (sym (div-one u)) ∙ h 0 (omega arith) ∙ ap (λ (x : ℕ). x % 256) (div-one v) in
    sym (div-add-mod' u 256) ∙ ap₂ (λ (x y : ℕ). x * 256 + y) high low ∙ div-add-mod' v 256

pub same_word : (u v : ℕ) → u < 2 ^ 64 → v < 2 ^ 64 → ((b : ℕ) → b < 8 → byte b u ≡ byte b v) → u ≡ v
same_word u v hu hv h = same_bytes 8 u v hu hv h

pub eight_elements : EightElements
eight_elements = record { sums = λ u v b. linear_byte b u v; doubles = byte_double; products = byte_product 8; same = same_word }

-- ---- one element more, behind the others

push_test : T (agree (λ u. double8 (u * 256)) (λ u. double8 u * 256) 56)
unfolding double8
push_test = tt

pub double_push : (u b : ℕ) → u < 2 ^ 56 → b < 256 → double8 u * 256 + double b ≡ double8 (u * 256 + b)
double_push u b hu hb =
    sym (xor_shifted (double8 u) 8 (double b) (double_lt b hb))
    ∙ ap₂ bit_xor
    (sym (ext (λ u. double8 (u * 256)) (λ u. double8 u * 256) (linear_after double8 (λ v. v * 256) linear_double8 (linear_shl 8)) (linear_after (λ v. v * 256) double8 (linear_shl 8) linear_double8) 56 push_test u hu))
    (double_is b hb)
    ∙ sym (linear_double8 (u * 256) b) ∙ ap double8 (xor_shifted u 8 b hb)

-- and of a word its next element
pub next_element : (j v r d : ℕ) → j < 8 → v < 2 ^ 64 → r ≡ double8 (v / 2 ^ (64 - 8 * j)) → d ≡ double (v / 2 ^ (56 - 8 * j) % 256) → r * 256 + d ≡ double8 (v / 2 ^ (64 - 8 * (j + 1)))
next_element j v r d hj hv er ed =
    let u = v / 2 ^ (64 - 8 * j) in
    let t = v / 2 ^ (56 - 8 * j) in
    let e : 56 - 8 * j + 8 ≡ 64 - 8 * j = omega arith in
    let e' : 56 - 8 * j ≡ 64 - 8 * (j + 1) = omega arith in
    let f : 8 * j + (64 - 8 * j) ≡ 64 = omega arith in
    let up : t / 256 ≡ u = shr-shr v (56 - 8 * j) 8 ∙ ap (λ (n : ℕ). v / 2 ^ n) e in
    let small : u < 2 ^ (8 * j) = shr_below v (8 * j) (64 - 8 * j) (subst (λ (n : ℕ). v < 2 ^ n) (sym f) hv) in
    let most : 2 ^ (8 * j) ≤ 2 ^ 56 = pow_mono {i = 8 * j} {j = 56} (omega arith) in
    ap₂ (λ (x y : ℕ). x * 256 + y) er ed ∙ double_push u (t % 256) (omega arith) (mod-lt t (lit< tt))
    ∙ ap double8 (ap (λ (x : ℕ). x * 256 + t % 256) (sym up) ∙ div-add-mod' t 256 ∙ ap (λ (n : ℕ). v / 2 ^ n) e')

pub no_element : (v : ℕ) → v < 2 ^ 64 → 0 ≡ double8 (v / 2 ^ 64)
no_element v h = sym (ap double8 (div-eq_of_lt h) ∙ linear_zero double8 linear_double8)
