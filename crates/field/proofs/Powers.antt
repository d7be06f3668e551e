-- Powers of 2: exponents add, and 2^255 is 1.
-- Assumes nothing.
use Rattle.std.proofs.Common.{◌≡◌, ℕ, zero, suc, ◌+◌, ◌-◌, ◌<◌, ◌≤◌, T, eqb, sym, refl, ap, ◌∙◌, suc-add, zero-add, arith, lit<, eqb→eq}
use Rattle.field.specs.Field.{sum, double, product, power, neighbour, PowersOfTwo}
use Rattle.field.proofs.Linear.{all, all_at}
use Rattle.field.proofs.Products.{double_lt, product_lt, product_assoc, product_one, product_two}

pub power_none : power 0 ≡ 1
unfolding power
power_none = refl

pub power_more : (n : ℕ) → power (suc n) ≡ double (power n)
unfolding power
power_more n = refl

pub power_lt : (n : ℕ) → power n < 256
unfolding power
power_lt zero = lit< tt
power_lt (suc n) = double_lt (power n) (power_lt n)

pub power_whole : power 255 ≡ 1
unfolding power double
power_whole = refl

-- twice a, times b
double_left : (a b : ℕ) → a < 256 → b < 256 → product (double a) b ≡ double (product a b)
double_left a b ha hb =
    ap (λ (x : ℕ). product x b) (sym (product_two a ha)) ∙ product_assoc 2 a b (lit< tt) ha hb ∙ product_two (product a b) (product_lt a b hb)

pub product_more : (n b : ℕ) → b < 256 → product (power (suc n)) b ≡ double (product (power n) b)
product_more n b h = ap (λ (x : ℕ). product x b) (power_more n) ∙ double_left (power n) b (power_lt n) h

pub power_adds : (m n : ℕ) → power (m + n) ≡ product (power m) (power n)
power_adds zero n =
    ap power (zero-add n) ∙ sym (ap (λ (x : ℕ). product x (power n)) power_none ∙ product_one (power n) (power_lt n))
power_adds (suc m) n =
    ap power (suc-add m n) ∙ power_more (m + n) ∙ ap double (power_adds m n) ∙ sym (product_more m (power n) (power_lt n))

-- 2^m times 2^n times b
pub power_power : (m n b : ℕ) → b < 256 → product (power m) (product (power n) b) ≡ product (power (m + n)) b
power_power m n b h = sym (product_assoc (power m) (power n) b (power_lt m) (power_lt n) h) ∙ ap (λ (x : ℕ). product x b) (sym (power_adds m n))

-- 2^255 times 2^n times b
pub power_round : (m n b : ℕ) → m ≡ 255 + n → b < 256 → product (power m) b ≡ product (power n) b
power_round m n b e h =
    ap (λ (x : ℕ). product (power x) b) e ∙ sym (power_power 255 n b h)
    ∙ ap (λ (x : ℕ). product x (product (power n) b)) power_whole ∙ product_one (product (power n) b) (product_lt (power n) b h)

pub power_undone : (m b : ℕ) → m ≤ 255 → b < 256 → product (power (255 - m)) (product (power m) b) ≡ b
power_undone m b l h =
    power_power (255 - m) m b h ∙ power_round (255 - m + m) 0 b (omega arith) h ∙ ap (λ (x : ℕ). product x b) power_none ∙ product_one b h

neighbour_test : T (all 9 (λ d. eqb (sum 1 (power (suc d))) (power (neighbour (suc d)))))
unfolding power double
neighbour_test = tt

pub neighbour_is : (d : ℕ) → 1 ≤ d → d ≤ 9 → sum 1 (power d) ≡ power (neighbour d)
neighbour_is zero p l = absurd (omega arith)
neighbour_is (suc d) p l =
    eqb→eq (sum 1 (power (suc d))) (power (neighbour (suc d)))
    (all_at 9 (λ d. eqb (sum 1 (power (suc d))) (power (neighbour (suc d)))) neighbour_test d (omega arith))

pub powers_of_two_lem : PowersOfTwo
unfolding power double
powers_of_two_lem = record { none = refl; one = refl; within = power_lt; adds = power_adds; whole = power_whole; differs = neighbour_is }
