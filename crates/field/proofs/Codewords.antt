-- Laws of codewords.
-- Assumes nothing.
use Rattle.std.proofs.Common.{◌≡◌, ℕ, zero, suc, ◌+◌, ◌-◌, ◌^◌, ◌<◌, ◌≤◌, T, eqb, ◌≢◌, List, [], ◌∷◌, get_or, replicate, sym, refl, ap, ◌∙◌, subst, ap₂, inl, inr, arith, lit<, eqb→eq}
use lib.Bits.{bit_xor, xor_assoc, xor_self, xor_zero_r, xor_lt}
use Rattle.std.proofs.lemmas.List.{get_or-replicate, get_or_past}
use Rattle.std.proofs.lemmas.Bool.{cases_lt, cases_eq}
use Rattle.field.specs.Field.{sum, double, product_by, product, power, neighbour}
use Rattle.field.specs.Word.{byte}
use Rattle.field.specs.Column.{Sector, noughts, Good, byte_at, total, IsP, IsQ, plain, raised}
use Rattle.field.specs.Stripe.{data_of, Codeword, Blank, Grows, Unique, six, Example}
use Rattle.field.proofs.Linear.{all, all_at}
use Rattle.field.proofs.Powers.{power_undone}
use Rattle.field.proofs.Products.{product_sum}
use Rattle.field.proofs.Eight.{byte_lt}
use Rattle.field.proofs.Totals.{total_same, total_sum, total_one, total_two, good_noughts, same_sector}
use Rattle.field.proofs.Parities.{product_zero, raised_zero, noughts_sum, noughts_change_nothing_lem, nothing_behind_lem, only_one}
use Rattle.field.proofs.Solving.{first, second}

-- ---- noughts, and one column more

pub blank : Blank
blank k = record { good = λ i. good_noughts; beyond = λ i h. refl; parity_p = noughts_sum plain (λ j. refl) (k - 2); parity_q = noughts_sum raised raised_zero (k - 2) }

pub grows : Grows
grows k c few cw =
    let e : k - 2 + 1 ≡ k + 1 - 2 = omega arith in
    let f : 2 + (k - 2) ≡ k = omega arith in
    let z : data_of c (k - 2) ≡ noughts = ap c f ∙ cw.beyond k (omega arith) in
    let more = noughts_change_nothing_lem (k - 2) (data_of c) z in
    record {
      good = cw.good;
      beyond = λ i l. cw.beyond i (omega arith);
      parity_p = subst (λ (n : ℕ). IsP n (data_of c) (c 0)) e (more.0 (c 0) cw.parity_p);
      parity_q = subst (λ (n : ℕ). IsQ n (data_of c) (c 1)) e (more.1 (c 1) cw.parity_q);
    }

-- what has a codeword's columns is one
pub codeword_same : (k : ℕ) (c d : ℕ → Sector) → ((i : ℕ) → c i ≡ d i) → Codeword k c → Codeword k d
codeword_same k c d e cw =
    let to = nothing_behind_lem (k - 2) (data_of c) (data_of d) (λ j l. e (2 + j)) in
    record {
      good = λ i. subst Good (e i) (cw.good i);
      beyond = λ i h. sym (e i) ∙ cw.beyond i h;
      parity_p = subst (IsP (k - 2) (data_of d)) (e 0) (to.0 (c 0) cw.parity_p);
      parity_q = subst (IsQ (k - 2) (data_of d)) (e 1) (to.1 (c 1) cw.parity_q);
    }

-- ---- codewords that agree in all columns but two

no_sum : (a b : ℕ) → sum a b ≡ 0 → a ≡ b
no_sum a b e =
    sym (xor_zero_r a) ∙ ap (bit_xor a) (sym (xor_self b)) ∙ sym (xor_assoc a b b) ∙ ap (λ (x : ℕ). bit_xor x b) e

-- codewords that agree in their data agree
pub same_data : (k : ℕ) (c d : ℕ → Sector) → 2 ≤ k → Codeword k c → Codeword k d → ((j : ℕ) → j < k - 2 → c (2 + j) ≡ d (2 + j)) → (i : ℕ) → c i ≡ d i
same_data k c d few cw dw same i =
    let to = nothing_behind_lem (k - 2) (data_of c) (data_of d) same in
    let one = only_one (k - 2) (data_of d) in
    elim (cases_eq i 0) [
      | inl e ↦ ap c e ∙ one.0 (c 0) (d 0) (to.0 (c 0) cw.parity_p) dw.parity_p ∙ ap d (sym e)
      | inr n0 ↦ elim (cases_eq i 1) [
        | inl e ↦ ap c e ∙ one.1 (c 1) (d 1) (to.1 (c 1) cw.parity_q) dw.parity_q ∙ ap d (sym e)
        | inr n1 ↦ elim (cases_lt i k) [
          | inl lt ↦ let e : 2 + (i - 2) ≡ i = omega arith in ap c (sym e) ∙ same (i - 2) (omega arith) ∙ ap d e
          | inr ge ↦ cw.beyond i ge ∙ sym (dw.beyond i ge)
        ]
      ]
    ]

module _ (k : ℕ) (c d : ℕ → Sector) (most : k ≤ 12) (cw : Codeword k c) (dw : Codeword k d) where
  -- by how much an element of data column j differs
  off : (w b j : ℕ) → ℕ
  off w b j = sum (byte_at w b (c (2 + j))) (byte_at w b (d (2 + j)))

  off_lt : (w b j : ℕ) → off w b j < 256
  unfolding off
  off_lt w b j = xor_lt 8 (byte_at w b (c (2 + j))) (byte_at w b (d (2 + j))) (byte_lt b (get_or (c (2 + j)) w 0)) (byte_lt b (get_or (d (2 + j)) w 0))

  off_none : (w b j : ℕ) → c (2 + j) ≡ d (2 + j) → off w b j ≡ 0
  unfolding off
  off_none w b j e = ap (λ (s : Sector). sum (byte_at w b s) (byte_at w b (d (2 + j)))) e ∙ xor_self (byte_at w b (d (2 + j)))

  same_from : (j : ℕ) → ((w b : ℕ) → w < 64 → b < 8 → off w b j ≡ 0) → c (2 + j) ≡ d (2 + j)
  unfolding off
  same_from j z =
      same_sector (c (2 + j)) (d (2 + j)) (cw.good (2 + j)) (dw.good (2 + j)) (λ w b lw lb. no_sum (byte_at w b (c (2 + j))) (byte_at w b (d (2 + j))) (z w b lw lb))

  -- where P agrees, the differences add up to nothing, and where Q agrees, so do their multiples
  all_p : c 0 ≡ d 0 → (w b : ℕ) → w < 64 → b < 8 → total (k - 2) (off w b) ≡ 0
  unfolding off
  all_p e w b lw lb =
      sym (total_sum (k - 2) (λ j. byte_at w b (c (2 + j))) (λ j. byte_at w b (d (2 + j))))
      ∙ ap₂ bit_xor (sym (cw.parity_p.bytes w b lw lb) ∙ ap (byte_at w b) e) (sym (dw.parity_p.bytes w b lw lb)) ∙ xor_self (byte_at w b (d 0))

  all_q : c 1 ≡ d 1 → (w b : ℕ) → w < 64 → b < 8 → total (k - 2) (λ j. raised j (off w b j)) ≡ 0
  unfolding off
  all_q e w b lw lb =
      total_same (k - 2) (λ j. raised j (off w b j)) (λ j. sum (raised j (byte_at w b (c (2 + j)))) (raised j (byte_at w b (d (2 + j)))))
      (λ j l. product_sum (power j) (byte_at w b (c (2 + j))) (byte_at w b (d (2 + j))) (byte_lt b (get_or (c (2 + j)) w 0)) (byte_lt b (get_or (d (2 + j)) w 0)))
      ∙ sym (total_sum (k - 2) (λ j. raised j (byte_at w b (c (2 + j)))) (λ j. raised j (byte_at w b (d (2 + j)))))
      ∙ ap₂ bit_xor (sym (cw.parity_q.bytes w b lw lb) ∙ ap (byte_at w b) e) (sym (dw.parity_q.bytes w b lw lb)) ∙ xor_self (byte_at w b (d 1))

  raised_none : (w b j : ℕ) → c (2 + j) ≡ d (2 + j) → raised j (off w b j) ≡ 0
  raised_none w b j e = ap (raised j) (off_none w b j e) ∙ raised_zero j

  one_p : (x : ℕ) → x < k - 2 → c 0 ≡ d 0 → ((j : ℕ) → j < k - 2 → j ≢ x → c (2 + j) ≡ d (2 + j)) → c (2 + x) ≡ d (2 + x)
  one_p x l e same =
      same_from x (λ w b lw lb. sym (total_one (k - 2) (off w b) x l (λ j m n. off_none w b j (same j m n))) ∙ all_p e w b lw lb)

  one_q : (x : ℕ) → x < k - 2 → c 1 ≡ d 1 → ((j : ℕ) → j < k - 2 → j ≢ x → c (2 + j) ≡ d (2 + j)) → c (2 + x) ≡ d (2 + x)
  one_q x l e same =
      same_from x
      (λ w b lw lb.
      let z : raised x (off w b x) ≡ 0 = sym (total_one (k - 2) (λ j. raised j (off w b j)) x l (λ j m n. raised_none w b j (same j m n))) ∙ all_q e w b lw lb in
      sym (power_undone x (off w b x) (omega arith) (off_lt w b x)) ∙ ap (product (power (255 - x))) z ∙ product_zero (power (255 - x)))

  both : (x y : ℕ) → x < y → y < k - 2 → c 0 ≡ d 0 → c 1 ≡ d 1 → ((j : ℕ) → j < k - 2 → j ≢ x → j ≢ y → c (2 + j) ≡ d (2 + j))
      → (c (2 + x) ≡ d (2 + x)) × (c (2 + y) ≡ d (2 + y))
  both x y xy l ep eq same =
      let few : y < 10 = omega arith in
      let in_p : (w b : ℕ) → w < 64 → b < 8 → 0 ≡ sum (off w b x) (off w b y)
      = λ w b lw lb. sym (all_p ep w b lw lb) ∙ total_two (k - 2) (off w b) x y xy l (λ j m n n'. off_none w b j (same j m n n')) in
      let in_q : (w b : ℕ) → w < 64 → b < 8 → 0 ≡ sum (raised x (off w b x)) (raised y (off w b y))
      = λ w b lw lb. sym (all_q eq w b lw lb) ∙ total_two (k - 2) (λ j. raised j (off w b j)) x y xy l (λ j m n n'. raised_none w b j (same j m n n')) in
      let at_y : (w b : ℕ) → w < 64 → b < 8 → off w b y ≡ 0
      = λ w b lw lb.
      sym (second x y (off w b x) (off w b y) 0 0 xy few (off_lt w b x) (off_lt w b y) (in_p w b lw lb) (in_q w b lw lb))
      ∙ ap (λ (z : ℕ). product (power (255 - neighbour (y - x))) (sum z 0)) (product_zero (power (255 - x))) ∙ product_zero (power (255 - neighbour (y - x))) in
      let at_x : (w b : ℕ) → w < 64 → b < 8 → off w b x ≡ 0
      = λ w b lw lb.
      sym (first x y (off w b x) (off w b y) 0 0 xy few (off_lt w b x) (off_lt w b y) (in_p w b lw lb) (in_q w b lw lb) 0 (sym (at_y w b lw lb))) in
      (same_from x at_x, same_from y at_y)

pub unique : Unique
unique k a b c d few most ab bk cw dw same =
    same_data k c d (omega arith) cw dw
    (elim (cases_lt a 2) [
      | inr two ↦
          let x : ℕ = a - 2 in
          let y : ℕ = b - 2 in
          let rest : (j : ℕ) → j < k - 2 → j ≢ x → j ≢ y → c (2 + j) ≡ d (2 + j)
          = λ j l nx ny. same (2 + j) (omega arith) (λ e. nx (omega arith)) (λ e. ny (omega arith)) in
          let had = both k c d most cw dw x y (omega arith) (omega arith) (same 0 (omega arith) (λ e. omega arith) (λ e. omega arith)) (same 1 (omega arith) (λ e. omega arith) (λ e. omega arith)) rest in
          λ j l. elim (cases_eq j x) [
            | inl e ↦ ap (λ (n : ℕ). c (2 + n)) e ∙ had.0 ∙ ap (λ (n : ℕ). d (2 + n)) (sym e)
            | inr nx ↦ elim (cases_eq j y) [
              | inl e ↦ ap (λ (n : ℕ). c (2 + n)) e ∙ had.1 ∙ ap (λ (n : ℕ). d (2 + n)) (sym e)
              | inr ny ↦ rest j l nx ny
            ]
          ]
      | inl low ↦ elim (cases_lt b 2) [
        | inl lb ↦ λ j l. same (2 + j) (omega arith) (λ e. omega arith) (λ e. omega arith)
        | inr gb ↦
            let y : ℕ = b - 2 in
            let rest : (j : ℕ) → j < k - 2 → j ≢ y → c (2 + j) ≡ d (2 + j)
            = λ j l ny. same (2 + j) (omega arith) (λ e. omega arith) (λ e. ny (omega arith)) in
            let had : c (2 + y) ≡ d (2 + y) = elim (cases_eq a 0) [
              | inl z ↦ one_q k c d most cw dw y (omega arith) (same 1 (omega arith) (λ e. omega arith) (λ e. omega arith)) rest
              | inr n ↦ one_p k c d most cw dw y (omega arith) (same 0 (omega arith) (λ e. n (sym e)) (λ e. omega arith)) rest
            ] in
            λ j l. elim (cases_eq j y) [
              | inl e ↦ ap (λ (n : ℕ). c (2 + n)) e ∙ had ∙ ap (λ (n : ℕ). d (2 + n)) (sym e)
              | inr ny ↦ rest j l ny
            ]
      ]
    ])

-- ---- the example

good_filled : (n : ℕ) → n < 2 ^ 64 → Good (replicate 64 n)
good_filled n h = record {
  long = refl;
  words = λ w. elim (cases_lt w 64) [
    | inl lt ↦ subst (λ (x : ℕ). x < 2 ^ 64) (sym (get_or-replicate 64 w n 0 lt)) h
    | inr ge ↦ subst (λ (x : ℕ). x < 2 ^ 64) (sym (get_or_past (replicate 64 n) w 0 ge)) (lit< tt)
  ];
}

filled_at : (n w b : ℕ) → w < 64 → byte_at w b (replicate 64 n) ≡ byte b n
filled_at n w b h = ap (byte b) (get_or-replicate 64 w n 0 h)

-- the data, of which six has P and Q before them
abbrev fillings : List ℕ
fillings = 7 ∷ 8 ∷ 9 ∷ 10 ∷ []

p_test : T (all 8 (λ b. eqb (byte b 12) (total 4 (λ j. byte b (get_or fillings j 0)))))
p_test = tt

q_test : T (all 8 (λ b. eqb (byte b 99) (total 4 (λ j. product (power j) (byte b (get_or fillings j 0))))))
unfolding power double product_by
q_test = tt

good_six : (i : ℕ) → Good (six i)
good_six zero = good_filled 12 (lit< tt)
good_six (suc zero) = good_filled 99 (lit< tt)
good_six (suc (suc zero)) = good_filled 7 (lit< tt)
good_six (suc (suc (suc zero))) = good_filled 8 (lit< tt)
good_six (suc (suc (suc (suc zero)))) = good_filled 9 (lit< tt)
good_six (suc (suc (suc (suc (suc zero))))) = good_filled 10 (lit< tt)
good_six (suc (suc (suc (suc (suc (suc i)))))) = good_noughts

six_at : (w b : ℕ) → w < 64 → (j : ℕ) → byte_at w b (six (2 + j)) ≡ byte b (get_or fillings j 0)
six_at w b h j =
    let e : 2 + j ≡ suc (suc j) = omega arith in
    ap (λ (i : ℕ). byte_at w b (six i)) e ∙ filled_at (get_or fillings j 0) w b h

six_codeword : Codeword 6 six
six_codeword = record {
  good = good_six;
  beyond = λ i h. ap (replicate 64) (get_or_past (12 ∷ 99 ∷ 7 ∷ 8 ∷ 9 ∷ 10 ∷ []) i 0 h);
  parity_p = record {
    good = good_six 0;
    bytes = λ w b lw lb.
        filled_at 12 w b lw ∙ eqb→eq (byte b 12) (total 4 (λ j. byte b (get_or fillings j 0))) (all_at 8 (λ b. eqb (byte b 12) (total 4 (λ j. byte b (get_or fillings j 0)))) p_test b lb)
        ∙ sym (total_same 4 (λ j. byte_at w b (six (2 + j))) (λ j. byte b (get_or fillings j 0)) (λ j l. six_at w b lw j));
  };
  parity_q = record {
    good = good_six 1;
    bytes = λ w b lw lb.
        filled_at 99 w b lw
        ∙ eqb→eq (byte b 99) (total 4 (λ j. product (power j) (byte b (get_or fillings j 0)))) (all_at 8 (λ b. eqb (byte b 99) (total 4 (λ j. product (power j) (byte b (get_or fillings j 0))))) q_test b lb)
        ∙ sym (total_same 4 (λ j. product (power j) (byte_at w b (six (2 + j)))) (λ j. product (power j) (byte b (get_or fillings j 0))) (λ j l. ap (product (power j)) (six_at w b lw j)));
  };
}

pub six_columns_lem : Example
six_columns_lem = record {
  codeword = six_codeword;
  had_again = λ c cw e0 e1 e2 e5.
      let same = unique 6 3 4 c six (omega arith) (omega arith) (omega arith) (omega arith) cw six_codeword (agree c e0 e1 e2 e5) in (same 3, same 4);
}
  where
    agree : (c : ℕ → Sector) → c 0 ≡ replicate 64 12 → c 1 ≡ replicate 64 99 → c 2 ≡ replicate 64 7 → c 5 ≡ replicate 64 10
        → (i : ℕ) → i < 6 → i ≢ 3 → i ≢ 4 → c i ≡ six i
    agree c e0 e1 e2 e5 zero h n3 n4 = e0
    agree c e0 e1 e2 e5 (suc zero) h n3 n4 = e1
    agree c e0 e1 e2 e5 (suc (suc zero)) h n3 n4 = e2
    agree c e0 e1 e2 e5 (suc (suc (suc zero))) h n3 n4 = absurd (n3 refl)
    agree c e0 e1 e2 e5 (suc (suc (suc (suc zero)))) h n3 n4 = absurd (n4 refl)
    agree c e0 e1 e2 e5 (suc (suc (suc (suc (suc zero))))) h n3 n4 = e5
    agree c e0 e1 e2 e5 (suc (suc (suc (suc (suc (suc i)))))) h n3 n4 = absurd (omega arith)
