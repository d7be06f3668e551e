-- What is had again is the codeword's.
-- Assumes nothing.
use Rattle.std.proofs.Common.{◌≡◌, ℕ, ◌+◌, ◌-◌, ◌<◌, ◌≤◌, ◌≢◌, map, get_or, sym, refl, ap, ◌∙◌, subst, inl, inr, arith}
use Rattle.std.proofs.lemmas.Bool.{cases_eq}
use Rattle.field.specs.Field.{sum, product, power}
use Rattle.field.specs.Word.{product8}
use Rattle.field.specs.Column.{Sector, noughts, Good, byte_at, total, IsSum, plain, raised, Rests, Solves}
use Rattle.field.specs.Stripe.{data_of, Codeword, Written, Anew, Left, Restores, MendsTwo}
use Rattle.field.proofs.Powers.{power_undone}
use Rattle.field.proofs.Eight.{byte_lt}
use Rattle.field.proofs.Totals.{byte_noughts, byte_scaled, good_scaled, same_sector}
use Rattle.field.proofs.Parities.{raised_zero, nothing_behind_lem, only_one, left_one, left_two}

-- ---- P and Q anew

pub anew_mends : (k : ℕ) (s t : ℕ → Sector) → 2 ≤ k → Anew k s t → MendsTwo k 0 1 s t
anew_mends k s t few a c cw but i h =
    let same : (j : ℕ) → j < k - 2 → s (2 + j) ≡ c (2 + j) = λ j l. but (2 + j) (omega arith) (λ e. omega arith) (λ e. omega arith) in
    elim (cases_eq i 0) [
      | inl e ↦
          ap t e
          ∙ (only_one (k - 2) (data_of c)).0 (t 0) (c 0) ((nothing_behind_lem (k - 2) (data_of s) (data_of c) same).0 (t 0) a.is_p) cw.parity_p
          ∙ ap c (sym e)
      | inr n0 ↦ elim (cases_eq i 1) [
        | inl e ↦
            ap t e
            ∙ (only_one (k - 2) (data_of c)).1 (t 1) (c 1) ((nothing_behind_lem (k - 2) (data_of s) (data_of c) same).1 (t 1) a.is_q) cw.parity_q
            ∙ ap c (sym e)
        | inr n1 ↦ a.others i (omega arith) ∙ but i h n0 n1
      ]
    ]

-- a data column is had again, and then P and Q are made anew
pub restored_anew : (k m b : ℕ) (s u t : ℕ → Sector) → 2 ≤ k → m < 2 → 2 ≤ b → Restores k b m s u → Anew k u t → MendsTwo k m b s t
restored_anew k m b s u t few lm lb r a c cw but =
    anew_mends k u t few a c cw
    (λ i h n0 n1. elim (cases_eq i b) [
      | inl e ↦ ap u e ∙ r.here c cw (λ j l nb nm. but j l nm nb) ∙ ap c (sym e)
      | inr ne ↦ r.others i ne ∙ but i h (λ e. omega arith) ne
    ])

-- ---- what is left of P or Q, at an element: c has it in column m, and s has noughts in place of some of its data

module _ (f : ℕ → ℕ → ℕ) (zero_is : (j : ℕ) → f j 0 ≡ 0) (n m : ℕ) (c : ℕ → Sector) (s : ℕ → Sector) (is : IsSum f n (data_of c) (c m)) (has : s m ≡ c m)
    (w b : ℕ) (lw : w < 64) (lb : b < 8) where
  abbrev rest : ℕ
  rest = sum (total n (λ j. f j (byte_at w b (s (2 + j))))) (byte_at w b (s m))

  whole : rest ≡ sum (total n (λ j. f j (byte_at w b (s (2 + j))))) (total n (λ j. f j (byte_at w b (c (2 + j)))))
  whole = ap (sum (total n (λ j. f j (byte_at w b (s (2 + j)))))) (ap (byte_at w b) has ∙ is.bytes w b lw lb)

  none : (x : ℕ) → s (2 + x) ≡ noughts → f x (byte_at w b (s (2 + x))) ≡ 0
  none x z = ap (f x) (ap (byte_at w b) z ∙ byte_noughts w b) ∙ zero_is x

  rest_one : (x : ℕ) → x < n → s (2 + x) ≡ noughts → ((j : ℕ) → j < n → j ≢ x → s (2 + j) ≡ c (2 + j)) → rest ≡ f x (byte_at w b (c (2 + x)))
  rest_one x l z same =
      whole
      ∙ left_one n (λ j. f j (byte_at w b (c (2 + j)))) (λ j. f j (byte_at w b (s (2 + j)))) x l (λ j h d. ap (λ (t : Sector). f j (byte_at w b t)) (same j h d)) (none x z)

  rest_two : (x y : ℕ) → x < y → y < n → s (2 + x) ≡ noughts → s (2 + y) ≡ noughts → ((j : ℕ) → j < n → j ≢ x → j ≢ y → s (2 + j) ≡ c (2 + j))
      → rest ≡ sum (f x (byte_at w b (c (2 + x)))) (f y (byte_at w b (c (2 + y))))
  rest_two x y xy l zx zy same =
      whole
      ∙ left_two n (λ j. f j (byte_at w b (c (2 + j)))) (λ j. f j (byte_at w b (s (2 + j)))) x y xy l
      (λ j h d d'. ap (λ (t : Sector). f j (byte_at w b t)) (same j h d d')) (none x zx) (none y zy)

-- ---- and so the missing data columns

module _ (k : ℕ) (few : 4 ≤ k) (most : k ≤ 12) (c : ℕ → Sector) (cw : Codeword k c) (s : ℕ → Sector) (p q : Sector) (left : Left k s p q) where
  -- data column x holds noughts, and all others and P are c's
  left_p : (x : ℕ) → x < k - 2 → s (2 + x) ≡ noughts → ((e : ℕ) → e < k → e ≢ 2 + x → e ≢ 1 → s e ≡ c e) → p ≡ c (2 + x)
  left_p x h z same =
      let has : s 0 ≡ c 0 = same 0 (omega arith) (λ e. omega arith) (λ e. omega arith) in
      same_sector p (c (2 + x)) left.good_p (cw.good (2 + x))
      (λ w b lw lb.
      left.in_p w b lw lb
      ∙ rest_one plain (λ j. refl) (k - 2) 0 c s cw.parity_p has w b lw lb x h z (λ j l d. same (2 + j) (omega arith) (λ e. d (omega arith)) (λ e. omega arith)))

  -- the same with Q in P's place
  left_q : (x : ℕ) → x < k - 2 → s (2 + x) ≡ noughts → ((e : ℕ) → e < k → e ≢ 2 + x → e ≢ 0 → s e ≡ c e)
      → (r : Sector) → r ≡ map (product8 (power (255 - x))) q → r ≡ c (2 + x)
  left_q x h z same r er =
      let has : s 1 ≡ c 1 = same 1 (omega arith) (λ e. omega arith) (λ e. omega arith) in
      same_sector r (c (2 + x)) (subst Good (sym er) (good_scaled (power (255 - x)) q left.good_q)) (cw.good (2 + x))
      (λ w b lw lb.
      ap (byte_at w b) er ∙ byte_scaled (power (255 - x)) w b q left.good_q lb
      ∙ ap (product (power (255 - x)))
      (left.in_q w b lw lb
      ∙ rest_one raised raised_zero (k - 2) 1 c s cw.parity_q has w b lw lb x h z (λ j l d. same (2 + j) (omega arith) (λ e. d (omega arith)) (λ e. omega arith)))
      ∙ power_undone x (byte_at w b (c (2 + x))) (omega arith) (byte_lt b (get_or (c (2 + x)) w 0)))

  -- data columns x and y hold noughts
  left_both : (x y : ℕ) → x < y → y < k - 2 → s (2 + x) ≡ noughts → s (2 + y) ≡ noughts
      → ((e : ℕ) → e < k → e ≢ 2 + x → e ≢ 2 + y → s e ≡ c e) → Rests x y (c (2 + x)) (c (2 + y)) p q
  left_both x y xy h zx zy same =
      let others : (j : ℕ) → j < k - 2 → j ≢ x → j ≢ y → s (2 + j) ≡ c (2 + j) = λ j l d d'. same (2 + j) (omega arith) (λ e. d (omega arith)) (λ e. d' (omega arith)) in
      record {
        good_p = left.good_p;
        good_q = left.good_q;
        in_p = λ w b lw lb.
            left.in_p w b lw lb ∙ rest_two plain (λ j. refl) (k - 2) 0 c s cw.parity_p (same 0 (omega arith) (λ e. omega arith) (λ e. omega arith)) w b lw lb x y xy h zx zy others;
        in_q = λ w b lw lb.
            left.in_q w b lw lb ∙ rest_two raised raised_zero (k - 2) 1 c s cw.parity_q (same 1 (omega arith) (λ e. omega arith) (λ e. omega arith)) w b lw lb x y xy h zx zy others;
      }

-- ---- with the stripe as it was before

pub restores_p : (k i : ℕ) (s u t : ℕ → Sector) (z p q : Sector) → 4 ≤ k → k ≤ 12 → 2 ≤ i → i < k → z ≡ noughts → Written i z s u → Left k u p q → Written i p u t → Restores k i 1 s t
restores_p k i s u t z p q few most l h ez cl left wr =
    let ei : 2 + (i - 2) ≡ i = omega arith in record {
      here = λ c cw but.
          wr.here
          ∙ left_p k few most c cw u p q left (i - 2) (omega arith) (ap u ei ∙ cl.here ∙ ez) (λ e le ni n1. let n : e ≢ i = λ y. ni (y ∙ sym ei) in cl.others e n ∙ but e le n n1)
          ∙ ap c ei;
      others = λ e ne. wr.others e ne ∙ cl.others e ne;
    }

pub restores_q : (k i : ℕ) (s u t : ℕ → Sector) (z p q r : Sector) → 4 ≤ k → k ≤ 12 → 2 ≤ i → i < k → z ≡ noughts → Written i z s u → Left k u p q
    → r ≡ map (product8 (power (255 - (i - 2)))) q → Written i r u t → Restores k i 0 s t
restores_q k i s u t z p q r few most l h ez cl left er wr =
    let ei : 2 + (i - 2) ≡ i = omega arith in record {
      here = λ c cw but.
          wr.here
          ∙ left_q k few most c cw u p q left (i - 2) (omega arith) (ap u ei ∙ cl.here ∙ ez) (λ e le ni n0. let n : e ≢ i = λ y. ni (y ∙ sym ei) in cl.others e n ∙ but e le n n0) r er
          ∙ ap c ei;
      others = λ e ne. wr.others e ne ∙ cl.others e ne;
    }

pub mends_both : (k a b : ℕ) (s u v t₁ t : ℕ → Sector) (z z' p q p' q' : Sector) → 4 ≤ k → k ≤ 12 → 2 ≤ a → a < b → b < k → z ≡ noughts → z' ≡ noughts
    → Written a z s u → Written b z' u v → Left k v p q → Solves (a - 2) (b - 2) p q p' q' → Written a p' v t₁ → Written b q' t₁ t → MendsTwo k a b s t
mends_both k a b s u v t₁ t z z' p q p' q' few most la ab lb ez ez' ca cb left so wa wb c cw but i h =
    let ea : 2 + (a - 2) ≡ a = omega arith in
    let eb : 2 + (b - 2) ≡ b = omega arith in
    let na : a ≢ b = λ e. omega arith in
    let rests = left_both k few most c cw v p q left (a - 2) (b - 2) (omega arith) (omega arith)
    (ap v ea ∙ cb.others a na ∙ ca.here ∙ ez) (ap v eb ∙ cb.here ∙ ez')
    (λ e le nea neb. let m : e ≢ a = λ y. nea (y ∙ sym ea) in let n : e ≢ b = λ y. neb (y ∙ sym eb) in cb.others e n ∙ ca.others e m ∙ but e le m n) in
    let had = so (c (2 + (a - 2))) (c (2 + (b - 2))) (cw.good (2 + (a - 2))) (cw.good (2 + (b - 2))) rests in
    elim (cases_eq i b) [
      | inl e ↦ ap t e ∙ wb.here ∙ had.1 ∙ ap c (eb ∙ sym e)
      | inr nb ↦ wb.others i nb ∙ elim (cases_eq i a) [
        | inl e ↦ ap t₁ e ∙ wa.here ∙ had.0 ∙ ap c (ea ∙ sym e)
        | inr ne ↦ wa.others i ne ∙ cb.others i nb ∙ ca.others i ne ∙ but i h ne nb
      ]
    ]
