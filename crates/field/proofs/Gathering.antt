-- P and Q, gathered from the last column to the first.
-- Assumes nothing.
use Rattle.std.proofs.Common.{◌≡◌, ℕ, zero, suc, ◌+◌, ◌-◌, ◌^◌, ◌<◌, ◌≤◌, List, [], ◌∷◌, ◌++◌, map, length, get_or, drop, replicate, sym, ap, ◌∙◌, subst, ap₂, inl, inr, add-zero, append_assoc, arith, lit<, length-append, length-drop}
use lib.Bits.{bit_xor, xor_comm, xor_lt}
use Rattle.std.proofs.Math.Seq.{get_or-append_seam}
use Rattle.std.proofs.lemmas.List.{append-nil, get_or-drop}
use Rattle.std.proofs.lemmas.Bool.{cases_eq}
use Rattle.field.specs.Field.{double, product, power, iterate}
use Rattle.field.specs.Word.{byte, double8}
use Rattle.field.specs.Column.{Sector, noughts, Good, byte_at, total, add, IsP, IsQ}
use Rattle.field.specs.Stripe.{data_of, held, Left}
use Rattle.field.proofs.Linear.{linear_zero}
use Rattle.field.proofs.Products.{linear_double8, product_one}
use Rattle.field.proofs.Powers.{power_none, product_more}
use Rattle.field.proofs.Eight.{byte_lt, linear_byte, byte_double, double8_lt}
use Rattle.field.proofs.Slices.{held_beyond}
use Rattle.field.proofs.Totals.{good_noughts, total_same, total_map, total_front, get_or-add, get_or-map, get_or-noughts, good_add, byte_add}

-- word w of P, and of Q, of the columns from i on
abbrev pub word_p : (k i : ℕ) (s : ℕ → Sector) (w : ℕ) → ℕ
word_p k i s w = total (k - i) (λ j. get_or (s (i + j)) w 0)

abbrev pub word_q : (k i : ℕ) (s : ℕ → Sector) (w : ℕ) → ℕ
word_q k i s w = total (k - i) (λ j. iterate double8 j (get_or (s (i + j)) w 0))

pub record Gathered (k i : ℕ) (s : ℕ → Sector) (p q : Sector) : Type 0 where
  pub in_p : (w : ℕ) → get_or p w 0 ≡ word_p k i s w
  pub in_q : (w : ℕ) → get_or q w 0 ≡ word_q k i s w

pub gathered_none : (k i m n : ℕ) (s : ℕ → Sector) (p q : Sector) → i ≡ k → p ≡ replicate m 0 → q ≡ replicate n 0 → Gathered k i s p q
gathered_none k i m n s p q e ep eq =
    let z : k - i ≡ 0 = omega arith in record {
      in_p = λ w. ap (λ (x : Sector). get_or x w 0) ep ∙ get_or-noughts m w ∙ ap (λ (h : ℕ). total h (λ j. get_or (s (i + j)) w 0)) (sym z);
      in_q = λ w. ap (λ (x : Sector). get_or x w 0) eq ∙ get_or-noughts n w ∙ ap (λ (h : ℕ). total h (λ j. iterate double8 j (get_or (s (i + j)) w 0))) (sym z);
    }

-- the first term, and the others
front : (k i : ℕ) (f : ℕ → ℕ → ℕ) (g : ℕ → ℕ) → i < k
    → total (k - i) (λ j. f j (g (i + j))) ≡ bit_xor (f 0 (g i)) (total (k - (i + 1)) (λ j. f (suc j) (g (i + 1 + j))))
front k i f g h =
    let e : k - i ≡ suc (k - (i + 1)) = omega arith in
    ap (λ (n : ℕ). total n (λ j. f j (g (i + j)))) e ∙ total_front (k - (i + 1)) (λ j. f j (g (i + j)))
    ∙ ap₂ bit_xor (ap (λ (n : ℕ). f 0 (g n)) (add-zero i))
    (total_same (k - (i + 1)) (λ j. f (suc j) (g (i + suc j))) (λ j. f (suc j) (g (i + 1 + j)))
    (λ j l. let m : i + suc j ≡ i + 1 + j = omega arith in ap (λ (n : ℕ). f (suc j) (g n)) m))

double8_zero : double8 0 ≡ 0
double8_zero = linear_zero double8 linear_double8

pub gathered_more : (k i n : ℕ) (s : ℕ → Sector) (p q d p' q' : Sector) → i < k → n ≡ i + 1 → d ≡ s i → Gathered k n s p q
    → p' ≡ add p d → q' ≡ add (map double8 q) d → Gathered k i s p' q'
gathered_more k i n s p q d p' q' h en ed g ep eq = record {
  in_p = λ w.
      let v = get_or (s i) w 0 in
      ap (λ (x : Sector). get_or x w 0) ep ∙ get_or-add p d w ∙ xor_comm (get_or p w 0) (get_or d w 0)
      ∙ ap₂ bit_xor (ap (λ (x : Sector). get_or x w 0) ed) (g.in_p w ∙ ap (λ (m : ℕ). word_p k m s w) en)
      ∙ sym (front k i (λ j u. u) (λ e. get_or (s e) w 0) h);
  in_q = λ w.
      let f : ℕ → ℕ = λ j. iterate double8 j (get_or (s (i + 1 + j)) w 0) in
      ap (λ (x : Sector). get_or x w 0) eq ∙ get_or-add (map double8 q) d w ∙ xor_comm (get_or (map double8 q) w 0) (get_or d w 0)
      ∙ ap₂ bit_xor (ap (λ (x : Sector). get_or x w 0) ed)
      (get_or-map double8 double8_zero q w ∙ ap double8 (g.in_q w ∙ ap (λ (m : ℕ). word_q k m s w) en) ∙ total_map double8 linear_double8 (k - (i + 1)) f)
      ∙ sym (front k i (iterate double8) (λ e. get_or (s e) w 0) h);
}

-- the columns that are still to come, and those gathered behind them
pub record OnTheWay (s rest : List Sector) (p q : Sector) : Type 0 where
  pub behind : List Sector
  pub split : rest ++ behind ≡ drop 2 s
  pub so_far : Gathered (length s) (2 + length rest) (held s) p q
  pub good : (j : ℕ) → 2 + length rest ≤ j → Good (held s j)

pub way_none : (s rest : List Sector) (p q : Sector) → 2 ≤ length s → rest ≡ drop 2 s → p ≡ replicate 64 0 → q ≡ replicate 64 0 → OnTheWay s rest p q
way_none s rest p q few e ep eq = record {
  behind = [];
  split = append-nil rest ∙ e;
  so_far = let l : 2 + length rest ≡ length s = omega (arith, ap length e, length-drop 2 s) in gathered_none (length s) (2 + length rest) 64 64 (held s) p q l ep eq;
  good = λ j h. let l : length s ≤ j = omega (arith, ap length e, length-drop 2 s) in subst Good (sym (held_beyond s j l)) good_noughts;
}

pub way_more : (s rest next : List Sector) (d p q p' q' : Sector) → 2 ≤ length s → Good d → OnTheWay s rest p q → rest ≡ next ++ d ∷ []
    → p' ≡ add p d → q' ≡ add (map double8 q) d → OnTheWay s next p' q'
unfolding held
way_more s rest next d p q p' q' few gd way e ep eq =
    let there : next ++ (d ∷ way.behind) ≡ drop 2 s = sym (append_assoc next (d ∷ []) way.behind) ∙ ap (λ (x : List Sector). x ++ way.behind) (sym e) ∙ way.split in
    let long : length rest ≡ length next + 1 = ap length e ∙ length-append next (d ∷ []) in
    let within : 2 + length next < length s = omega (arith, ap length there, length-append next (d ∷ way.behind), length-drop 2 s) in
    let here : d ≡ held s (2 + length next) = sym (get_or-append_seam next d way.behind noughts) ∙ ap (λ (x : List Sector). get_or x (length next) noughts) there ∙ get_or-drop 2 s (length next) noughts in
    record {
      behind = d ∷ way.behind;
      split = there;
      so_far =
          gathered_more (length s) (2 + length next) (2 + length rest) (held s) p q d p' q' within (omega arith) here way.so_far ep eq;
      good = λ j h. elim (cases_eq j (2 + length next)) [
        | inl same ↦ subst Good (here ∙ ap (held s) (sym same)) gd
        | inr other ↦ way.good j (omega arith)
      ];
    }

-- ---- at the end, element by element

total_lt : (n : ℕ) (f : ℕ → ℕ) → ((j : ℕ) → f j < 2 ^ 64) → total n f < 2 ^ 64
total_lt zero f h = lit< tt
total_lt (suc n) f h = xor_lt 64 (total n f) (f n) (total_lt n f h) (h n)

iterate_lt : (j v : ℕ) → v < 2 ^ 64 → iterate double8 j v < 2 ^ 64
iterate_lt zero v h = h
iterate_lt (suc j) v h = double8_lt (iterate double8 j v)

byte_iterate : (j v b : ℕ) → v < 2 ^ 64 → b < 8 → byte b (iterate double8 j v) ≡ product (power j) (byte b v)
byte_iterate zero v b h hb = sym (ap (λ (x : ℕ). product x (byte b v)) power_none ∙ product_one (byte b v) (byte_lt b v))
byte_iterate (suc j) v b h hb =
    byte_double (iterate double8 j v) (iterate_lt j v h) b hb ∙ ap double (byte_iterate j v b h hb) ∙ sym (product_more j (byte b v) (byte_lt b v))

module _ (k : ℕ) (s : ℕ → Sector) (h : (j : ℕ) → Good (s (2 + j))) (p q : Sector) (g : Gathered k 2 s p q) where
  pub gathered_p : length p ≡ 64 → IsP (k - 2) (data_of s) p
  gathered_p l = record {
    good = record { long = l; words = λ w. subst (λ (x : ℕ). x < 2 ^ 64) (sym (g.in_p w)) (total_lt (k - 2) (λ j. get_or (s (2 + j)) w 0) (λ j. (h j).words w)) };
    bytes = λ w b lw lb. ap (byte b) (g.in_p w) ∙ total_map (byte b) (linear_byte b) (k - 2) (λ j. get_or (s (2 + j)) w 0);
  }

  pub gathered_q : length q ≡ 64 → IsQ (k - 2) (data_of s) q
  gathered_q l = record {
    good = record {
      long = l;
      words = λ w.
          subst (λ (x : ℕ). x < 2 ^ 64) (sym (g.in_q w))
          (total_lt (k - 2) (λ j. iterate double8 j (get_or (s (2 + j)) w 0)) (λ j. iterate_lt j (get_or (s (2 + j)) w 0) ((h j).words w)));
    };
    bytes = λ w b lw lb.
        ap (byte b) (g.in_q w) ∙ total_map (byte b) (linear_byte b) (k - 2) (λ j. iterate double8 j (get_or (s (2 + j)) w 0))
        ∙ total_same (k - 2) (λ j. byte b (iterate double8 j (get_or (s (2 + j)) w 0))) (λ j. product (power j) (byte_at w b (s (2 + j))))
        (λ j l. byte_iterate j (get_or (s (2 + j)) w 0) b ((h j).words w) lb);
  }

-- ---- and what they leave of the stripe's own

pub left_from : (k : ℕ) (s : ℕ → Sector) (p q p' q' : Sector) → Good (s 0) → Good (s 1)
    → IsP (k - 2) (data_of s) p → IsQ (k - 2) (data_of s) q
    → p' ≡ add p (s 0) → q' ≡ add q (s 1) → Left k s p' q'
left_from k s p q p' q' g0 g1 is_p is_q ep eq = record {
  good_p = subst Good (sym ep) (good_add p (s 0) is_p.good g0);
  good_q = subst Good (sym eq) (good_add q (s 1) is_q.good g1);
  in_p = λ w b lw lb. ap (byte_at w b) ep ∙ byte_add w b p (s 0) ∙ ap (λ (x : ℕ). bit_xor x (byte_at w b (s 0))) (is_p.bytes w b lw lb);
  in_q = λ w b lw lb. ap (byte_at w b) eq ∙ byte_add w b q (s 1) ∙ ap (λ (x : ℕ). bit_xor x (byte_at w b (s 1))) (is_q.bytes w b lw lb);
}
