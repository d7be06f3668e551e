-- The stripe that lies in a slice of columns, and the one in a slice of words.
-- Assumes nothing.
use Rattle.std.proofs.Common.{◌≡◌, ℕ, ◌+◌, ◌-◌, ◌<◌, ◌≤◌, List, length, get_or, set, sym, ap, ◌∙◌, subst, inl, inr, arith}
use Rattle.std.proofs.lemmas.Bool.{cases_lt, cases_eq}
use Rattle.std.proofs.lemmas.List.{get_or_past, get_or-set_same, get_or-set_other, get_or_default, length-set}
use Rattle.field.specs.Column.{Sector, noughts, Good, IsP, IsQ}
use Rattle.field.specs.Stripe.{held, data_of, Anew, Written, Codeword, Lies}
use Rattle.field.proofs.Totals.{good_noughts}

-- behind its last column are noughts
pub held_beyond : (s : List Sector) (i : ℕ) → length s ≤ i → held s i ≡ noughts
unfolding held
held_beyond s i h = get_or_past s i noughts h

-- a column is read there
pub held_at : (s : List Sector) (i : ℕ) (d : Sector) → i < length s → get_or s i d ≡ held s i
unfolding held
held_at s i d h = get_or_default s i d noughts h

-- what the write of a column does
pub written : (i : ℕ) (w : Sector) (s : List Sector) → i < length s → Written i w (held s) (held (set s i w))
unfolding held
written i w s h = record { here = get_or-set_same s i w noughts h; others = λ e ne. get_or-set_other s i e w noughts ne }

-- the same, of a slice that is known to be that
pub written_as : (i : ℕ) (w : Sector) (s t : List Sector) → i < length s → t ≡ set s i w → Written i w (held s) (held t)
written_as i w s t h e = subst (λ (r : List Sector). Written i w (held s) (held r)) (sym e) (written i w s h)

-- columns of 64 words that fit are good, and so is what lies behind them
pub good_held : (s : List Sector) → ((i : ℕ) → i < length s → Good (held s i)) → (i : ℕ) → Good (held s i)
good_held s h i = elim (cases_lt i (length s)) [
  | inl lt ↦ h i lt
  | inr ge ↦ subst Good (sym (held_beyond s i ge)) good_noughts
]

-- P and Q anew
pub anew : (s : List Sector) (p q : Sector) → 2 ≤ length s → IsP (length s - 2) (data_of (held s)) p → IsQ (length s - 2) (data_of (held s)) q → ((j : ℕ) → Good (held s (2 + j)))
    → Anew (length s) (held s) (held (set (set s 0 p) 1 q)) × ((i : ℕ) → Good (held (set (set s 0 p) 1 q) i))
anew s p q few is_p is_q h =
    let l : length (set s 0 p) ≡ length s = length-set s 0 p in
    let first = written 0 p s (omega arith) in
    let second = written 1 q (set s 0 p) (omega arith) in
    let at0 = second.others 0 (λ e. omega arith) ∙ first.here in
    let others : (e : ℕ) → 2 ≤ e → held (set (set s 0 p) 1 q) e ≡ held s e = λ e b. second.others e (λ n. omega arith) ∙ first.others e (λ n. omega arith) in (
      record { is_p = subst (IsP (length s - 2) (data_of (held s))) (sym at0) is_p; is_q = subst (IsQ (length s - 2) (data_of (held s))) (sym second.here) is_q; others = others },
      λ i. elim (cases_lt i 2) [
        | inl few ↦ elim (cases_eq i 0) [
          | inl e ↦ subst (λ (n : ℕ). Good (held (set (set s 0 p) 1 q) n)) (sym e) (subst Good (sym at0) is_p.good)
          | inr n0 ↦ let e : i ≡ 1 = omega arith in subst (λ (n : ℕ). Good (held (set (set s 0 p) 1 q) n)) (sym e) (subst Good (sym second.here) is_q.good)
        ]
        | inr ge ↦ let e : 2 + (i - 2) ≡ i = omega arith in subst Good (sym (others i ge)) (subst (λ (n : ℕ). Good (held s n)) e (h (i - 2)))
      ],
    )

-- the same, of slices that are known to be those
pub anew_as : (s u t : List Sector) (p q : Sector) → 2 ≤ length s → u ≡ set s 0 p → t ≡ set u 1 q → IsP (length s - 2) (data_of (held s)) p → IsQ (length s - 2) (data_of (held s)) q → ((j : ℕ) → Good (held s (2 + j)))
    → Anew (length s) (held s) (held t) × ((i : ℕ) → Good (held t i))
anew_as s u t p q few e f is_p is_q h =
    subst (λ (r : List Sector). Anew (length s) (held s) (held r) × ((i : ℕ) → Good (held r i))) (sym (f ∙ ap (λ (r : List Sector). set r 1 q) e)) (anew s p q few is_p is_q h)

-- the codeword that lies there is what's held
pub held_is : (k : ℕ) (s : List Sector) (c : ℕ → Sector) → length s ≤ k → Codeword k c → Lies k (held s) c → (i : ℕ) → held s i ≡ c i
held_is k s c few cw lies i = elim (cases_lt i k) [
  | inl lt ↦ lies i lt
  | inr ge ↦ held_beyond s i (omega arith) ∙ sym (cw.beyond i ge)
]
