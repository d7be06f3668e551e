-- The laws of numbers that are read digit by digit.
use Rattle.std.proofs.Common.{◌≡◌, ℕ, ◌+◌, ◌*◌, ◌<◌, List, [], ◌∷◌, length, get_or, drop, Some, None, Option, sym, refl, ◌∙◌, arith}
use Rattle.std.proofs.lemmas.List.{at_drop_more}
use Rattle.std.proofs.lemmas.Bool.{lt-leb}
use Rattle.script.specs.Numbers.{and_then, digit_of, value_from, up_to}

-- The number that comes of the digits that are left, where those before them have the value n.
abbrev pub number_from : ℕ → ℕ → List ℕ → Option ℕ
number_from most n bs = and_then (value_from n bs) (up_to most)

-- What is too large once stays so.
number_past : (most n : ℕ) (bs : List ℕ) → most < n → number_from most n bs ≡ None
number_past most n [] h = rw (lt-leb n most h)
number_past most n (b ∷ bs) h =
    elim (digit_of b) as (λ o. and_then (and_then o (λ d. value_from (n * 10 + d) bs)) (up_to most) ≡ None)
    [ None ↦ refl | Some d ↦ number_past most (n * 10 + d) bs (omega arith) ]

-- Of the word w the bytes below i have been read, their value is n, and r is to come of it.
module _ (most n : ℕ) (w : List ℕ) (i : ℕ) (r : Option ℕ) (at : number_from most n (drop i w) ≡ r) where
  number_more : (d : ℕ) → i < length w → Some d ≡ digit_of (get_or w i 0) → number_from most (n * 10 + d) (drop (i + 1) w) ≡ r
  number_more d h e = rw (← e) at (sym (at_drop_more (number_from most n) w i 0 h)) ∙ at

  pub number_over : (d : ℕ) → i < length w → Some d ≡ digit_of (get_or w i 0) → most < n * 10 + d → None ≡ r
  number_over d h e l = sym (number_past most (n * 10 + d) (drop (i + 1) w) l) ∙ number_more d h e
