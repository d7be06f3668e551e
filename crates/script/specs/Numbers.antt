-- A word as a number, and as a byte.
use Rattle.std.specs.Prelude.{ℕ, ◌+◌, ◌-◌, ◌*◌, ◌^◌, Bool, cond, ◌&&◌, List, [], ◌∷◌, Some, None, Option, ◌==◌, nat_le}
use Rattle.std.specs.Option.{option_map}

-- Goes on with the value that there is; nothing where there is none.
abbrev pub and_then : {A B : Type 0} → Option A → (A → Option B) → Option B
and_then None f = None
and_then (Some x) f = f x

-- A function of two values, if there are both.
abbrev pub both : {A B C : Type 0} → (A → B → C) → Option A → Option B → Option C
both f None p = None
both f (Some x) p = option_map (f x) p

-- Is the byte one of those from `low` to `high`?
abbrev pub among : ℕ → ℕ → ℕ → Bool
among low high b = nat_le low b && nat_le b high

-- The value of a decimal digit: `0` is the byte 48, and `9` is 57.
abbrev pub digit_of : ℕ → Option ℕ
digit_of b = cond (among 48 57 b) (Some (b - 48)) None

-- The value of a hexadecimal digit: `a` (97) to `f` (102) are 10 to 15, the others are the decimal digits.
abbrev pub hex_digit_of : ℕ → Option ℕ
hex_digit_of b = cond (among 97 102 b) (Some (b - 97 + 10)) (digit_of b)

-- The value of digits that stand behind digits of the value n; nothing where one isn't a digit.
abbrev pub value_from : ℕ → List ℕ → Option ℕ
value_from n [] = Some n
value_from n (b ∷ bs) = and_then (digit_of b) (λ d. value_from (n * 10 + d) bs)

-- The number itself, if it's at most `most`.
abbrev pub up_to : ℕ → ℕ → Option ℕ
up_to most n = cond (nat_le n most) (Some n) None

-- A word of one decimal digit or more as a number, if that's at most `most`.
abbrev pub number_of : ℕ → List ℕ → Option ℕ
number_of most [] = None
number_of most (b ∷ bs) = and_then (value_from 0 (b ∷ bs)) (up_to most)

-- A number of 32 bits: a tag or a disk.
abbrev pub small_of : List ℕ → Option ℕ
small_of word = number_of (2 ^ 32 - 1) word

-- A number of 64 bits: a sector, or how many.
abbrev pub large_of : List ℕ → Option ℕ
large_of word = number_of (2 ^ 64 - 1) word

-- The number itself, unless it's 0.
abbrev pub from_one : ℕ → Option ℕ
from_one n = cond (n == 0) None (Some n)

-- Which one it is, of things that are counted from 1.
abbrev pub place_of : List ℕ → Option ℕ
place_of word = and_then (large_of word) from_one

-- A byte: two hexadecimal digits, no more and no less.
abbrev pub byte_of : List ℕ → Option ℕ
byte_of [] = None
byte_of (a ∷ []) = None
byte_of (a ∷ b ∷ []) = both (λ high low. high * 16 + low) (hex_digit_of a) (hex_digit_of b)
byte_of (a ∷ b ∷ c ∷ bs) = None
