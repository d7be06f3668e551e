-- What a line says.
use Rattle.std.specs.Prelude.{ℕ, Bool, cond, List, [], ◌∷◌, length, Some, None, codes, Option, nat_le}
use Prim.Native.String.{String}
use Rattle.std.specs.Option.{option_map}
use Rattle.std.specs.Str.{bytes_eq}
use Rattle.script.specs.Words.{words}
use Rattle.script.specs.Numbers.{and_then, both, small_of, large_of, place_of, byte_of}
use Rattle.script.specs.declared.Command.{Command}
use Rattle.script.specs.declared.Command.TheVariants.{Write, Read, Flush, Size, Add, Replace, Turn, Die, DieAt, Cut, Until, New}

-- Is the word spelled so?
abbrev pub is : List ℕ → String → Bool
is word text = bytes_eq word (codes text)

-- `new`
abbrev pub one_word : List ℕ → Option Command
one_word a = cond (is a "new") (Some New) None

-- `turn 20`, `die 3`, `until 2`, `1 flush`, `1 size`
abbrev pub two_words : List ℕ → List ℕ → Option Command
two_words a b =
    cond (is a "turn") (option_map Turn (large_of b))
    (cond (is a "die") (option_map Die (small_of b))
    (cond (is a "until") (option_map Until (small_of b))
    (cond (is b "flush") (option_map Flush (small_of a))
    (cond (is b "size") (option_map Size (small_of a)) None))))

-- `0 read 5`, `2 add 4`, `die 3 50`, `cut 9 1234`
abbrev pub three_words : List ℕ → List ℕ → List ℕ → Option Command
three_words a b c =
    cond (is a "die") (both DieAt (small_of b) (place_of c))
    (cond (is a "cut") (both Cut (place_of b) (large_of c))
    (cond (is b "read") (both Read (small_of a) (large_of c))
    (cond (is b "add") (both Add (small_of a) (small_of c)) None)))

-- `0 write 5 7a`, `2 replace 1 5`
abbrev pub four_words : List ℕ → List ℕ → List ℕ → List ℕ → Option Command
four_words a b c d =
    cond (is b "write") (and_then (small_of a) (λ tag. both (Write tag) (large_of c) (byte_of d)))
    (cond (is b "replace") (and_then (small_of a) (λ tag. both (Replace tag) (small_of c) (small_of d))) None)

-- What the words of a line say: no command has less than one of them, or more than four.
abbrev pub said_by : List (List ℕ) → Option Command
said_by [] = None
said_by (a ∷ []) = one_word a
said_by (a ∷ b ∷ []) = two_words a b
said_by (a ∷ b ∷ c ∷ []) = three_words a b c
said_by (a ∷ b ∷ c ∷ d ∷ []) = four_words a b c d
said_by (a ∷ b ∷ c ∷ d ∷ e ∷ ws) = None

-- The command that a line of at most 255 bytes says, if it says one.
abbrev pub command_of : List ℕ → Option Command
command_of line = cond (nat_le (length line) 255) (said_by (words line)) None
