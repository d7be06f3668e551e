-- A line is cut into words at its spaces.
use Rattle.std.specs.Prelude.{ℕ, cond, List, [], ◌∷◌, ◌==◌}

-- Puts a byte in front of the first piece.
abbrev pub onto : ℕ → List (List ℕ) → List (List ℕ)
onto b [] = (b ∷ []) ∷ []
onto b (p ∷ ps) = (b ∷ p) ∷ ps

-- The pieces between the spaces, the empty ones too: `a  b` has the pieces `a`, nothing and `b`. A space is the byte 32.
abbrev pub pieces : List ℕ → List (List ℕ)
pieces [] = [] ∷ []
pieces (b ∷ bs) = cond (b == 32) ([] ∷ pieces bs) (onto b (pieces bs))

-- The pieces that aren't empty.
abbrev pub filled : List (List ℕ) → List (List ℕ)
filled [] = []
filled ([] ∷ ps) = filled ps
filled ((b ∷ p) ∷ ps) = (b ∷ p) ∷ filled ps

-- The words of a line.
unfoldable pub words : List ℕ → List (List ℕ)
words line = filled (pieces line)
