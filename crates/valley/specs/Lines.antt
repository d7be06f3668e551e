-- Lines among the bytes of a script. A newline is the byte 10.
use Rattle.std.specs.Prelude.{ℕ, suc, cond, List, [], ◌∷◌, ◌++◌, ◌==◌}

-- The bytes before the first newline; all of them where there is none.
abbrev pub line_of : List ℕ → List ℕ
line_of [] = []
line_of (b ∷ bs) = cond (b == 10) [] (b ∷ line_of bs)

-- How many newlines there are.
abbrev pub newlines : List ℕ → ℕ
newlines [] = 0
newlines (b ∷ bs) = cond (b == 10) (suc (newlines bs)) (newlines bs)

-- The line that isn't ended yet, once these bytes have come behind `begun`.
abbrev pub unended : List ℕ → List ℕ → List ℕ
unended begun [] = begun
unended begun (b ∷ bs) = cond (b == 10) (unended [] bs) (unended (begun ++ b ∷ []) bs)
