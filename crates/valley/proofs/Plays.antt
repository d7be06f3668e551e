-- A block of bytes, line by line.
use Rattle.std.proofs.Common.{◌≡◌, ℕ, List, [], ◌∷◌, ◌++◌, take, sym, ap, ◌∙◌}
use Rattle.valley.specs.Lines.{line_of, unended}
use Rattle.valley.proofs.Pieces.{last_line, next_line}

-- Of a line that is begun k is kept; with the bytes that are left it comes to the line `last`.
pub record Begun (k rest last : List ℕ) : Type 0 where
  pub line : List ℕ
  pub keeps : k ≡ take 256 line
  pub comes : unended line rest ≡ last

-- Where no newline is left; j is kept once the bytes are taken.
pub begun_last : (k j rest last : List ℕ) → ((begun : List ℕ) → k ≡ take 256 begun → j ≡ take 256 (begun ++ line_of rest)) → rest ≡ line_of rest → Begun k rest last → j ≡ take 256 last
begun_last k j rest last e h b =
    e b.line b.keeps ∙ ap (take 256) (ap (λ s. b.line ++ s) (sym h) ∙ (sym (last_line b.line rest h).0 ∙ b.comes))

-- Where a line ends: `behind` its newline nothing is kept yet.
pub begun_next : (k j rest behind last : List ℕ) → rest ≡ line_of rest ++ 10 ∷ behind → j ≡ [] → Begun k rest last → Begun j behind last
begun_next k j rest behind last h e b = record { line = []; keeps = e; comes = sym (next_line b.line rest behind h).0 ∙ b.comes }
