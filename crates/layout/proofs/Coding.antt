-- A superblock's words say what was written, and members are written and read one by one.
-- Assumes nothing.
use Rattle.std.proofs.Common.{◌≡◌, ℕ, ◌+◌, ◌-◌, cond, eqb, List, [], ◌∷◌, ◌++◌, length, get_or, take, drop, replicate, Some, None, Option, sym, refl, ap, ◌∙◌, arith}
use Rattle.std.proofs.lemmas.List.{take_at, drop_at, length-append, drop-drop, drop-replicate}
use Rattle.std.proofs.lemmas.Bool.Decides.{nat_tests}
use Rattle.layout.specs.declared.superblock.Rebuild.{Rebuild}
use Rattle.layout.specs.Super.{Super, blank, mark, heading, words_of, super_of, rebuild_words, journal_word}

-- ---- reading what was written

journal_again : (j : Option ℕ) → cond (eqb (journal_word j) 0) None (Some (journal_word j - 1)) ≡ j
journal_again None = refl
journal_again (Some r) = grind (arith, nat_tests)

again_parts : (g : ℕ) (ms : List ℕ) (r : Option Rebuild) (j : Option ℕ) →
    super_of (words_of (record { generation = g; members = ms; rebuild = r; journal = j })) ≡ record { generation = g; members = ms; rebuild = r; journal = j }
unfolding super_of
again_parts g ms None j = rw (take_at ms (replicate (56 - length ms) 0) (length ms) refl, journal_again j)
again_parts g ms (Some b) j = rw (take_at ms (replicate (56 - length ms) 0) (length ms) refl, journal_again j)

pub read_again : (S : Super) → super_of (words_of S) ≡ S
read_again S = again_parts S.generation S.members S.rebuild S.journal

-- ---- writing and reading members

-- a sector of noughts behind its heading
pub padded : (k : ℕ) (h : List ℕ) → length h ≡ 8 → drop (8 + k) (h ++ replicate 56 0) ≡ replicate (56 - k) 0
padded k h e =
    sym (drop-drop k 8 (h ++ replicate 56 0)) ∙ (ap (λ (xs : List ℕ). drop k xs) (drop_at h (replicate 56 0) 8 e) ∙ drop-replicate k 56 0)

rebuild_length : (r : Option Rebuild) → length (rebuild_words r) ≡ 4
rebuild_length None = refl
rebuild_length (Some b) = refl

heading_length : (S : Super) → length (heading S) ≡ 8
heading_length S = omega (arith, length-append (rebuild_words S.rebuild) (journal_word S.journal ∷ []), rebuild_length S.rebuild)

-- the heading in a sector of noughts, and then the members
pub encoded : (S : Super) (w : List ℕ) → w ≡ heading S ++ replicate 56 0 → take 8 w ++ (S.members ++ drop (8 + length S.members) w) ≡ words_of S
encoded S w e =
    ap (λ (v : List ℕ). take 8 v ++ (S.members ++ drop (8 + length S.members) v)) e ∙
    (ap (λ (v : List ℕ). v ++ (S.members ++ drop (8 + length S.members) (heading S ++ replicate 56 0))) (take_at (heading S) (replicate 56 0) 8 (heading_length S)) ∙
    ap (λ (v : List ℕ). heading S ++ (S.members ++ v)) (padded (length S.members) (heading S) (heading_length S)))

-- a sector without the mark is a blank shelf's superblock
pub unmarked_says : (w : List ℕ) → (get_or w 0 0 ≡ mark → ⊥) → super_of w ≡ blank
unfolding super_of
unmarked_says w n = grind (arith, nat_tests)
