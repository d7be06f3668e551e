-- The laws of words.
use Rattle.std.proofs.Common.{◌≡◌, ℕ, zero, suc, ◌+◌, ◌<◌, ◌≤◌, true, false, eqb, List, [], ◌∷◌, ◌++◌, length, get_or, take, drop, Option, Some, None, MatchOption, sym, refl, ap, ◌∙◌, append-nil, arith}
use Rattle.std.proofs.lemmas.List.{at_drop_more, take_all, drop_all, get_or-take, length-take, length-take-le, take-append-drop}
use Rattle.std.proofs.lemmas.Bool.{eq-eqb, ne_eqb}
use Rattle.std.specs.Option.{unwrap_or}
use Rattle.script.specs.Words.{pieces, words}

-- A byte that isn't a space stands at each place of the list.
abbrev pub Solid : List ℕ → Type 0
Solid [] = Unit {0}
Solid (b ∷ bs) = (eqb b 32 ≡ false) × Solid bs

words_space : (b : ℕ) (bs : List ℕ) → eqb b 32 ≡ true → words (b ∷ bs) ≡ words bs
unfolding words
words_space b bs e = rw e

words_none : words [] ≡ []
unfolding words
words_none = refl

-- The spaces in front don't matter.
pub words_past : (l : List ℕ) (i : ℕ) → i ≤ length l → ((k : ℕ) → k < i → get_or l k 0 ≡ 32) → words l ≡ words (drop i l)
words_past l zero h s = refl
words_past [] (suc i) h s = absurd (omega arith)
words_past (b ∷ bs) (suc i) h s =
    words_space b bs (eq-eqb b 32 (s 0 (omega arith))) ∙ words_past bs i (omega arith) (λ k lt. s (suc k) (omega arith))

-- Spaces alone are no word.
pub words_spaces : (l : List ℕ) → ((k : ℕ) → k < length l → get_or l k 0 ≡ 32) → words l ≡ []
words_spaces l s = words_past l (length l) (omega arith) s ∙ (ap words (drop_all (length l) l (omega arith)) ∙ words_none)

solid_from : (l : List ℕ) → ((k : ℕ) → k < length l → get_or l k 0 ≡ 32 → ⊥) → Solid l
solid_from [] h = tt
solid_from (b ∷ bs) h = (ne_eqb b 32 (h 0 (omega arith)), solid_from bs (λ k l. h (suc k) (omega arith)))

pieces_solid : (p q : List ℕ) (ps : List (List ℕ)) → Solid p → pieces q ≡ [] ∷ ps → pieces (p ++ q) ≡ p ∷ ps
pieces_solid [] q ps s e = e
pieces_solid (b ∷ p) q ps s e = rw (s.0, pieces_solid p q ps s.1 e)

-- What has no space in it, and stands before the end or a space, is a word.
words_solid : (p q : List ℕ) (ps : List (List ℕ)) → 0 < length p → Solid p → pieces q ≡ [] ∷ ps → words (p ++ q) ≡ p ∷ words q
unfolding words
words_solid [] q ps h s e = absurd (omega arith)
words_solid (b ∷ p) q ps h s e = rw (e, pieces_solid (b ∷ p) q ps s e)

-- A space that isn't the first byte stands behind something.
behind : (l : List ℕ) (i : ℕ) → (get_or l 0 0 ≡ 32 → ⊥) → get_or l i 0 ≡ 32 → 0 < i
behind l zero f e = absurd (f e)
behind l (suc i) f e = omega arith

-- Of the text l no byte below i is a space.
module _ (l : List ℕ) (i : ℕ) (none : (k : ℕ) → k < i → get_or l k 0 ≡ 32 → ⊥) where
  solid_take : i ≤ length l → Solid (take i l)
  solid_take h = solid_from (take i l) (λ k lt. let le : k < i = omega (arith, length-take i l) in rw get_or-take (none k le))

  -- The word ends at a space.
  words_at_space : i < length l → (get_or l 0 0 ≡ 32 → ⊥) → get_or l i 0 ≡ 32 → words l ≡ take i l ∷ words (drop i l)
  words_at_space h f e =
      ap words (sym (take-append-drop i l))
      ∙ words_solid (take i l) (drop i l) (pieces (drop (i + 1) l)) (rw (length-take-le i l (omega arith)) (behind l i f e)) (solid_take (omega arith))
      (at_drop_more pieces l i 0 h ∙ rw (eq-eqb (get_or l i 0) 32 e))

  -- The word ends where the text ends.
  words_at_end : length l ≤ i → 0 < length l → words l ≡ l ∷ words []
  words_at_end h pos =
      ap words (sym (append-nil l)) ∙ words_solid l [] [] pos (solid_from l (λ k lt. none k (omega arith))) refl

-- A text that begins with no space is cut at its first space, or at its end.
pub words_cut : (t : List ℕ) (o : Option ℕ) → (get_or t 0 0 ≡ 32 → ⊥) → 0 < length t →
    MatchOption o ((k : ℕ) → k < length t → get_or t k 0 ≡ 32 → ⊥) (λ j. (j < length t) × (get_or t j 0 ≡ 32) × ((k : ℕ) → k < j → get_or t k 0 ≡ 32 → ⊥)) →
    words t ≡ take (unwrap_or o (length t)) t ∷ words (drop (unwrap_or o (length t)) t)
words_cut t None f pos m =
    words_at_end t (length t) m (omega arith) pos ∙ rw (take_all (length t) t (omega arith), drop_all (length t) t (omega arith))
words_cut t (Some j) f pos m = words_at_space t j m.2 m.0 f m.1
