-- Words that are a command, and words that are none.
use Rattle.std.proofs.Common.{◌≡◌, ℕ, false, List, [], ◌∷◌, length, get_or, codes, None, arith}
use Rattle.script.specs.Meaning.{is, two_words}

-- Two words that are no command.
pub no_two : (a b : List ℕ) → is a "turn" ≡ false → is a "die" ≡ false → is a "until" ≡ false → is b "flush" ≡ false → is b "size" ≡ false → None ≡ two_words a b
no_two a b t d u f s = rw (t, d, u, f, s)

-- Seven bytes that are this word.
pub is_replace : (b : List ℕ) → length b ≡ 7 → get_or b 0 0 ≡ 114 → get_or b 1 0 ≡ 101 → get_or b 2 0 ≡ 112 → get_or b 3 0 ≡ 108 → get_or b 4 0 ≡ 97 → get_or b 5 0 ≡ 99 → get_or b 6 0 ≡ 101 → b ≡ codes "replace"
is_replace [] n r e p l a c f = absurd (omega arith)
is_replace (_ ∷ []) n r e p l a c f = absurd (omega arith)
is_replace (_ ∷ _ ∷ []) n r e p l a c f = absurd (omega arith)
is_replace (_ ∷ _ ∷ _ ∷ []) n r e p l a c f = absurd (omega arith)
is_replace (_ ∷ _ ∷ _ ∷ _ ∷ []) n r e p l a c f = absurd (omega arith)
is_replace (_ ∷ _ ∷ _ ∷ _ ∷ _ ∷ []) n r e p l a c f = absurd (omega arith)
is_replace (_ ∷ _ ∷ _ ∷ _ ∷ _ ∷ _ ∷ []) n r e p l a c f = absurd (omega arith)
is_replace (_ ∷ _ ∷ _ ∷ _ ∷ _ ∷ _ ∷ _ ∷ []) n r e p l a c f = cc
is_replace (_ ∷ _ ∷ _ ∷ _ ∷ _ ∷ _ ∷ _ ∷ _ ∷ _) n r e p l a c f = absurd (omega arith)
