-- The laws of lines among bytes.
use Rattle.std.proofs.Common.{◌≡◌, ℕ, zero, suc, ◌<◌, eqb, List, [], ◌∷◌, ◌++◌, length, get_or, take, drop, sym, refl, ap, ◌∙◌, ⊎_elim, append_assoc, append-nil, arith}
use Rattle.std.proofs.lemmas.Bool.{eq-eqb, ne_eqb, cases_Bool}
use Rattle.valley.specs.Lines.{line_of, newlines, unended}

-- Bytes without a newline are all of their line.
pub line_whole : (l : List ℕ) → ((k : ℕ) → k < length l → get_or l k 0 ≡ 10 → ⊥) → l ≡ line_of l
line_whole [] h = refl
line_whole (b ∷ bs) h = rw (ne_eqb b 10 (h 0 (omega arith))) (ap (λ s. b ∷ s) (line_whole bs (λ k l. h (suc k) (omega arith))))

-- Where the first newline is at n, the line is what stands before it.
pub line_before : (l : List ℕ) (n : ℕ) → n < length l → get_or l n 0 ≡ 10 → ((k : ℕ) → k < n → get_or l k 0 ≡ 10 → ⊥)
    → (take n l ≡ line_of l) × (l ≡ line_of l ++ 10 ∷ drop (suc n) l)
line_before [] n h e f = absurd (omega arith)
line_before (b ∷ bs) zero h e f = rw (eq-eqb b 10 e) (refl, ap (λ x. x ∷ bs) e)
line_before (b ∷ bs) (suc n) h e f =
    let r = line_before bs n (omega arith) e (λ k l. f (suc k) (omega arith)) in
    rw (ne_eqb b 10 (f 0 (omega arith))) (ap (λ s. b ∷ s) r.0, ap (λ s. b ∷ s) r.1)

-- Where the bytes end before the line does.
pub last_line : (w l : List ℕ) → l ≡ line_of l → (unended w l ≡ w ++ l) × (newlines l ≡ 0)
last_line w [] h = (sym (append-nil w), refl)
last_line w (b ∷ bs) h =
    ⊎_elim
    (λ e. let z : suc (length bs) ≡ 0 = ap length (rw e at h) in absurd (omega arith))
    (λ e.
    let k : bs ≡ line_of bs = ap (drop 1) (rw e at h) in
    let r = last_line (w ++ b ∷ []) bs k in
    rw e (r.0 ∙ append_assoc w (b ∷ []) bs, r.1))
    (cases_Bool (eqb b 10))

-- Where the line ends first: behind its newline the next one begins.
pub next_line : (w l r : List ℕ) → l ≡ line_of l ++ 10 ∷ r → (unended w l ≡ unended [] r) × (newlines l ≡ suc (newlines r))
next_line w [] r h = let z : 0 ≡ suc (length r) = ap length h in absurd (omega arith)
next_line w (b ∷ bs) r h =
    ⊎_elim
    (λ e.
    let k : bs ≡ r = ap (drop 1) (rw e at h) in
    rw e (ap (unended []) k, ap (λ s. suc (newlines s)) k))
    (λ e.
    let k : bs ≡ line_of bs ++ 10 ∷ r = ap (drop 1) (rw e at h) in
    rw e (next_line (w ++ b ∷ []) bs r k))
    (cases_Bool (eqb b 10))
