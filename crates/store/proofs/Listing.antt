-- The members as a list: what the layout says of them, and what is seen.
-- Assumes nothing.
use Rattle.std.proofs.Common.{◌≡◌, ℕ, zero, suc, ◌<◌, true, false, eqb, List, [], ◌∷◌, length, get_or, set, sym, refl, ap, ◌∙◌, arith}
use Rattle.std.proofs.lemmas.Bool.{eq-eqb, ne_eqb, or_left, or_right, or_from, cond-true, cond-false}
use Rattle.layout.specs.Members.{Absent}
use Rattle.store.specs.Store.{is_in, put}

pub absent : (d : ℕ) (ds : List ℕ) → Absent d ds → is_in d ds ≡ false
unfolding is_in
absent d [] a = refl
absent d (e ∷ es) a = or_from (eqb d e) (is_in d es) (ne_eqb d e (λ q. a 0 (omega arith) (sym q))) (absent d es (λ p l q. a (suc p) (omega arith) q))

pub present : (d : ℕ) (ds : List ℕ) (p : ℕ) → p < length ds → get_or ds p 0 ≡ d → is_in d ds ≡ true
unfolding is_in
present d [] p l q = absurd (omega arith)
present d (e ∷ es) zero l q = or_left (eqb d e) (is_in d es) (eq-eqb d e (sym q))
present d (e ∷ es) (suc p) l q = or_right (eqb d e) (is_in d es) (present d es p (omega arith) q)

pub puts : (d e : ℕ) (ds : List ℕ) (p : ℕ) → p < length ds → get_or ds p 0 ≡ d → ((q : ℕ) → q < p → get_or ds q 0 ≡ d → ⊥) → put d e ds ≡ set ds p e
unfolding put
puts d e [] p l q n = absurd (omega arith)
puts d e (f ∷ fs) zero l q n = cond-true (eqb d f) (e ∷ fs) (f ∷ put d e fs) (eq-eqb d f (sym q))
puts d e (f ∷ fs) (suc p) l q n =
    cond-false (eqb d f) (e ∷ fs) (f ∷ put d e fs) (ne_eqb d f (λ z. n 0 (omega arith) (sym z)))
    ∙ ap (λ (es : List ℕ). f ∷ es) (puts d e fs p (omega arith) q (λ r m z. n (suc r) (omega arith) z))
