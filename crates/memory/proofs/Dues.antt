-- What is planned, as one place of the table after the other is looked at.
use Rattle.std.proofs.Common.{◌≡◌, ℕ, ◌+◌, ◌<◌, ◌≤◌, ◌⊎◌, Option, Some, None, List, length, get_or, set, sym, refl, ap, ◌∙◌, inl, inr, arith, length-set, get_or-set_other, get_or-set_same}
use Rattle.std.proofs.lemmas.List.{get_or_past}
use Rattle.std.proofs.lemmas.Bool.{cases_lt, cases_eq}
use Rattle.memory.specs.Plans.{due}
use Rattle.memory.specs.declared.fate.Due.{Due}
use Rattle.memory.specs.declared.fate.Fate.{Fate}

-- nothing of the kind is due at place i of the table
abbrev pub Early : ℕ → List (Option Due) → ℕ → Fate → Type 0
Early asks l i f = (at : ℕ) → get_or l i None ≡ Some (due at f) → asks < at

-- One place more was looked at, where nothing of the kind is due now.
pub early_next : (asks : ℕ) (l : List (Option Due)) (i : ℕ) (g : ℕ → Fate) (v : Option Due) → ((j d : ℕ) → j < i → Early asks l j (g d)) → ((d at : ℕ) → v ≡ Some (due at (g d)) → asks < at) → (j d : ℕ) → j < i + 1 → Early asks (set l i v) j (g d)
early_next asks l i g v h n j d m at e = go (cases_eq j i) (cases_lt i (length l))
  where
    go : (j ≡ i) ⊎ (j ≡ i → ⊥) → (i < length l) ⊎ (length l ≤ i) → asks < at
    go (inl p) (inl k) = n d at (sym (get_or-set_same l i v None k) ∙ (ap (λ y. get_or (set l i v) y None) (sym p) ∙ e))
    go (inl p) (inr k) =
        let s : length (set l i v) ≡ length l = length-set l i v in
        let z : None ≡ Some (due at (g d)) = sym (get_or_past (set l i v) j None (omega arith)) ∙ e in absurd (cc)
    go (inr p) k = h j d (omega arith) at (sym (get_or-set_other l i j v None p) ∙ e)

-- it was empty
pub early_none : (asks : ℕ) (v : Option Due) (g : ℕ → Fate) → v ≡ None → (d at : ℕ) → v ≡ Some (due at (g d)) → asks < at
early_none asks v g p d at e = let z : None ≡ Some (due at (g d)) = sym p ∙ e in absurd (cc)

-- what was there is due later, or is of another kind
pub early_of : (asks : ℕ) (o : Option Due) (g : ℕ → Fate) → ((at : ℕ) (f : Fate) → o ≡ Some (due at f) → at ≤ asks → (d : ℕ) → f ≡ g d → ⊥) → (v : Option Due) → v ≡ o → (d at : ℕ) → v ≡ Some (due at (g d)) → asks < at
early_of asks o g h v p d at e = go (cases_lt asks at)
  where
    go : (asks < at) ⊎ (at ≤ asks) → asks < at
    go (inl l) = l
    go (inr l) = absurd (h at (g d) (sym p ∙ e) l d refl)
