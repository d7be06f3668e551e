-- A blank shelf is a store's: its superblock is the blank one, and every column is noughts.
-- Assumes nothing.
use Rattle.std.proofs.Common.{◌≡◌, ℕ, zero, suc, ◌+◌, ◌<◌, List, [], ◌∷◌, get_or, replicate, sym, refl, ap, ◌∙◌, inl, inr, arith}
use mathlib.Core.List.Memᴰ
use mathlib.Core.List.{Memᴰ}
use Rattle.layout.specs.Super.{super_of, blank, Proper}
use Rattle.layout.proofs.Coding.{unmarked_says}
use Rattle.store.specs.Shelf.{Shelf, AtStart}
use Rattle.store.specs.Durable.{found}
use Rattle.store.specs.Keeping.{Holds, Kept, Ready}
use Rattle.store.specs.Recovers.{empty}
use Rattle.store.proofs.Laws.{start_steady, start_employed}

four : (p : ℕ) → p < 4 → get_or (0 ∷ 1 ∷ 2 ∷ 3 ∷ []) p 0 ≡ p
four zero l = refl
four (suc zero) l = refl
four (suc (suc zero)) l = refl
four (suc (suc (suc zero))) l = refl
four (suc (suc (suc (suc p)))) l = omega arith

proper : Proper blank
proper =
    record {
      roster =
          record {
            least = omega arith;
            most = omega arith;
            known = λ p l. omega (arith, four p l);
            apart = λ p q l m e. omega (arith, sym (four q (omega arith)) ∙ (e ∙ four p l));
          };
      joins = tt;
      numbered = tt;
    }

says_blank : (b : List ℕ) → b ≡ replicate 64 0 → super_of b ≡ blank
says_blank b e = unmarked_says b (λ q. let z : 0 ≡ 0x6e75_6c74_736a_6566 = sym (ap (λ (w : List ℕ). get_or w 0 0) e) ∙ q in omega (arith, z))

module _ (x : Shelf) (s : AtStart x) where
  nothing : (d t : ℕ) (b : List ℕ) → Memᴰ b (found x d t) → b ≡ replicate 64 0
  nothing d t b m = elim (Memᴰ.cases_cons m) [ inl e ↦ e ∙ s.5 d t | inr k ↦ Memᴰ.eq_of_singleton (s.6 d t b k) ]

  -- who holds a place of a blank store
  member : (d p r : ℕ) → Holds blank d p r → d < 4
  member d p r (inl h) = omega (arith, four p h.0, h.1, h.0)
  member d p r (inr h) = absurd h

  pub kept : Kept x blank empty
  kept =
      record {
        steady = start_steady s;
        least = s.0;
        most = s.1;
        inside = tt;
        proper = proper;
        employed = λ d p r h. start_employed s d (member d p r h);
        stripes = λ d p r h l t b m. nothing d _ b m;
      }

  pub begins : Ready x blank empty
  begins =
      record {
        sound =
            record { kept = kept; three = λ p l t b m. says_blank b (nothing _ 0 b m); all = λ d l t b m. inr (says_blank b (nothing d 0 b m)) };
        placed = λ d p r h e t. s.5 d (64 + r);
      }
