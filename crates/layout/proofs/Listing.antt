-- Words that are written one by one, and members in an array of twelve of which the first so many count.
-- Assumes nothing.
use Rattle.std.proofs.Common.{◌≡◌, ℕ, ◌+◌, ◌-◌, ◌<◌, ◌≤◌, List, [], ◌∷◌, ◌++◌, length, take, drop, set, replicate, sym, ap, ◌∙◌, append_assoc, arith, length-set, length-append}
use Rattle.std.proofs.lemmas.List.{drop_all, drop-drop, drop-replicate, drop-set-lt, take_more_set}
use Rattle.std.proofs.Math.Seq.{take-set-lt}
use Rattle.std.proofs.lemmas.List.Edits.{sets, sets-eq}
use Rattle.std.proofs.lemmas.Grind.{common_steps}
use Rattle.layout.specs.Members.{Roster, Packed, Absent}

-- where nothing is left to write, it was written at i and on, and the rest is as it was
pub sets_done : (ws ds es : List ℕ) (i p : ℕ) → i + length ws ≤ length es → length ws ≤ p → sets ds (i + p) (drop p ws) ≡ sets es i ws → ds ≡ take i es ++ (ws ++ drop (i + length ws) es)
sets_done ws ds es i p l m e =
    sym (ap (λ (xs : List ℕ). sets ds (i + p) xs) (drop_all p ws m)) ∙ (e ∙ (sets-eq ws es i l ∙ append_assoc (take i es) ws (drop (i + length ws) es)))

-- ---- members, one of them more, or another

roster_more : (xs : List ℕ) (d : ℕ) → Roster xs → length xs < 12 → d < 16 → Absent d xs → Roster (xs ++ d ∷ [])
roster_more xs d k l h a =
    let many = length-append xs (d ∷ []) in
    record {
      least = let f = k.least in omega arith;
      most = omega arith;
      known = λ q m. grind (arith, common_steps, k.known);
      apart = λ q r m n e. grind (arith, common_steps, k.apart, a);
    }

roster_set : (xs : List ℕ) (d p : ℕ) → Roster xs → p < length xs → d < 16 → Absent d xs → Roster (set xs p d)
roster_set xs d p k l h a =
    record {
      least = rw length-set k.least;
      most = rw length-set k.most;
      known = λ q m. grind (arith, common_steps, k.known);
      apart = λ q r m n e. grind (arith, common_steps, k.apart, a);
    }

-- ---- the twelve words of these members

pub packed_set : (n : ℕ) (ds : List ℕ) → Packed n ds → (d p : ℕ) → p < length (take n ds) → d < 16 → Absent d (take n ds) → Packed n (set ds p d)
packed_set n ds k d p l h a =
    let e : take n (set ds p d) ≡ set (take n ds) p d = take-set-lt n ds p d (omega (arith, k.many)) in
    record {
      roster = rw e (roster_set (take n ds) d p k.roster l h a);
      many = rw (e, length-set) k.many;
      rest = drop-set-lt n ds p d (omega (arith, k.many)) ∙ k.rest;
    }

pub packed_more : (n : ℕ) (ds : List ℕ) → Packed n ds → length ds ≡ 12 → n < 12 → (d : ℕ) → d < 16 → Absent d (take n ds) → Packed (n + 1) (set ds n d)
packed_more n ds k f l d h a =
    let e : take (n + 1) (set ds n d) ≡ take n ds ++ d ∷ [] = take_more_set ds n d (omega arith) in
    let less : 12 - n - 1 ≡ 12 - (n + 1) = omega arith in
    record {
      roster = rw e (roster_more (take n ds) d k.roster (omega (arith, k.many)) h a);
      many = rw e (length-append (take n ds) (d ∷ []) ∙ ap (λ (m : ℕ). m + 1) k.many);
      rest =
          drop-set-lt (n + 1) ds n d (omega arith)
          ∙ (sym (drop-drop 1 n ds) ∙ (ap (λ (xs : List ℕ). drop 1 xs) k.rest ∙ (drop-replicate 1 (12 - n) 0 ∙ ap (λ (m : ℕ). replicate m 0) less)));
    }
