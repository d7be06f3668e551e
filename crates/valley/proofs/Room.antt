-- The first 256 bytes of a line are enough to know what it says.
use Rattle.std.proofs.Common.{◌≡◌, ℕ, zero, suc, ◌-◌, ◌<◌, min, List, [], ◌∷◌, ◌++◌, length, take, sym, ap, ◌∙◌, ⊎_elim, arith}
use Rattle.std.proofs.lemmas.List.{take_all, length-take}
use Rattle.std.proofs.lemmas.Bool.{cases_lt, lt-leb}
use Rattle.script.specs.Meaning.{command_of}

take_short : (n : ℕ) (l : List ℕ) → take (min n (length l)) l ≡ take n l
take_short n l =
    ⊎_elim
    (λ h. let e : min n (length l) ≡ n = omega arith in ap (λ m. take m l) e)
    (λ h. let e : min n (length l) ≡ length l = omega arith in ap (λ m. take m l) e ∙ (take_all (length l) l (omega arith) ∙ sym (take_all n l (omega arith))))
    (cases_lt n (length l))

-- Of a line of which n bytes at most are kept, those that come are kept as far as there is room.
pub kept_more : (n : ℕ) (w l : List ℕ) → take n w ++ take (min (n - length (take n w)) (length l)) l ≡ take n (w ++ l)
kept_more zero w l = let e : min 0 (length l) ≡ 0 = omega arith in rw e
kept_more (suc n) [] l = let e : suc n - 0 ≡ suc n = omega arith in rw e (take_short (suc n) l)
kept_more (suc n) (b ∷ w) l =
    let e : suc n - suc (length (take n w)) ≡ n - length (take n w) = omega arith in ap (λ s. b ∷ s) (rw e (kept_more n w l))

long : (l : List ℕ) → 255 < length l → command_of (take 256 l) ≡ command_of l
long l h = rw (lt-leb (length l) 255 h, lt-leb (length (take 256 l)) 255 (omega (arith, length-take 256 l)))

pub command_kept : (l : List ℕ) → command_of (take 256 l) ≡ command_of l
command_kept l =
    ⊎_elim (λ h. long l h) (λ h. ap command_of (take_all 256 l (omega arith))) (cases_lt 255 (length l))
