-- Tests as facts, and what is known of members as one value.
-- Assumes nothing.
use Rattle.std.proofs.Common.{◌≡◌, ℕ, List, Bool, true, false, ◌&&◌, T, sym, refl, subst}
use Rattle.layout.specs.Members.{Membership}
use Rattle.layout.specs.declared.members.Marks.{Marks}

pub T_true : {b : Bool} → T b → b ≡ true
T_true {b = true} t = refl
T_true {b = false} t = absurd t

pub true-T : {b : Bool} → b ≡ true → T b
true-T e = subst T (sym e) tt

pub and_T : (a b : Bool) → T a → T b → T (a && b)
and_T true b p q = q
and_T false b p q = p

pub and_left : (a b : Bool) → T (a && b) → T a
and_left true b t = tt
and_left false b t = t

-- the members ds, of which m is known
abbrev pub with_marks : List ℕ → Marks → Membership
with_marks ds m = record { list = ds; dead = m }
