-- A sector of the store within its stripe: what reading it gives, and what writing it changes.
-- Assumes nothing.
use Rattle.std.proofs.Common.{◌≡◌, ℕ, zero, suc, ◌+◌, ◌-◌, ◌*◌, ◌<◌, ◌≤◌, Bool, true, false, cond, T, eqb, ◌≢◌, ◌⊎◌, List, length, get_or, set, replicate, sym, refl, ap, ◌∙◌, subst, inl, inr, arith, get_or-set_other, get_or-set_same}
use Rattle.std.proofs.lemmas.Bool.{cases_Bool, cases_eq, eq-eqb, ne_eqb, cond-true, cond-false, cond_both}
use Rattle.field.specs.Stripe.{held, Codeword, Put}
use Rattle.field.specs.declared.missing.Missing.{Missing}
use Rattle.field.proofs.Slices.{held_is}
use Rattle.layout.specs.Places.{place, column_of, stripe_of}
use Rattle.layout.specs.Super.{Super}
use Rattle.layout.specs.declared.members.Marks.{Marks}
use Rattle.layout.proofs.Homing.{home_within, home_apart}
use Rattle.store.specs.Event.{Event}
use Rattle.store.specs.Shelf.{Shelf, count}
use Rattle.store.specs.Durable.{Nowhere, Went, Deaths}
use Rattle.store.specs.Keeping.{Columns, Sound, Ready, Left}
use Rattle.store.specs.Stripes.{Shown, Loaded, Read, chosen}
use Rattle.store.specs.Writes.{MarksTrue, journalling, InPlace, Changes, Journalled, Unjournalled, Placing, Unplaced}
use Rattle.store.specs.Sectors.{sector_of, Coded, Rewrites, Fetched, Saved, Unsaved}
use Rattle.store.proofs.Truths.{true-T, with_marks}
use Rattle.store.proofs.Counting.{count_three}
use Rattle.store.proofs.Standing.{member_holds, all_shown, ready_asked}

-- ---- what the members show

pub shown_ready : {x : Shelf} {S : Super} {c : Columns} (r : ℕ) → Ready x S c → 64 + r < x.sectors → Shown x S.members (64 + r) r (c r)
shown_ready {x} {S} {c} r k l p b = all_shown x S c k.sound.kept k.placed (get_or S.members p 0) p r (member_holds S p r b) l

pub marks_deaths : {x y : Shelf} {es fs : List Event} → Deaths x es y fs → (ds : List ℕ) (m : Marks) → MarksTrue x (with_marks ds m) → MarksTrue y (with_marks ds m)
marks_deaths {y = y} w ds m v p l t =
    elim (cases_Bool (y.alive (get_or ds p 0))) [ inl q ↦ absurd (subst T (v p l t) (w.falls (get_or ds p 0) (true-T q))) | inr q ↦ q ]

-- sector s of a store of k disks, each of n sectors, is column 2 + j of stripe r
pub record Home (n k s r j : ℕ) : Type 0 where
  pub size : s < (k - 2) * (n - 64)
  pub lies : (j ≡ column_of (n - 64) s) × (r ≡ stripe_of (n - 64) s)

module _ {n k s r j : ℕ} (at : Home n k s r j) where
  some : 64 < n
  some = grind (arith, at.size)

  pub at_stripe : 64 + r < n
  at_stripe = let q = (home_within (n - 64) (omega (arith, some)) k s at.size).1 in omega (arith, q)

  pub at_column : 2 + j < k
  at_column = let q = (home_within (n - 64) (omega (arith, some)) k s at.size).0 in omega (arith, q)

  pub is_sector : (c : Columns) → c r (2 + j) ≡ sector_of n s c
  is_sector c = ap (λ (z : ℕ). c z (2 + j)) at.lies.1 ∙ ap (λ (z : ℕ). c (stripe_of (n - 64) s) (2 + z)) at.lies.0

-- ---- reading

pub fetched : {S : Super} {n s r j : ℕ} {m : Missing} {words : List ℕ} {x y : Shelf} → Home n (length S.members) s r j → n ≡ x.sectors → Read m S.members (64 + r) r (2 + j) words x y → Fetched n s words S x y
fetched {r = r} at same p = record { lit = p.lit; words_are = λ c k w. p.column_is (c r) (w r) (shown_ready r k (omega (arith, at_stripe at, same))) ∙ is_sector at c }

-- ---- which columns are touched

abbrev pub touching : ℕ → List Bool
touching j = set (set (set (replicate 12 false) 0 true) 1 true) (2 + j) true

abbrev parity_only : List Bool
parity_only = set (set (replicate 12 false) 0 true) 1 true

pub untouched : (j i : ℕ) → 2 + j < 12 → chosen (touching j) i ≡ false → (2 ≤ i) × (i ≢ 2 + j)
untouched j zero l e =
    let z : get_or (touching j) 0 false ≡ true = get_or-set_other parity_only (2 + j) 0 true false (λ q. omega arith) in absurd (subst T (sym z ∙ e) tt)
untouched j (suc zero) l e =
    let z : get_or (touching j) 1 false ≡ true = get_or-set_other parity_only (2 + j) 1 true false (λ q. omega arith) in absurd (subst T (sym z ∙ e) tt)
untouched j (suc (suc i)) l e =
    (omega arith, λ q. let z : get_or (touching j) (2 + j) false ≡ true = get_or-set_same parity_only (2 + j) true false l in absurd (subst T (sym z ∙ (ap (λ (a : ℕ). get_or (touching j) a false) (sym q) ∙ e)) tt))

all_false : (n a : ℕ) → get_or (replicate n false) a false ≡ false
all_false zero a = refl
all_false (suc n) zero = refl
all_false (suc n) (suc a) = all_false n a

pub touched_three : (j i : ℕ) → chosen (touching j) i ≡ true → (i ≡ 0) ⊎ ((i ≡ 1) ⊎ (i ≡ 2 + j))
touched_three j zero e = inl refl
touched_three j (suc zero) e = inr (inl refl)
touched_three j (suc (suc i)) e =
    elim (cases_eq (suc (suc i)) (2 + j)) [
      | inl q ↦ inr (inr q)
      | inr n ↦
          let z : get_or (touching j) (suc (suc i)) false ≡ get_or parity_only (suc (suc i)) false = get_or-set_other parity_only (2 + j) (suc (suc i)) true false n in
          absurd (subst T (sym e ∙ (z ∙ all_false 10 i)) tt)
    ]

-- no more than three are
pub few_touched : (n j : ℕ) → count n (chosen (touching j)) ≤ 3
few_touched n j = count_three n (chosen (touching j)) 0 1 (2 + j) (touched_three j)

-- ---- writing

-- the columns, with those of stripe r replaced
abbrev pub instead : ℕ → (ℕ → List ℕ) → Columns → Columns
instead r h c t = cond (eqb t r) h (c t)

pub changes : (r : ℕ) (h : ℕ → List ℕ) (c : Columns) → Changes r h c (instead r h c)
changes r h c =
    record {
      others = λ t i n. ap (λ (f : ℕ → List ℕ). f i) (cond-false (eqb t r) h (c t) (ne_eqb t r n));
      this = λ i. ap (λ (f : ℕ → List ℕ). f i) (cond-true (eqb r r) h (c r) (eq-eqb r r refl));
    }

-- Stripe r was loaded as t from x, and is u with the words of sector s in it; the disks are y then.
pub record Taken (S : Super) (n s r j : ℕ) (m : Missing) (t u : List (List ℕ)) (words : List ℕ) (x : Shelf) (es : List Event) (y : Shelf) (fs : List Event) : Type 0 where
  pub home : Home n (length S.members) s r j
  pub same : n ≡ x.sectors
  pub long : length t ≡ length S.members
  pub went : Went (length S.members) Nowhere x es y fs
  pub loaded : Loaded m S.members (64 + r) r t x y
  pub put : Put (length t) j words (held t) (held u)

module _ {S : Super} {n s r j : ℕ} {m : Missing} {t u : List (List ℕ)} {words : List ℕ} {x y : Shelf} {es fs : List Event} (v : Taken S n s r j m t u words x es y fs) where
  abbrev k : ℕ
  k = length S.members

  put_all : Put k j words (held t) (held u)
  put_all = subst (λ (i : ℕ). Put i j words (held t) (held u)) v.long v.put

  -- the columns, with the stripe that was taken
  abbrev pub next : Columns → Columns
  next c = instead r (held u) c

  module _ (c : Columns) (a : Ready x S c) (b : Coded k c) where
    -- what was loaded is the stripe
    was : (i : ℕ) → held t i ≡ c r i
    was i = held_is k t (c r) (omega (arith, v.long)) (b r) (v.loaded.whole (c r) (b r) (shown_ready r a (omega (arith, at_stripe v.home, v.same)))) i

    unchanged : (i : ℕ) → 2 ≤ i → i ≢ 2 + j → next c r i ≡ c r i
    unchanged i two other = (changes r (held u) c).this i ∙ (put_all.others i two other ∙ was i)

    elsewhere : (i : ℕ) → i ≢ s → sector_of n i (next c) ≡ sector_of n i c
    elsewhere i ne =
        let q = stripe_of (n - 64) i in
        let p = 2 + column_of (n - 64) i in
        elim (cases_eq q r) [
          | inl e ↦
              let apart : p ≢ 2 + j = λ z.
              ne (home_apart (n - 64) (omega (arith, some v.home)) i s (e ∙ v.home.lies.1) (ap (λ (a : ℕ). place p a) (e ∙ v.home.lies.1) ∙ ap (λ (a : ℕ). place a (stripe_of (n - 64) s)) (z ∙ ap (λ (a : ℕ). 2 + a) v.home.lies.0))) in
              ap (λ (a : ℕ). next c a p) e ∙ (unchanged p (omega arith) apart ∙ ap (λ (a : ℕ). c a p) (sym e))
          | inr o ↦ (changes r (held u) c).others q p o
        ]

    rewrites : Rewrites n s words k c (next c)
    rewrites =
        record {
          code = λ a. cond_both (eqb a r) (held u) (c a) (λ (f : ℕ → List ℕ). Codeword k f) (λ _. put_all.codeword) (λ _. b a);
          this = sym (is_sector v.home (next c)) ∙ ((changes r (held u) c).this (2 + j) ∙ put_all.here);
          others = elsewhere;
        }

    rest_same : (i : ℕ) → chosen (touching j) i ≡ false → next c r i ≡ c r i
    rest_same i o = let q = untouched j i (omega (arith, at_column v.home, a.sound.kept.proper.roster.most)) o in unchanged i q.0 q.1

  abbrev stripe_is : journalling S r ≡ journalling S (stripe_of (n - 64) s)
  stripe_is = ap (λ (z : ℕ). journalling S z) v.home.lies.1

  pub unsaved_journal : {z : Shelf} → Unjournalled S r (held u) y z → Unsaved n s words S x z
  unsaved_journal {z} q =
      record {
        off = q.off;
        left = λ c a b.
            inr (next c, (subst (λ (Q : Super). Left z S c Q (next c)) stripe_is (q.left c (next c) (ready_asked v.went S c a) (changes r (held u) c)), rewrites c a b));
      }

  module _ {z : Shelf} {S' : Super} (e : S' ≡ journalling S r) (q : Journalled S r (held u) y z) where
    pub sound_journalled : (c : Columns) → Ready x S c → Sound z S' (next c)
    sound_journalled c a = subst (λ (Q : Super). Sound z Q (next c)) (sym e) (q.sound c (next c) (ready_asked v.went S c a) (changes r (held u) c))

    pub unsaved_place : {o : Shelf} → Unplaced S' z o → Unsaved n s words S x o
    unsaved_place {o} p =
        record {
          off = p.off;
          left = λ c a b.
              inr (next c, (inr (inr (subst (λ (Q : Super). Sound o Q (next c)) (e ∙ stripe_is) (p.sound (next c) (sound_journalled c a)))), rewrites c a b));
        }

    pub saved_place : {o : Shelf} → Placing (chosen (touching j)) S' r (held u) z o → Saved n s words S x o
    saved_place {o} p =
        record {
          lit = p.lit q.lit;
          ready = λ c a b. (
            next c,
            (
              subst (λ (Q : Super). Ready o Q (next c)) (e ∙ stripe_is)
                  (p.ready c (next c) (sound_journalled c a) (subst (λ (Q : Super). InPlace z Q c) (sym e) (q.places c (ready_asked v.went S c a))) (changes r (held u) c).this (rest_same c a b)),
              rewrites c a b,
            ),
          );
        }

-- the load did not come through
pub unsaved_load : {n s : ℕ} {b : List ℕ} {S : Super} {x y : Shelf} {es fs : List Event} {m : ℕ} → Went m Nowhere x es y fs → y.on ≡ false → Unsaved n s b S x y
unsaved_load {S = S} w o = record { off = o; left = λ c a b. inl (ready_asked w S c a).sound }
