-- Counting the disks that died in use: a death adds one at most, and where there are three apart, three are counted.
-- Assumes nothing.
use Rattle.std.proofs.Common.{◌≡◌, ℕ, zero, suc, ◌+◌, ◌<◌, ◌≤◌, Bool, true, false, cond, not, ◌&&◌, ◌||◌, T, eqb, ◌≢◌, ◌⊎◌, sym, refl, ap, ◌∙◌, subst, inl, inr, ⊎_elim, arith}
use Rattle.std.proofs.lemmas.Bool.{cases_Bool, cases_eq, eqb-true, eq-eqb, ne_eqb}
use Rattle.store.specs.Shelf.{Shelf, count}
use Rattle.store.specs.Durable.{Steady, Employed}
use Rattle.store.proofs.Truths.{T_true, and_T}

-- counting

pub count_ext : (n : ℕ) (f g : ℕ → Bool) → ((e : ℕ) → f e ≡ g e) → count n f ≡ count n g
unfolding count
count_ext zero f g h = refl
count_ext (suc n) f g h = rw (count_ext n f g h, h n)

at_most_one : (b : Bool) → cond b 1 0 ≤ 1
at_most_one true = omega arith
at_most_one false = omega arith

off : (u l v : Bool) → (u && (l || (false && v))) ≡ (u && l)
off true true v = refl
off true false v = refl
off false l v = refl

off' : (u l v : Bool) → (u && (l || (v && false))) ≡ (u && l)
off' true true v = refl
off' true false true = refl
off' true false false = refl
off' false l v = refl

module _ (u l : ℕ → Bool) (d : ℕ) where
  before_d : (n : ℕ) → n ≤ d → count n (λ e. u e && (l e || (eqb e d && u d))) ≡ count n (λ e. u e && l e)
  unfolding count
  before_d zero h = refl
  before_d (suc n) h =
      let r : n ≤ d = omega arith in
      let e : eqb n d ≡ false = ne_eqb n d (λ p. omega arith) in
      rw (before_d n r, e, off (u n) (l n) (u d))

  pub one_more : (n : ℕ) → count n (λ e. u e && (l e || (eqb e d && u d))) ≤ count n (λ e. u e && l e) + 1
  unfolding count
  one_more zero = omega arith
  one_more (suc n) =
      elim (cases_Bool (eqb n d)) [
        | inl e ↦
            let q : n ≤ d = omega (arith, eqb-true n d e) in
            let b = before_d n q in
            omega (arith, b, at_most_one (u n && (l n || (eqb n d && u d))))
        | inr e ↦
            let b : (u n && (l n || (eqb n d && u d))) ≡ (u n && l n) = rw e (off (u n) (l n) (u d)) in
            let i = one_more n in
            rw b (omega arith)
      ]

  pub same_if_spare : (n : ℕ) → u d ≡ false → count n (λ e. u e && (l e || (eqb e d && u d))) ≡ count n (λ e. u e && l e)
  same_if_spare n h = count_ext n (λ e. u e && (l e || (eqb e d && u d))) (λ e. u e && l e) (λ e. rw h (off' (u e) (l e) (eqb e d)))

-- ---- several apart

-- all of f but a
pub but : (ℕ → Bool) → ℕ → ℕ → Bool
but f a e = f e && not (eqb e a)

but_other : (f : ℕ → Bool) (a e : ℕ) → e ≢ a → but f a e ≡ f e
unfolding but
but_other f a e n = let t : eqb e a ≡ false = ne_eqb e a n in rw t (elim (cases_Bool (f e)) [ inl q ↦ rw q | inr q ↦ rw q ])

but_self : (f : ℕ → Bool) (a : ℕ) → but f a a ≡ false
unfolding but
but_self f a = let t : eqb a a ≡ true = eq-eqb a a refl in rw t (elim (cases_Bool (f a)) [ inl q ↦ rw q | inr q ↦ rw q ])

count_below : (n : ℕ) (f : ℕ → Bool) (a : ℕ) → n ≤ a → count n (but f a) ≡ count n f
unfolding count
count_below zero f a h = refl
count_below (suc n) f a h = rw (count_below n f a (omega arith), but_other f a n (λ e. omega arith))

-- one less without a
pub count_but : (n : ℕ) (f : ℕ → Bool) (a : ℕ) → a < n → T (f a) → count n (but f a) + 1 ≡ count n f
unfolding count
count_but zero f a h t = absurd (omega arith)
count_but (suc n) f a h t =
    elim (cases_eq n a) [
      | inl e ↦
          let q : f n ≡ true = ap f e ∙ T_true t in
          let b : but f a n ≡ false = ap (but f a) e ∙ but_self f a in
          let r = count_below n f a (omega arith) in
          rw (q, b) (omega arith)
      | inr e ↦
          let b : but f a n ≡ f n = but_other f a n e in
          let i = count_but n f a (omega arith) t in
          rw b (omega arith)
    ]

-- as many as there are apart from each other
pub count_many : (n m : ℕ) (f : ℕ → Bool) (g : ℕ → ℕ) → ((i : ℕ) → i < m → g i < n) → ((i j : ℕ) → i < m → j < i → g j ≡ g i → ⊥) → ((i : ℕ) → i < m → T (f (g i))) → m ≤ count n f
count_many n zero f g b a t = omega arith
count_many n (suc m) f g b a t =
    let e = count_but n f (g m) (b m (omega arith)) (t m (omega arith)) in
    let r = count_many n m (but f (g m)) g (λ i h. b i (omega arith)) (λ i j h l. a i j (omega arith) l)
    (λ i h. subst T (sym (but_other f (g m) (g i) (a m i (omega arith) h))) (t i (omega arith))) in
    omega arith

pub three : (n : ℕ) (f : ℕ → Bool) (a b c : ℕ) → a < n → b < n → c < n → a ≢ b → a ≢ c → b ≢ c → T (f a) → T (f b) → T (f c) → 3 ≤ count n f
three n f a b c ha hb hc ab ac bc ta tb tc =
    let p = count_but n f a ha ta in
    let q = count_but n (but f a) b hb (subst T (sym (but_other f a b (λ e. ab (sym e)))) tb) in
    let r = count_but n (but (but f a) b) c hc (subst T (sym (but_other (but f a) b c (λ e. bc (sym e)) ∙ but_other f a c (λ e. ac (sym e)))) tc) in
    omega arith

-- Of the disks in use no three are dead: among any three members one is alive.
pub no_third : (x : Shelf) → Steady x → (a b c : ℕ) → Employed x a → Employed x b → Employed x c → a ≢ b → a ≢ c → b ≢ c → x.alive a ≡ false → x.alive b ≡ false → x.alive c ≡ false → ⊥
no_third x s a b c ea eb ec ab ac bc da db dc =
    let counts = λ (d : ℕ) (e : Employed x d) (dead : x.alive d ≡ false). and_T (x.uses d) (x.lost d) e.used (e.owed dead) in
    let few = s.few in
    let m = three 16 (λ d. x.uses d && x.lost d) a b c ea.there eb.there ec.there ab ac bc (counts a ea da) (counts b eb db) (counts c ec dc) in
    omega arith

-- Of any number of members that are apart, no more than two are dead.
pub few_dead : (x : Shelf) → Steady x → (m : ℕ) (g : ℕ → ℕ) → ((i : ℕ) → i < m → Employed x (g i)) → ((i j : ℕ) → i < m → j < i → g j ≡ g i → ⊥) → ((i : ℕ) → i < m → x.alive (g i) ≡ false) → m ≤ 2
few_dead x s m g e a d =
    let few = s.few in
    let n = count_many 16 m (λ c. x.uses c && x.lost c) g (λ i h. (e i h).there) a (λ i h. and_T (x.uses (g i)) (x.lost (g i)) (e i h).used ((e i h).owed (d i h))) in
    omega arith

pub count_none : (n : ℕ) (f : ℕ → Bool) → ((e : ℕ) → f e ≡ false) → count n f ≡ 0
unfolding count
count_none zero f h = refl
count_none (suc n) f h = rw (count_none n f h, h n)

-- without one number at most one is less
count_without : (n : ℕ) (f : ℕ → Bool) (a : ℕ) → count n f ≤ count n (but f a) + 1
unfolding count
count_without zero f a = omega arith
count_without (suc n) f a =
    elim (cases_eq n a) [
      | inl e ↦ let h = count_below n f a (omega arith) in let k = at_most_one (f n) in omega arith
      | inr e ↦ let h = count_without n f a in let b : but f a n ≡ f n = but_other f a n e in rw b (omega arith)
    ]

but_implies : (f : ℕ → Bool) (a i : ℕ) → but f a i ≡ true → (f i ≡ true) × (i ≢ a)
but_implies f a i e =
    elim (cases_eq i a) [
      | inl q ↦ let z : true ≡ false = sym e ∙ (ap (but f a) q ∙ but_self f a) in absurd (subst T z tt)
      | inr q ↦ (sym (but_other f a i q) ∙ e, q)
    ]

-- what is true of three numbers at most is true of no more than three
pub count_three : (n : ℕ) (f : ℕ → Bool) (a b c : ℕ) → ((i : ℕ) → f i ≡ true → (i ≡ a) ⊎ ((i ≡ b) ⊎ (i ≡ c))) → count n f ≤ 3
count_three n f a b c h =
    let none : (i : ℕ) → but (but (but f a) b) c i ≡ false = λ i.
    elim (cases_Bool (but (but (but f a) b) c i)) [
      | inl e ↦
          let p = but_implies (but (but f a) b) c i e in
          let q = but_implies (but f a) b i p.0 in
          let r = but_implies f a i q.0 in
          absurd (⊎_elim r.1 (λ u. ⊎_elim q.1 p.1 u) (h i r.0))
      | inr e ↦ e
    ] in
    let x = count_without n f a in
    let y = count_without n (but f a) b in
    let z = count_without n (but (but f a) b) c in
    let w = count_none n (but (but (but f a) b) c) none in
    omega arith
