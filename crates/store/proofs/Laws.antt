-- The laws of the shelf: what each asking of the disks, a cut and the power's return come to, in the words of specs/Durable.antt. Nothing above this file
-- opens what the shelf says of a reading, a writing, a sync, a death or a return.
-- Assumes nothing.
use Rattle.std.proofs.Common.{◌≡◌, ℕ, ◌+◌, ◌<◌, ◌≤◌, Bool, true, false, true≢false, not, ◌&&◌, ◌||◌, T, eqb, ◌⊎◌, List, [], ◌∷◌, ◌++◌, Ok, Err, Result, MatchResult, sym, refl, ap, ◌∙◌, subst, inl, inr, ⊎_elim, arith}
use mathlib.Core.List.{Memᴰ}
use lib.Dec.{eqb_refl}
use Rattle.std.proofs.lemmas.Bool.{cases_Bool, eqb-true, and_parts, lt-ltb}
use Rattle.store.specs.Event.{Event, Died}
use Rattle.store.specs.Shelf.{Shelf, weak, MayDie, died, Dies, none, one, at, shelf, counted, dark, Within, Reading, Writing, Syncing, Back, AtStart}
use Rattle.store.specs.Durable.{Lives, found, Among, Shows, Settled, Steady, Employed, Nowhere, Here, fell, Deaths, Went, Heard, Wrote, Synced, Returned}
use Rattle.store.specs.declared.Answer.{Answer}
use Rattle.store.specs.declared.Gone.{Gone}
use Rattle.store.specs.declared.Answer.TheVariants.{Fine, Dead, Dark}
use Rattle.store.proofs.Truths.{T_true, true-T, and_left}
use Rattle.store.proofs.Counting.{count_ext, count_none, one_more, same_if_spare}

-- ---- deaths

pub fell_++ : (ds cs : List ℕ) (es : List Event) → fell (ds ++ cs) es ≡ fell ds (fell cs es)
unfolding fell
fell_++ [] cs es = refl
fell_++ (d ∷ ds) cs es = ap (λ l. Died d ∷ l) (fell_++ ds cs es)

died_now : (a e : Bool) → T a → (a && not e) ≡ false → e ≡ true
died_now true true t h = refl
died_now true false t h = sym h
died_now false e t h = absurd t

died_weak : (x : Shelf) (d : ℕ) → (x.uses d ≡ false) ⊎ (weak x < 2) → weak x ≤ 2 → weak (died d x) ≤ 2
died_weak x d (inl h) w = rw (same_if_spare x.uses x.lost d 16 h) w
died_weak x d (inr h) w = let m = one_more x.uses x.lost d 16 in omega arith

owes : (u a l e v : Bool) → T u → (a ≡ false → T l) → (e ≡ true → v ≡ u) → (a && not e) ≡ false → T (l || (e && v))
owes u a true e v t h k z = tt
owes u a false true v t h k z = rw (k refl) t
owes u true false false v t h k z = absurd (subst T z tt)
owes u false false false v t h k z = h refl

spares : (l e u v : Bool) → (e ≡ true → v ≡ u) → (T l → T u) → T (l || (e && v)) → T u
spares true e u v k h t = h tt
spares false true u v k h t = subst T (k refl) t
spares false false u v k h t = absurd t

died_steady : (x : Shelf) (d : ℕ) → MayDie x d → Steady x → Steady (died d x)
died_steady x d m s =
    record { few = died_weak x d m.2 s.few; used = λ e t. spares (x.lost e) (eqb e d) (x.uses e) (x.uses d) (λ q. ap x.uses (sym (eqb-true e d q))) (s.used e) t }

died_employed : (x : Shelf) (d e : ℕ) → Employed x e → Employed (died d x) e
died_employed x d e v =
    record { there = v.there; used = v.used; owed = λ z. owes (x.uses e) (x.alive e) (x.lost e) (eqb e d) (x.uses d) v.used v.owed (λ q. ap x.uses (sym (eqb-true e d q))) z }

died_deaths : (x : Shelf) (es : List Event) (d : ℕ) → MayDie x d → Deaths x es (died d x) (Died d ∷ es)
unfolding fell
died_deaths x es d m =
    record {
      size = refl;
      uses = λ e. refl;
      falls = λ e t. and_left (x.alive e) (not (eqb e d)) t;
      steady = died_steady x d m;
      employed = died_employed x d;
      more = d ∷ [];
      tale = refl;
      noted = λ e t z. mathlib.Core.List.Memᴰ.head (eqb-true e d (died_now (x.alive e) (eqb e d) t z));
    }

pub deaths_none : (x : Shelf) (es : List Event) → Deaths x es x es
unfolding fell
deaths_none x es = record { size = refl; uses = λ e. refl; falls = λ e t. t; steady = λ s. s; employed = λ d v. v; more = []; tale = refl; noted = λ e t z. absurd (subst T z t) }

pub deaths_then : {x y z : Shelf} {es fs gs : List Event} → Deaths x es y fs → Deaths y fs z gs → Deaths x es z gs
deaths_then {x} {y} {z} {es} {fs} {gs} p q =
    record {
      size = q.size ∙ p.size;
      uses = λ d. q.uses d ∙ p.uses d;
      falls = λ d t. p.falls d (q.falls d t);
      steady = λ s. q.steady (p.steady s);
      employed = λ d v. q.employed d (p.employed d v);
      more = q.more ++ p.more;
      tale = q.tale ∙ ap (fell q.more) p.tale ∙ sym (fell_++ q.more p.more es);
      noted = λ d t k.
          elim (cases_Bool (y.alive d)) [ inl e ↦ mathlib.Core.List.Memᴰ.append_left p.more (q.noted d (true-T e) k) | inr e ↦ mathlib.Core.List.Memᴰ.append_right q.more (p.noted d t e) ];
    }

-- the same disks, whatever they hold and may still be asked, and whether or not the power is on
abbrev SameDisks : Shelf → Shelf → Type 0
SameDisks x y = (y.sectors ≡ x.sectors) × ((d : ℕ) → (y.alive d ≡ x.alive d) × (y.uses d ≡ x.uses d) × (y.lost d ≡ x.lost d))

pub steady_same : {x y : Shelf} → SameDisks x y → Steady x → Steady y
steady_same {x} {y} e s =
    let w : weak y ≡ weak x = count_ext 16 (λ d. y.uses d && y.lost d) (λ d. x.uses d && x.lost d) (λ d. rw ((e.1 d).1, (e.1 d).2)) in
    let few = s.few in
    record { few = omega arith; used = λ d t. subst T (sym (e.1 d).1) (s.used d (subst T (e.1 d).2 t)) }

pub employed_same : {x y : Shelf} → SameDisks x y → (d : ℕ) → Employed x d → Employed y d
employed_same e d v = record { there = v.there; used = subst T (sym (e.1 d).1) v.used; owed = λ z. subst T (sym (e.1 d).2) (v.owed (sym (e.1 d).0 ∙ z)) }

pub deaths_same : {x y : Shelf} (es : List Event) → SameDisks x y → Deaths x es y es
unfolding fell
deaths_same es e =
    record {
      size = e.0;
      uses = λ d. (e.1 d).1;
      falls = λ d t. subst T (e.1 d).0 t;
      steady = steady_same e;
      employed = employed_same e;
      more = [];
      tale = refl;
      noted = λ d t z. absurd (subst T (sym (e.1 d).0 ∙ z) t);
    }

dies_deaths : {x y : Shelf} {es fs : List Event} → Dies x es y fs → Deaths x es y fs
dies_deaths (none x es) = deaths_none x es
dies_deaths {x} {es = es} (one d m r) = deaths_then (died_deaths x es d m) (dies_deaths r)

dies_shown : {x y : Shelf} {es fs : List Event} → Dies x es y fs → (d s : ℕ) → y.shown d s ≡ x.shown d s
dies_shown (none x es) d s = refl
dies_shown (one e m r) d s = dies_shown r d s

dies_may : {x y : Shelf} {es fs : List Event} → Dies x es y fs → (d s : ℕ) → y.may d s ≡ x.may d s
dies_may (none x es) d s = refl
dies_may (one e m r) d s = dies_may r d s

dies_on : {x y : Shelf} {es fs : List Event} → Dies x es y fs → y.on ≡ x.on
dies_on (none x es) = refl
dies_on (one e m r) = dies_on r

dies_left : {x y : Shelf} {es fs : List Event} → Dies x es y fs → y.left ≡ x.left
dies_left (none x es) = refl
dies_left (one e m r) = dies_left r

dies_found : {x y : Shelf} {es fs : List Event} → Dies x es y fs → (d s : ℕ) (b : List ℕ) → Memᴰ b (found y d s) → Memᴰ b (found x d s)
dies_found {x} {y} r d s b m =
    let P : List (List ℕ) → Type 0 = λ l. Memᴰ b l in
    subst (λ h. P (h ∷ x.may d s)) (dies_shown r d s) (subst (λ l. P (y.shown d s ∷ l)) (dies_may r d s) m)

-- ---- how the disks went on

pub went_none : (W : (d s : ℕ) → List ℕ → Type 0) (x : Shelf) (es : List Event) → Went 0 W x es x es
went_none W x es = record { deaths = deaths_none x es; spent = omega arith; grows = λ d s b t m. inl m; stays = λ d s h. refl }

pub went_then : {m n : ℕ} {W : (d s : ℕ) → List ℕ → Type 0} {x y z : Shelf} {es fs gs : List Event} → Went m W x es y fs → Went n W y fs z gs → Went (m + n) W x es z gs
went_then p q =
    record {
      deaths = deaths_then p.deaths q.deaths;
      spent = let a = p.spent in let b = q.spent in omega arith;
      grows = λ d s b t k. ⊎_elim (λ k'. p.grows d s b (q.deaths.falls d t) k') inr (q.grows d s b t k);
      stays = λ d s h. q.stays d s h ∙ p.stays d s h;
    }

-- more places, more asks
pub went_wider : {m n : ℕ} {V W : (d s : ℕ) → List ℕ → Type 0} {x y : Shelf} {es fs : List Event} → m ≤ n → ((d s : ℕ) (b : List ℕ) → V d s b → W d s b) → Went m V x es y fs → Went n W x es y fs
went_wider le w p =
    record {
      deaths = p.deaths;
      spent = let a = p.spent in omega arith;
      grows = λ d s b t k. ⊎_elim inl (λ v. inr (w d s b v)) (p.grows d s b t k);
      stays = λ d s h. p.stays d s (λ b v. h b (w d s b v));
    }

-- more asks
pub went_longer : {m n : ℕ} {W : (d s : ℕ) → List ℕ → Type 0} {x y : Shelf} {es fs : List Event} → m ≤ n → Went m W x es y fs → Went n W x es y fs
went_longer le p = went_wider le (λ d s b v. v) p

-- where nothing was written, anything might have been
pub went_anywhere : {n : ℕ} (W : (d s : ℕ) → List ℕ → Type 0) {x y : Shelf} {es fs : List Event} → Went n Nowhere x es y fs → Went n W x es y fs
went_anywhere W p = went_wider (omega arith) (λ d s b v. absurd v) p

-- at the end the power is off
went_dark : {n : ℕ} {W : (d s : ℕ) → List ℕ → Type 0} {x y : Shelf} {es fs : List Event} → Went n W x es y fs → Went n W x es (dark y) fs
went_dark {fs = fs} p = record { deaths = deaths_then p.deaths (deaths_same fs (refl, λ d. (refl, refl, refl))); spent = p.spent; grows = p.grows; stays = p.stays }

-- a change of what is shown and what may be left, in a moment, counted, and then deaths
module _ (W : (d s : ℕ) → List ℕ → Type 0) (x : Shelf) (h : ℕ → ℕ → List ℕ) (m : ℕ → ℕ → List (List ℕ))
    (in_may : (d s : ℕ) (b : List ℕ) → Memᴰ b (m d s) → Memᴰ b (found x d s) ⊎ W d s b) (in-shown : (d s : ℕ) → (h d s ≡ x.shown d s) ⊎ W d s (h d s)) where
  changed_found : (d s : ℕ) (b : List ℕ) → Memᴰ b (h d s ∷ m d s) → Memᴰ b (found x d s) ⊎ W d s b
  changed_found d s b k =
      elim (mathlib.Core.List.Memᴰ.cases_cons k) [
        | inl e ↦ ⊎_elim (λ p. inl (mathlib.Core.List.Memᴰ.head (e ∙ p))) (λ w. inr (subst (λ (c : List ℕ). W d s c) (sym e) w)) (in-shown d s)
        | inr k' ↦ in_may d s b k'
      ]

  changed : {es fs : List Event} {y : Shelf} → Dies (counted (shelf h m x)) es y fs → Went 1 W x es y fs
  changed {es} r =
      record {
        deaths = deaths_then (deaths_same es (refl, λ d. (refl, refl, refl))) (dies_deaths r);
        spent = let e = dies_left r in omega arith;
        grows = λ d s b t k. changed_found d s b (dies_found r d s b k);
        stays = λ d s n. dies_shown r d s ∙ ⊎_elim (λ p. p) (λ w. absurd (n (h d s) w)) (in-shown d s);
      }

-- nothing is written
asked : {x y : Shelf} {es fs : List Event} → Dies (counted x) es y fs → Went 1 Nowhere x es y fs
asked {x} r = changed Nowhere x x.shown x.may (λ d s b k. inl (mathlib.Core.List.Memᴰ.tail k)) (λ d s. inl refl) r

-- ---- a write

written_may : (x : Shelf) (d s : ℕ) (b : List ℕ) (m : ℕ → ℕ → List (List ℕ)) → Within m (at d s (b ∷ x.may d s) x.may) → (e t : ℕ) (c : List ℕ) → Memᴰ c (m e t) →
    Memᴰ c (found x e t) ⊎ Here d s b e t c
written_may x d s b m w e t c k =
    elim (cases_Bool (eqb e d && eqb t s)) [
      | inl q ↦
          let p = and_parts (eqb e d) (eqb t s) q in
          let i : e ≡ d = eqb-true e d p.0 in
          let j : t ≡ s = eqb-true t s p.1 in
          let k' : Memᴰ c (b ∷ x.may d s) = rw q at (w e t c k) in
          elim (mathlib.Core.List.Memᴰ.cases_cons k') [
            | inl z ↦ inr (i, j, z)
            | inr z ↦ inl (mathlib.Core.List.Memᴰ.tail (subst (λ (n : ℕ). Memᴰ c (x.may n t)) (sym i) (subst (λ (n : ℕ). Memᴰ c (x.may d n)) (sym j) z)))
          ]
      | inr q ↦ let k' : Memᴰ c (x.may e t) = rw q at (w e t c k) in inl (mathlib.Core.List.Memᴰ.tail k')
    ]

written_shown : (x : Shelf) (d s : ℕ) (b : List ℕ) (e t : ℕ) → (at d s b x.shown e t ≡ x.shown e t) ⊎ Here d s b e t (at d s b x.shown e t)
written_shown x d s b e t =
    elim (cases_Bool (eqb e d && eqb t s)) [ inl q ↦ let p = and_parts (eqb e d) (eqb t s) q in inr (eqb-true e d p.0, eqb-true t s p.1, rw q) | inr q ↦ inl (rw q) ]

at_same : (d s : ℕ) (b : List ℕ) (f : ℕ → ℕ → List ℕ) → at d s b f d s ≡ b
at_same d s b f = rw (T_true (eqb_refl d), T_true (eqb_refl s))

pub write_went : {x y : Shelf} {es fs : List Event} {d s : ℕ} {b : List ℕ} {a : Answer} → Writing x es d s b a y fs → Went 1 (Here d s b) x es y fs
write_went {x} {d = d} {s} {b} (Writing.done m y fs on w r l) = changed (Here d s b) x (at d s b x.shown) m (written_may x d s b m w) (written_shown x d s b) r
write_went {d = d} {s} {b} (Writing.dead y fs on r l) = went_anywhere (Here d s b) (asked r)
write_went {x} {d = d} {s} {b} (Writing.goes m y fs on w r) = went_dark (changed (Here d s b) x x.shown m (written_may x d s b m w) (λ e t. inl refl) r)
write_went {x} {es = es} {d = d} {s} {b} (Writing.gone off) = went_dark (went_anywhere (Here d s b) (asked (none (counted x) es)))

pub write_fine : {x y : Shelf} {es fs : List Event} {d s : ℕ} {b : List ℕ} → Writing x es d s b Fine y fs → Wrote d s b true y
write_fine {x} {d = d} {s} {b} (Writing.done m y fs on w r l) =
    record { lit = dies_on r ∙ T_true on; alive = T_true l; shows = λ t. dies_shown r d s ∙ at_same d s b x.shown }

pub write_dead : {x y : Shelf} {es fs : List Event} {d s : ℕ} {b : List ℕ} → Writing x es d s b Dead y fs → Wrote d s b false y
write_dead (Writing.dead y fs on r l) = record { lit = dies_on r ∙ T_true on; alive = l; shows = λ t. absurd (subst T l t) }

pub write_dark : {x y : Shelf} {es fs : List Event} {d s : ℕ} {b : List ℕ} → Writing x es d s b Dark y fs → y.on ≡ false
write_dark (Writing.goes m y fs on w r) = refl
write_dark (Writing.gone off) = refl

pub write_wrote : {x y : Shelf} {es fs : List Event} {d s : ℕ} {b : List ℕ} (a : Answer) (r : Result Bool Gone) → Writing x es d s b a y fs → Lives a r → MatchResult r (λ lives. Wrote d s b lives y) (λ _. y.on ≡ false)
write_wrote Fine r w e = rw e (write_fine w)
write_wrote Dead r w e = rw e (write_dead w)
write_wrote Dark (Ok lives) w e = absurd (true≢false e)
write_wrote Dark (Err gone) w e = write_dark w

-- ---- a sync

pub sync_went : {x y : Shelf} {es fs : List Event} {a : Answer} → Syncing x es a y fs → Went 1 Nowhere x es y fs
sync_went {x} (Syncing.done m y fs on w r) =
    changed Nowhere x x.shown m (λ d s b k. inl (mathlib.Core.List.Memᴰ.head (mathlib.Core.List.Memᴰ.eq_of_singleton (w d s b k)))) (λ d s. inl refl) r
sync_went {x} (Syncing.goes m y fs w r) = went_dark (changed Nowhere x x.shown m (λ d s b k. inl (mathlib.Core.List.Memᴰ.tail (w d s b k))) (λ d s. inl refl) r)

pub sync_fine : {x y : Shelf} {es fs : List Event} → Syncing x es Fine y fs → Synced y
sync_fine (Syncing.done m y fs on w r) =
    record { lit = dies_on r ∙ T_true on; settled = λ d s b k. mathlib.Core.List.Memᴰ.eq_of_singleton (w d s b (rw (dies_may r d s) at k)) ∙ sym (dies_shown r d s) }

pub sync_dark : {x y : Shelf} {es fs : List Event} → Syncing x es Dark y fs → y.on ≡ false
sync_dark (Syncing.goes m y fs w r) = refl

-- a sync is of no one disk, so it is never answered by a death
pub sync_never : {x y : Shelf} {es fs : List Event} → Syncing x es Dead y fs → ⊥
sync_never h = elim h [ ]

pub sync_synced : {x y : Shelf} {es fs : List Event} (a : Answer) (r : Result Bool Gone) → Syncing x es a y fs → Lives a r → MatchResult r (λ lives. Synced y) (λ _. y.on ≡ false)
sync_synced Fine r w e = rw e (sync_fine w)
sync_synced Dead r w e = absurd (sync_never w)
sync_synced Dark (Ok lives) w e = absurd (true≢false e)
sync_synced Dark (Err gone) w e = sync_dark w

-- ---- a read

pub read_went : {x y : Shelf} {es fs : List Event} {d s : ℕ} {b : List ℕ} {a : Answer} → Reading x es d s b a y fs → Went 1 Nowhere x es y fs
read_went (Reading.reads y fs on r l) = asked r
read_went (Reading.dead b y fs on r l) = asked r
read_went (Reading.goes b y fs r) = went_dark (asked r)

pub read_fine : {x y : Shelf} {es fs : List Event} {d s : ℕ} {b : List ℕ} → Reading x es d s b Fine y fs → Heard d s b true y
read_fine {d = d} {s} (Reading.reads y fs on r l) = record { lit = dies_on r ∙ T_true on; alive = T_true l; shows = λ t. sym (dies_shown r d s) }

pub read_dead : {x y : Shelf} {es fs : List Event} {d s : ℕ} {b : List ℕ} → Reading x es d s b Dead y fs → Heard d s b false y
read_dead (Reading.dead b y fs on r l) = record { lit = dies_on r ∙ T_true on; alive = l; shows = λ t. absurd t }

pub read_dark : {x y : Shelf} {es fs : List Event} {d s : ℕ} {b : List ℕ} → Reading x es d s b Dark y fs → y.on ≡ false
read_dark (Reading.goes b y fs r) = refl

pub read_heard : {x y : Shelf} {es fs : List Event} {d s : ℕ} {b : List ℕ} (a : Answer) (r : Result Bool Gone) → Reading x es d s b a y fs → Lives a r → MatchResult r (λ lives. Heard d s b lives y) (λ _. y.on ≡ false)
read_heard Fine r w e = rw e (read_fine w)
read_heard Dead r w e = rw e (read_dead w)
read_heard Dark (Ok lives) w e = absurd (true≢false e)
read_heard Dark (Err gone) w e = read_dark w

-- ---- the power comes back

pub back_returned : {x z : Shelf} {es fs : List Event} → Back x es z fs → Returned x es z fs
back_returned {x} {z} {es} {fs} k =
    record {
      deaths = deaths_then (dies_deaths k.meanwhile) (deaths_same fs k.same);
      lit = k.lit;
      settled = λ d s b m. mathlib.Core.List.Memᴰ.eq_of_singleton (k.only d s b m);
      leaves = λ d s b p q m.
          let e : b ≡ z.shown d s = elim (mathlib.Core.List.Memᴰ.cases_cons m) [ inl e ↦ e | inr n ↦ mathlib.Core.List.Memᴰ.eq_of_singleton (k.only d s b n) ] in
          let q' : s < k.y.sectors = subst (λ (n : ℕ). s < n) k.same.0 q in
          subst (λ (c : List (List ℕ)). Memᴰ b c) (dies_may k.meanwhile d s) (mathlib.Core.List.Memᴰ.cast e (k.each d s p q'));
    }

-- ---- as it starts

and_false : (a b : Bool) → b ≡ false → (a && b) ≡ false
and_false true b h = h
and_false false b h = refl

pub start_steady : {x : Shelf} → AtStart x → Steady x
start_steady {x} a =
    let none = count_none 16 (λ d. x.uses d && x.lost d) (λ e. and_false (x.uses e) (x.lost e) (a.3 e).1) in
    record { few = omega arith; used = λ d t. absurd (subst T (a.3 d).1 t) }

pub start_employed : {x : Shelf} → AtStart x → (d : ℕ) → d < 4 → Employed x d
start_employed {x} a d h = let l : d < 16 = omega arith in record { there = l; used = true-T ((a.3 d).0 ∙ lt-ltb d 4 h); owed = λ z. absurd (subst T z (a.4 d l)) }

pub start_settled : (x : Shelf) → AtStart x → Settled x
start_settled x a d s b m = mathlib.Core.List.Memᴰ.eq_of_singleton (a.6 d s b m) ∙ sym (a.5 d s)

-- ---- what is known at a place

pub among_went : {n : ℕ} {W : (d s : ℕ) → List ℕ → Type 0} {x y : Shelf} {es fs : List Event} → Went n W x es y fs → (d s : ℕ) (P : List ℕ → Type 0) → ((b : List ℕ) → W d s b → P b) → Among x d s P →
    Among y d s P
among_went p d s P w a t b k = ⊎_elim (λ k'. a (p.deaths.falls d t) b k') (w b) (p.grows d s b t k)

pub shows_went : {n : ℕ} {W : (d s : ℕ) → List ℕ → Type 0} {x y : Shelf} {es fs : List Event} → Went n W x es y fs → (d s : ℕ) (b : List ℕ) → ((c : List ℕ) → W d s c → ⊥) → Shows x d s b → Shows y d s b
shows_went p d s b n h t = p.stays d s n ∙ h (p.deaths.falls d t)

-- what is shown lasts where a cut leaves what is shown
pub among_settled : (y : Shelf) → Settled y → (d s : ℕ) (b : List ℕ) → Shows y d s b → Among y d s (λ c. c ≡ b)
among_settled y z d s b h t c k = elim (mathlib.Core.List.Memᴰ.cases_cons k) [ inl e ↦ e ∙ h t | inr m ↦ z d s c m ∙ h t ]

-- what was shown before a sync lasts after it
pub among_synced : {x y : Shelf} {es fs : List Event} → Went 1 Nowhere x es y fs → Settled y → (d s : ℕ) (b : List ℕ) → Shows x d s b → Among y d s (λ c. c ≡ b)
among_synced {y = y} w z d s b h = among_settled y z d s b (shows_went w d s b (λ c n. n) h)

pub among_back : {x z : Shelf} {es fs : List Event} → Returned x es z fs → (d s : ℕ) (P : List ℕ → Type 0) → d < 16 → s < z.sectors → Among x d s P → Among z d s P
among_back r d s P p q a t b k = a (r.deaths.falls d t) b (mathlib.Core.List.Memᴰ.tail (r.leaves d s b p q k))

pub shows_among : (x : Shelf) (d s : ℕ) (b : List ℕ) → Among x d s (λ c. c ≡ b) → Shows x d s b
shows_among x d s b a t = a t (x.shown d s) (mathlib.Core.List.Memᴰ.head refl)

pub among_weaker : (x : Shelf) (d s : ℕ) {P Q : List ℕ → Type 0} → ((b : List ℕ) → P b → Q b) → Among x d s P → Among x d s Q
among_weaker x d s f a t b m = f b (a t b m)

pub dead_stays : {n : ℕ} {W : (d s : ℕ) → List ℕ → Type 0} {x y : Shelf} {es fs : List Event} → Went n W x es y fs → (d : ℕ) → x.alive d ≡ false → y.alive d ≡ false
dead_stays {y = y} w d h = elim (cases_Bool (y.alive d)) [ inl q ↦ absurd (subst T h (w.deaths.falls d (true-T q))) | inr q ↦ q ]
