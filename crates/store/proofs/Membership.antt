-- Which disks are in the store: no disk is in two places, there are 4 to 12, and a change that is under way brings a disk that is not in, for which there is room.
-- Assumes nothing.
use Rattle.std.proofs.Common.{◌≡◌, ℕ, suc, ◌<◌, ◌≤◌, Bool, true, false, cond, not, ◌||◌, eqb, leb, ◌⊎◌, List, [], ◌∷◌, ◌++◌, length, sym, refl, ap, subst, inl, inr, arith, lit≤, length-append}
use Rattle.std.proofs.lemmas.Bool.{and_parts, and_from, or_parts, or_from, not-true, not_from_false, eqb-false, ne_eqb, leb-false, cond_both}
use Rattle.store.specs.Event.{Event}
use Rattle.store.specs.declared.Ask.{Ask}
use Rattle.store.specs.declared.Ask.TheVariants.{Read, Write, Flush, Size, Add, Replace}
use Rattle.store.specs.Store.{Seen, Change, None', Adding, Replacing, Run, new, asks, refuses, dies, reads, writes, flushes, sizes, finishes, done, gives_up, tells, drops, turns, cuts, is_in, put, free, why, wrong, begins, changed, grown, is_none, same_add, same_replace, asks_change, some'}
use Rattle.store.specs.Promise.{apart}

eqb_swap : (a b : ℕ) → eqb a b ≡ false → eqb b a ≡ false
eqb_swap a b e = ne_eqb b a (λ q. eqb-false a b e (sym q))

-- ---- lists of disks

pub is_in-append : (d e : ℕ) (ds : List ℕ) → is_in d ds ≡ false → eqb d e ≡ false → is_in d (ds ++ (e ∷ [])) ≡ false
unfolding is_in
is_in-append d e [] out other = or_from (eqb d e) false other refl
is_in-append d e (f ∷ fs) out other =
    let p = or_parts (eqb d f) (is_in d fs) out in or_from (eqb d f) (is_in d (fs ++ (e ∷ []))) p.0 (is_in-append d e fs p.1 other)

pub apart-append : (e : ℕ) (ds : List ℕ) → apart ds ≡ true → is_in e ds ≡ false → apart (ds ++ (e ∷ [])) ≡ true
unfolding apart is_in
apart-append e [] once out = refl
apart-append e (f ∷ fs) once out =
    let p = and_parts (not (is_in f fs)) (apart fs) once in
    let q = or_parts (eqb e f) (is_in e fs) out in
    and_from (not (is_in f (fs ++ (e ∷ [])))) (apart (fs ++ (e ∷ [])))
    (not_from_false (is_in f (fs ++ (e ∷ []))) (is_in-append f e fs (not-true (is_in f fs) p.0) (eqb_swap e f q.0)))
    (apart-append e fs p.1 q.1)

pub length-put : (d e : ℕ) (ds : List ℕ) → length (put d e ds) ≡ length ds
unfolding put
length-put d e [] = refl
length-put d e (f ∷ fs) = cond_both (eqb d f) (e ∷ fs) (f ∷ put d e fs) (λ (xs : List ℕ). length xs ≡ length (f ∷ fs)) (λ _. refl) (λ _. ap suc (length-put d e fs))

pub is_in-put : (f d e : ℕ) (ds : List ℕ) → is_in f ds ≡ false → eqb f e ≡ false → is_in f (put d e ds) ≡ false
unfolding put is_in
is_in-put f d e [] out other = refl
is_in-put f d e (g ∷ gs) out other =
    let p = or_parts (eqb f g) (is_in f gs) out in
    cond_both (eqb d g) (e ∷ gs) (g ∷ put d e gs) (λ (xs : List ℕ). is_in f xs ≡ false) (λ _. or_from (eqb f e) (is_in f gs) other p.1)
    (λ _. or_from (eqb f g) (is_in f (put d e gs)) p.0 (is_in-put f d e gs p.1 other))

pub apart-put : (d e : ℕ) (ds : List ℕ) → apart ds ≡ true → is_in e ds ≡ false → apart (put d e ds) ≡ true
unfolding put apart is_in
apart-put d e [] once out = refl
apart-put d e (f ∷ fs) once out =
    let p = and_parts (not (is_in f fs)) (apart fs) once in
    let q = or_parts (eqb e f) (is_in e fs) out in
    cond_both (eqb d f) (e ∷ fs) (f ∷ put d e fs) (λ (xs : List ℕ). apart xs ≡ true)
    (λ _. and_from (not (is_in e fs)) (apart fs) (not_from_false (is_in e fs) q.1) p.1)
    (λ _. and_from (not (is_in f (put d e fs))) (apart (put d e fs))
    (not_from_false (is_in f (put d e fs)) (is_in-put f d e fs (not-true (is_in f fs) p.0) (eqb_swap e f q.0))) (apart-put d e fs p.1 q.1))

-- ---- the invariant

-- a change brings a disk that is not in; one that adds it has room for it
abbrev pub Room : Change → List ℕ → Type 0
Room None' ds = Unit {0}
Room (Adding e g) ds = (is_in e ds ≡ false) × (length ds < 12)
Room (Replacing d e g) ds = is_in e ds ≡ false

pub record Placed (ds : List ℕ) (c : Change) : Type 0 where
  pub once : apart ds ≡ true
  pub least : 4 ≤ length ds
  pub most : length ds ≤ 12
  pub room : Room c ds

-- ---- what each step keeps of it

-- the first that applies is none
pub none_applies : (b : Bool) (x y : ℕ) → cond b (suc x) y ≡ 0 → (b ≡ false) × (y ≡ 0)
none_applies true x y e = absurd (omega arith)
none_applies false x y e = (refl, e)

-- a tag asks for a change
abbrev busy : Seen → Bool
busy h = some' 8 (λ (t : ℕ). asks_change (h.way t))

pub room_begun : (n : ℕ) (h : Seen) (a : Ask) → why n h a ≡ 0 → Room h.change h.disks → Room (begins a h.change) h.disks
unfolding why begins
room_begun n h (Read s) e r = r
room_begun n h (Write s) e r = r
room_begun n h Flush e r = r
room_begun n h Size e r = r
room_begun n h (Add f) e r =
    let last = cond (not (same_add f h.change) || busy h) 6 0 in
    let full = cond (leb 12 (length h.disks)) 5 last in
    let p = none_applies (leb 16 f || is_in f h.disks) 3 full e in
    let q = none_applies (leb 12 (length h.disks)) 4 last p.1 in
    cond_both (is_none h.change) (Adding f 0) h.change (λ (c : Change). Room c h.disks)
    (λ _. ((or_parts (leb 16 f) (is_in f h.disks) p.0).1, leb-false 12 (length h.disks) q.0)) (λ _. r)
room_begun n h (Replace d f) e r =
    let last = cond (not (same_replace d f h.change) || busy h) 6 0 in
    let p = none_applies (leb 16 f || not (is_in d h.disks) || is_in f h.disks) 3 last e in
    cond_both (is_none h.change) (Replacing d f 0) h.change (λ (c : Change). Room c h.disks)
    (λ _. (or_parts (leb 16 f || not (is_in d h.disks)) (is_in f h.disks) p.0).1) (λ _. r)

room_grown : (c : Change) (ds : List ℕ) → Room c ds → Room (grown c) ds
unfolding grown
room_grown None' ds r = r
room_grown (Adding e g) ds r = r
room_grown (Replacing d e g) ds r = r

-- a change that is done leaves no disk in two places
pub placed_changed : (ds : List ℕ) (c : Change) → Placed ds c → Placed (changed c ds) None'
unfolding changed
placed_changed ds None' v = record { once = v.once; least = v.least; most = v.most; room = tt }
placed_changed ds (Adding e g) v =
    let l = length-append ds (e ∷ []) in
    record { once = apart-append e ds v.once v.room.0; least = omega (arith, l, v.least); most = omega (arith, l, v.room.1); room = tt }
placed_changed ds (Replacing d e g) v =
    let l = length-put d e ds in record { once = apart-put d e ds v.once v.room; least = omega (arith, l, v.least); most = omega (arith, l, v.most); room = tt }

-- the same disks, with another change that there is room for
placed_with : {ds : List ℕ} {c : Change} (c' : Change) → Placed ds c → Room c' ds → Placed ds c'
placed_with c' v r = record { once = v.once; least = v.least; most = v.most; room = r }

-- what a cut leaves of a change: all or nothing
room_left : {P : Type 0} (c c' : Change) (ds : List ℕ) → Room c ds → (c' ≡ c) ⊎ ((c' ≡ None') × P) → Room c' ds
room_left c c' ds r (inl e) = subst (λ (x : Change). Room x ds) (sym e) r
room_left c c' ds r (inr e) = subst (λ (x : Change). Room x ds) (sym e.0) tt

pub asked_why : (can : Ask → Bool) (n : ℕ) (h : Seen) (t : ℕ) (a : Ask) → wrong can n h t a ≡ 0 → why n h a ≡ 0
asked_why can n h t a e =
    let built = cond (not (can a)) 9 (why n h a) in (none_applies (not (can a)) 8 (why n h a) (none_applies (leb 8 t || not (free (h.way t))) 0 built e).1).1

-- every run keeps it
pub placed : {can : Ask → Bool} {n : ℕ} {es : List Event} {h : Seen} → Run can n es h → Placed h.disks h.change
unfolding apart is_in
placed new = record { once = refl; least = lit≤ tt; most = lit≤ tt; room = tt }
placed {can} {n} (asks {h = h} t a w r e) = placed_with (begins a h.change) (placed r) (room_begun n h a (asked_why can n h t a e) (placed r).room)
placed (refuses t a w r e) = placed r
placed (dies d r) = placed r
placed (reads t r e) = placed r
placed (writes t r e) = placed r
placed (flushes t r e) = placed r
placed (sizes t r e) = placed r
placed (finishes {h = h} r e) = placed_changed h.disks h.change (placed r)
placed (done t r e c i) = placed r
placed (gives_up t r e c i d) = placed_with None' (placed r) tt
placed (tells t r e b) = placed r
placed (drops r e d) = placed_with None' (placed r) tt
placed (turns {h = h} r y a) = placed_with (grown h.change) (placed r) (room_grown h.change h.disks (placed r).room)
placed (cuts {h = h} pick c r p e) = placed_with c (placed r) (room_left h.change c h.disks (placed r).room e)
