-- The store never loses a disk's worth: before each event there was a run with no more disks.
-- Assumes nothing.
use Rattle.std.proofs.Common.{ℕ, ◌-◌, ◌≤◌, Bool, List, [], ◌∷◌, length, mul-le-mul, arith, length-append}
use Rattle.store.specs.Event.{Event}
use Rattle.store.specs.declared.Ask.{Ask}
use Rattle.store.specs.Store.{Seen, Change, None', Adding, Replacing, Run, new, asks, refuses, dies, reads, writes, flushes, sizes, finishes, done, gives_up, tells, drops, turns, cuts, changed, size_of}
use Rattle.store.proofs.Membership.{length-put}

-- a change that is done leaves as many disks as there were, or one more
pub length_changed : (c : Change) (ds : List ℕ) → length ds ≤ length (changed c ds)
unfolding changed
length_changed None' ds = omega arith
length_changed (Adding e g) ds = omega (arith, length-append ds (e ∷ []))
length_changed (Replacing d e g) ds = omega (arith, length-put d e ds)

-- so many disks, so many sectors
pub size_grows : (n : ℕ) (g h : Seen) → length g.disks ≤ length h.disks → size_of n g ≤ size_of n h
size_grows n g h l = let m : length g.disks - 2 ≤ length h.disks - 2 = omega arith in let same : n - 64 ≤ n - 64 = omega arith in mul-le-mul m same

-- a run of all but the latest event, with no more disks than k
abbrev pub Before : (Ask → Bool) → ℕ → List Event → ℕ → Type 0
Before can n [] k = Unit {0}
Before can n (e ∷ es) k = (g : Seen) × Run can n es g × (length g.disks ≤ k)

before_grows : (can : Ask → Bool) (n : ℕ) (es : List Event) (k l : ℕ) → k ≤ l → Before can n es k → Before can n es l
before_grows can n [] k l m b = tt
before_grows can n (e ∷ es) k l m b = let q : length b.0.disks ≤ l = omega (arith, b.2) in (b.0, b.1, q)

pub before : {can : Ask → Bool} {n : ℕ} {es : List Event} {h : Seen} → Run can n es h → Before can n es (length h.disks)
before new = tt
before (asks {h = h} t a w r e) = (h, r, omega arith)
before (refuses {h = h} t a w r e) = (h, r, omega arith)
before (dies {h = h} d r) = (h, r, omega arith)
before (reads t r e) = before r
before (writes t r e) = before r
before (flushes t r e) = before r
before (sizes t r e) = before r
before {can} {n} {es} (finishes {h = h} r e) = before_grows can n es (length h.disks) (length (changed h.change h.disks)) (length_changed h.change h.disks) (before r)
before (done t r e c i) = before r
before (gives_up t r e c i d) = before r
before (tells {h = h} t r e b) = (h, r, omega arith)
before (drops r e d) = before r
before (turns {h = h} r y a) = (h, r, omega arith)
before (cuts {h = h} pick c r p e) = (h, r, omega arith)
