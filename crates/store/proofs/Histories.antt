-- What a history keeps of itself, and what deaths and a cut add to it.
-- Assumes nothing.
use Rattle.std.proofs.Common.{◌≡◌, ℕ, ◌+◌, ◌*◌, ◌≤◌, Bool, true, false, cond, not, ◌||◌, T, eqb, ltb, List, [], ◌∷◌, sym, refl, ap, ◌∙◌, subst, inl, inr, zero-le, arith}
use Rattle.std.proofs.lemmas.Bool.{cond_both, eqb-true}
use Rattle.layout.specs.Super.{Super}
use Rattle.store.specs.Event.{Event, Cut}
use Rattle.store.specs.Shelf.{Shelf}
use Rattle.store.specs.Store.{Seen, Way, Free, Under, Over, Change, None', is_none, begins, core, grown, older, set_way, set_disks, new_content, lasting, left, Run, new, asks, refuses, dies, reads, writes, flushes, sizes, finishes, done, gives_up, tells, drops, turns, cuts}
use Rattle.store.specs.Promise.{can}
use Rattle.store.specs.Durable.{Deaths, fell}
use Rattle.store.specs.Keeping.{Columns}
use Rattle.store.specs.Between.{ticks, Explains, Standing}
use Rattle.store.specs.declared.Ask.{Ask}
use Rattle.store.specs.declared.Ask.TheVariants.{Read, Write, Flush, Size, Add, Replace}
use Rattle.store.specs.declared.Reply.{Reply}
use Rattle.store.specs.declared.Store.{Store}

-- ---- no change is ever under way while only reads, writes, flushes and sizes are built

-- what isn't turned away is built
pub is_built : (b : Bool) (a : Ask) (k : ℕ) → cond b 1 (cond (not (core a)) 9 k) ≡ 0 → T (core a)
unfolding core
is_built true a k e = absurd (omega arith)
is_built false (Read s) k e = tt
is_built false (Write s) k e = tt
is_built false Flush k e = tt
is_built false Size k e = tt
is_built false (Add f) k e = absurd (omega arith)
is_built false (Replace d f) k e = absurd (omega arith)

begins_none : (a : Ask) → T (core a) → (c : Change) → begins a c ≡ c
unfolding core begins
begins_none (Read s) k c = refl
begins_none (Write s) k c = refl
begins_none Flush k c = refl
begins_none Size k c = refl
begins_none (Add e) k c = elim k [ ]
begins_none (Replace d e) k c = elim k [ ]

isn't : (c : Change) → c ≡ None' → T (not (is_none c)) → ⊥
unfolding is_none
isn't c e t = subst (λ (q : Change). T (not (is_none q))) e t

grown_none : (c : Change) → c ≡ None' → grown c ≡ None'
unfolding grown
grown_none c e = ap grown e

pub still : {n : ℕ} {es : List Event} {h : Seen} → Run can n es h → h.change ≡ None'
still new = refl
still (asks {h = h} t a w r e) = begins_none a (is_built _ a _ e) h.change ∙ still r
still (refuses t a w r e) = still r
still (dies d r) = still r
still (reads t r e) = still r
still (writes t r e) = still r
still (flushes t r e) = still r
still (sizes t r e) = still r
still (finishes {h = h} r e) = absurd (isn't h.change (still r) e)
still (done t r e p q) = still r
still (gives_up t r e p q d) = refl
still (tells t r e s) = still r
still (drops r e d) = refl
still (turns {h = h} r y a) = grown_none h.change (still r)
still (cuts {h = h} pick c r p q) = elim q [ inl e ↦ e ∙ still r | inr e ↦ e.0 ]

-- ---- marks, and what lasts, are no later than what there is

pub record Marked (h : Seen) : Type 0 where
  pub low : (i : ℕ) → h.low i ≤ h.count i
  pub marks : (t : ℕ) (a : Ask) (w : List ℕ) (m : ℕ → ℕ) (g : ℕ) → h.way t ≡ Under a w m g → (i : ℕ) → m i ≤ h.count i

either : {P : Type 0} (b : Bool) (x y z : Way) → cond b x y ≡ z → (x ≡ z → P) → (y ≡ z → P) → P
either true x y z e f g = f e
either false x y z e f g = g e

not_over : {P : Type 0} {a b : Ask} {r : Reply} {w v : List ℕ} {m : ℕ → ℕ} {g k : ℕ} → Over a r w g ≡ Under b v m k → P
not_over e = cc

not_free : {P : Type 0} {b : Ask} {v : List ℕ} {m : ℕ → ℕ} {k : ℕ} → Free ≡ Under b v m k → P
not_free e = cc

-- a tag whose way is another one now
marked_way : (h : Seen) (t : ℕ) (x : Way) → ((a : Ask) (w : List ℕ) (m : ℕ → ℕ) (g : ℕ) → x ≡ Under a w m g → (i : ℕ) → m i ≤ h.count i) → Marked h → Marked (set_way t x h)
marked_way h t x f v = record { low = v.low; marks = λ u a w m g e i. either (eqb u t) x (h.way u) (Under a w m g) e (λ q. f a w m g q i) (λ q. v.marks u a w m g q i) }

younger : (v : Way) (a : Ask) (w : List ℕ) (m : ℕ → ℕ) (g : ℕ) → older v ≡ Under a w m g → (k : ℕ) × (v ≡ Under a w m k)
unfolding older
younger Free a w m g e = not_free e
younger (Under b u n k) a w m g e = (k, cc)
younger (Over b r u k) a w m g e = not_over e

pub marked : {n : ℕ} {es : List Event} {h : Seen} → Run can n es h → Marked h
marked new = record { low = λ i. zero-le; marks = λ t a w m g e i. not_free e }
marked (asks {h = h} t a w r e) =
    let v = marked r in record { low = v.low; marks = λ u b w' m g q i. either (eqb u t) (Under a w h.count 0) (h.way u) (Under b w' m g) q (λ p. let f : h.count ≡ m = cc in omega (arith, ap (λ c. c i) f)) (λ p. v.marks u b w' m g p i) }
marked (refuses t a w r e) = marked r
marked (dies d r) = let v = marked r in record { low = v.low; marks = v.marks }
marked (reads {h = h} t r e) = marked_way h t _ (λ a w m g q i. not_over q) (marked r)
marked (writes {h = h} {s = s} {w = w} t r e) =
    let v = marked r in
    let up : (i : ℕ) → h.count i ≤ cond (eqb i s) (h.count s + 1) (h.count i) = λ i. cond_both (eqb i s) (h.count s + 1) (h.count i) (λ k. h.count i ≤ k) (λ q. omega (arith, ap h.count (eqb-true i s q))) (λ q. omega arith) in
    marked_way (new_content s w h) t _ (λ a w m g q i. not_over q)
    (record { low = λ i. omega (arith, v.low i, up i); marks = λ u a w' m g q i. omega (arith, v.marks u a w' m g q i, up i) })
marked (flushes {h = h} {m = m} t r e) =
    let v = marked r in
    marked_way (lasting m h) t _ (λ a w m g q i. not_over q)
    (record { low = λ i. cond_both (ltb (h.low i) (m i)) (m i) (h.low i) (λ k. k ≤ h.count i) (λ q. v.marks t Flush _ m _ e i) (λ q. v.low i); marks = v.marks })
marked (sizes {h = h} t r e) = marked_way h t _ (λ a w m g q i. not_over q) (marked r)
marked (finishes r e) = let v = marked r in record { low = v.low; marks = v.marks }
marked (done {h = h} t r e p q) = marked_way h t _ (λ a w m g q i. not_over q) (marked r)
marked (gives_up {h = h} t r e p q d) = let v = marked r in marked_way (set_disks h.disks None' h) t _ (λ a w m g q i. not_over q) (record { low = v.low; marks = v.marks })
marked (tells {h = h} t r e s) = marked_way h t _ (λ a w m g q i. not_free q) (marked r)
marked (drops r e d) = let v = marked r in record { low = v.low; marks = v.marks }
marked (turns {h = h} r y a) = let v = marked r in record { low = v.low; marks = λ t a w m g e i. let o = younger (h.way t) a w m g e in v.marks t a w m o.0 o.1 i }
marked (cuts pick c r p q) = record { low = λ i. zero-le; marks = λ t a w m g e i. not_free e }

-- ---- what columns explain, they explain of whatever has the same disks and contents

abbrev like : Seen → (ℕ → ℕ) → (ℕ → Way) → Change → (ℕ → Bool) → Seen
like h low way change dead = record { content = h.content; count = h.count; low = low; way = way; disks = h.disks; change = change; dead = dead }

module _ {k j : ℕ} {es fs : List Event} {c : Columns} {h : Seen} {low : ℕ → ℕ} {way : ℕ → Way} {change : Change} {dead : ℕ → Bool} where
  pub explains_like : {n : ℕ} {S : Super} → Explains n k es S c h → 2 * ticks es + k ≤ 2 * ticks fs + j → Run can n fs (like h low way change dead) → Explains n j fs S c (like h low way change dead)
  explains_like v l r = record { run = r; matches = record { disks = v.matches.disks; content = v.matches.content }; coded = v.coded; idle = v.idle; early = omega (arith, v.early, l) }

  pub stands_like : {s s' : Store} {x : Shelf} → Standing s x k es c h → s'.sectors ≡ s.sectors → s'.superblock ≡ s.superblock → 2 * ticks es + k ≤ 2 * ticks fs + j → Run can x.sectors fs (like h low way change dead) →
      Standing s' x j fs c (like h low way change dead)
  stands_like v size super l r = record { lit = v.lit; ready = rw super v.ready; marks = rw super v.marks; same = size ∙ v.same; explains = rw super (explains_like v.explains l r) }

-- ---- deaths

unfoldable pub buried : List ℕ → (ℕ → Bool) → ℕ → Bool
buried [] f e = f e
buried (d ∷ ds) f e = buried ds f e || eqb e d

-- the same, with these disks dead
abbrev pub mourned : List ℕ → Seen → Seen
mourned ds h = record { content = h.content; count = h.count; low = h.low; way = h.way; disks = h.disks; change = h.change; dead = buried ds h.dead }

run_fell : {n : ℕ} {es : List Event} {h : Seen} (ds : List ℕ) → Run can n es h → Run can n (fell ds es) (mourned ds h)
unfolding fell buried
run_fell [] r = r
run_fell (d ∷ ds) r = dies d (run_fell ds r)

pub ticks_fell : (ds : List ℕ) (es : List Event) → ticks (fell ds es) ≡ ticks es
unfolding fell ticks
ticks_fell [] es = refl
ticks_fell (d ∷ ds) es = ticks_fell ds es

pub ticks_deaths : {x y : Shelf} {es fs : List Event} → Deaths x es y fs → ticks fs ≡ ticks es
ticks_deaths {es = es} w = ap ticks w.tale ∙ ticks_fell w.more es

module _ {k : ℕ} {x y : Shelf} {es fs : List Event} {S : Super} {c : Columns} {h : Seen} (w : Deaths x es y fs) where
  pub explains_deaths : Explains x.sectors k es S c h → Explains y.sectors k fs S c (mourned w.more h)
  explains_deaths v =
      subst (λ (n : ℕ). Explains n k fs S c (mourned w.more h)) (sym w.size)
      (explains_like v (omega (arith, ticks_deaths w)) (subst (λ (gs : List Event). Run can x.sectors gs (mourned w.more h)) (sym w.tale) (run_fell w.more v.run)))

pub explains_later : {n : ℕ} {es : List Event} {S : Super} {c : Columns} {h : Seen} → Explains n 0 es S c h → Explains n 2 es S c h
explains_later v = explains_like v (omega arith) v.run

-- ---- a cut leaves each sector's last content

pub explains_cut : {n : ℕ} {es : List Event} {S : Super} {c : Columns} {h : Seen} → Explains n 2 es S c h → Explains n 0 (Cut ∷ es) S c (left h.count h.change h)
unfolding ticks
explains_cut {h = h} v =
    record {
      run = cuts h.count h.change v.run (λ s. ((marked v.run).low s, omega arith)) (inl refl);
      matches = record { disks = v.matches.disks; content = v.matches.content };
      coded = v.coded;
      idle = v.idle;
      early = omega (arith, v.early);
    }
