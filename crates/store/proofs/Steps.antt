-- What `serve` and `years` need of what `open`, `ask` and `turn` hand on.
-- Assumes nothing.
use Rattle.std.proofs.Common.{◌≡◌, ℕ, zero, suc, ◌+◌, ◌*◌, ◌<◌, ◌≤◌, List, [], ◌∷◌, Some, None, Ok, Option, sym, refl, ap, subst, suc-le-suc, zero-le, add-mul, mul-le-mul, arith}
use Rattle.store.specs.Event.{Event, Told, Turned, Cut}
use Rattle.store.specs.Shelf.{Shelf, Back, takes_in, told_of}
use Rattle.store.specs.Store.{Explained}
use Rattle.store.specs.Promise.{can, said}
use Rattle.store.specs.Between.{ticks, Serving, Recoverable, Lost, Telling, AfterTurn, answered}
use Rattle.store.proofs.Histories.{ticks_deaths}
use Rattle.store.proofs.Laws.{back_returned}
use Rattle.store.specs.declared.Ask.{Ask}
use Rattle.store.specs.declared.Ask.TheVariants.{Read, Write, Flush, Size, Add, Replace}
use Rattle.store.specs.declared.Reply.{Reply}
use Rattle.store.specs.declared.Reply.TheVariants.{Done, Bytes, Many, No}
use Rattle.store.specs.declared.Store.{Store}
use Rattle.store.specs.declared.Ended.{Ended}

pub takes_sectors : (a : Ask) (x : Shelf) → (takes_in a x).sectors ≡ x.sectors
unfolding takes_in
takes_sectors (Read s) x = refl
takes_sectors (Write s) x = refl
takes_sectors Flush x = refl
takes_sectors Size x = refl
takes_sectors (Add e) x = refl
takes_sectors (Replace d e) x = refl

pub answered_sectors : (k : ℕ) (a : Ask) (x : Shelf) → (answered k a x).sectors ≡ x.sectors
answered_sectors zero a x = takes_sectors a x
answered_sectors (suc k) a x = refl

pub told_sectors : (a : Ask) (r : Reply) (x : Shelf) → (told_of a r x).sectors ≡ x.sectors
unfolding told_of
told_sectors (Read s) r x = refl
told_sectors (Write s) r x = refl
told_sectors Flush r x = refl
told_sectors Size r x = refl
told_sectors (Add e) Done x = refl
told_sectors (Add e) Bytes x = refl
told_sectors (Add e) (Many n) x = refl
told_sectors (Add e) (No k) x = refl
told_sectors (Replace d e) Done x = refl
told_sectors (Replace d e) Bytes x = refl
told_sectors (Replace d e) (Many n) x = refl
told_sectors (Replace d e) (No k) x = refl

-- the same shelf, the same events
pub serving_same : {s : Store} {room : List ℕ} {x y : Shelf} {es fs : List Event} → Serving s room x es → y ≡ x → fs ≡ es → Serving s room y fs
serving_same {s} {room} {x} {y} {es} {fs} v p q =
    subst (λ (z : Shelf). Serving s room z fs) (sym p) (subst (λ (z : List Event). Serving s room x z) (sym q) v)

pub explained_same : {n m : ℕ} {es fs : List Event} → Explained can n es → m ≡ n → fs ≡ es → Explained can m fs
explained_same {n} {m} {es} {fs} v p q =
    subst (λ (k : ℕ). Explained can k fs) (sym p) (subst (λ (z : List Event). Explained can n z) (sym q) v)

pub explained : {s : Store} {room : List ℕ} {x : Shelf} {es : List Event} → Serving s room x es → Explained can x.sectors es
explained v = (v.h, v.stands.explains.run)

pub recoverable_same : {x y : Shelf} {es fs : List Event} → Recoverable x es → y ≡ x → fs ≡ es → Recoverable y fs
recoverable_same {x} {y} {es} {fs} v p q = subst (λ (z : Shelf). Recoverable z fs) (sym p) (subst (λ (z : List Event). Recoverable x z) (sym q) v)

pub lost_same : {x y : Shelf} {es fs : List Event} → Lost x es → y ≡ x → fs ≡ es → Lost y fs
lost_same {x} {y} {es} {fs} v p q = subst (λ (z : Shelf). Lost z fs) (sym p) (subst (λ (z : List Event). Lost x z) (sym q) v)

pub ticks_none : {es : List Event} → es ≡ [] → ticks es ≡ 0
unfolding ticks
ticks_none e = ap ticks e

pub ticks_said : (k t : ℕ) (a : Ask) (w : List ℕ) (es : List Event) → ticks (said k t a w ∷ es) ≡ ticks es
unfolding ticks
ticks_said zero t a w es = refl
ticks_said (suc k) t a w es = refl

pub ticks_told : (t : ℕ) (a : Ask) (r : Reply) (w : List ℕ) (es : List Event) → ticks (Told t a r w ∷ es) ≡ ticks es
unfolding ticks
ticks_told t a r w es = refl

pub ticks_turned : (es : List Event) → ticks (Turned ∷ es) ≡ suc (ticks es)
unfolding ticks
ticks_turned es = refl

pub ticks_back : {x z : Shelf} {es fs : List Event} → Back x (Cut ∷ es) z fs → ticks fs ≡ suc (ticks es)
unfolding ticks
ticks_back b = ticks_deaths (back_returned b).deaths

-- the shelf after what is asked was said
pub shelf_said : (k : ℕ) (a : Ask) (x y : Shelf) → (k ≡ 0 → y ≡ takes_in a x) → (0 < k → y ≡ x) → y ≡ answered k a x
shelf_said zero a x y p q = p refl
shelf_said (suc k) a x y p q = q (suc-le-suc zero-le)

-- after it: x and es before, y and fs as noted
pub said_serving : {s : Store} {room : List ℕ} {x y : Shelf} {es fs : List Event} (k t : ℕ) (a : Ask) (w : List ℕ) → Serving s room (answered k a x) (said k t a w ∷ es) →
    fs ≡ said k t a w ∷ es → (k ≡ 0 → y ≡ takes_in a x) → (0 < k → y ≡ x) → Serving s room y fs
said_serving {s} {room} {x} {y} k t a w v e p q = serving_same v (shelf_said k a x y p q) e

-- what a turn left, by what it brought
module _ (words : List ℕ) (s : Store) (room : List ℕ) (x : Shelf) (es : List Event) where
  pub after_some : (o : Option Ended) (e : Ended) → o ≡ Some e → AfterTurn (Ok o) words s room x es → Telling e words s room x es
  after_some o e p v = subst (λ (q : Option Ended). AfterTurn (Ok q) words s room x es) p v

  pub after_none : (o : Option Ended) → o ≡ None → AfterTurn (Ok o) words s room x es → Serving s room x (Turned ∷ es)
  after_none o p v = (subst (λ (q : Option Ended). AfterTurn (Ok q) words s room x es) p v).goes

-- the bound on generations
pub grows : (n turns k : ℕ) → k ≤ n * (turns + 1) + turns → suc k ≤ (n + 1) * (turns + 1)
grows n turns k h = omega (arith, add-mul n 1 (turns + 1))

pub few_ticks : (n lives turns k : ℕ) → n < lives → lives < 1048576 → turns < 1099511627776 → k ≤ n * (turns + 1) → k + turns < 4611686018427387904
few_ticks n lives turns k a b c d =
    let most : n * (turns + 1) ≤ 1048576 * 1099511627776 = mul-le-mul (let p : n ≤ 1048576 = omega arith in p) (let p : turns + 1 ≤ 1099511627776 = omega arith in p) in omega arith
