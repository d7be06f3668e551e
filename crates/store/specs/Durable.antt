-- What is known of the disks from one moment to a later one, however many of them die: what they show, what a cut may leave, what was seen.
-- Everything above the disks speaks of them in these words alone.
-- Assumes nothing.
use Rattle.std.specs.Prelude.{◌≡◌, ℕ, ◌+◌, ◌<◌, ◌≤◌, Bool, true, false, T, ◌⊎◌, List, [], ◌∷◌, Ok, Result, is_ok}
use mathlib.Core.List.{Memᴰ}
use Rattle.store.specs.declared.Answer.{Answer}
use Rattle.store.specs.declared.Answer.TheVariants.{Fine, Dead, Dark}
use Rattle.store.specs.declared.Gone.{Gone}
use Rattle.store.specs.Event.{Event, Died}
use Rattle.store.specs.Shelf.{Shelf, weak}

-- what a disk's answer is to who asked: it lives, it is dead, or the power has gone
abbrev pub Lives : Answer → Result Bool Gone → Type 0
Lives Fine r = r ≡ Ok true
Lives Dead r = r ≡ Ok false
Lives Dark r = is_ok r ≡ false

-- all that a read may give at s of d, now or after a cut
abbrev pub found : Shelf → ℕ → ℕ → List (List ℕ)
found x d s = x.shown d s ∷ x.may d s

-- While disk d is alive, whatever is at s, now or after a cut, is P.
abbrev pub Among : Shelf → ℕ → ℕ → (List ℕ → Type 0) → Type 0
Among x d s P = T (x.alive d) → (b : List ℕ) → Memᴰ b (found x d s) → P b

-- While disk d is alive, it shows b at s. After a cut it may not.
abbrev pub Shows : Shelf → ℕ → ℕ → List ℕ → Type 0
Shows x d s b = T (x.alive d) → x.shown d s ≡ b

-- a cut leaves what is shown
abbrev pub Settled : Shelf → Type 0
Settled x = (d s : ℕ) (b : List ℕ) → Memᴰ b (x.may d s) → b ≡ x.shown d s

-- Disks that were lost are in use, and no more than two are.
pub record Steady (x : Shelf) : Type 0 where
  pub few : weak x ≤ 2
  pub used : (d : ℕ) → T (x.lost d) → T (x.uses d)

-- a disk that is in use, and counts as lost if it is dead
pub record Employed (x : Shelf) (d : ℕ) : Type 0 where
  pub there : d < 16
  pub used : T (x.uses d)
  pub owed : x.alive d ≡ false → T (x.lost d)

-- nothing is written
abbrev pub Nowhere : (d s : ℕ) → List ℕ → Type 0
Nowhere d s b = ⊥

-- b is written at s of d, and nothing else
abbrev pub Here : ℕ → ℕ → List ℕ → (d s : ℕ) → List ℕ → Type 0
Here d s b e t c = (e ≡ d) × (t ≡ s) × (c ≡ b)

-- these disks died, the latest first
unfoldable pub fell : List ℕ → List Event → List Event
fell [] es = es
fell (d ∷ ds) es = Died d ∷ fell ds es

-- From x, where es was seen, to y, where fs was, nothing was seen but that disks died.
pub record Deaths (x : Shelf) (es : List Event) (y : Shelf) (fs : List Event) : Type 0 where
  pub size : y.sectors ≡ x.sectors
  pub uses : (d : ℕ) → y.uses d ≡ x.uses d
  pub falls : (d : ℕ) → T (y.alive d) → T (x.alive d)
  pub steady : Steady x → Steady y
  pub employed : (d : ℕ) → Employed x d → Employed y d
  pub more : List ℕ
  pub tale : fs ≡ fell more es
  pub noted : (d : ℕ) → T (x.alive d) → y.alive d ≡ false → Memᴰ d more

-- The same, the disks were asked n times at most, and written only as W says: W d s b is that b may have been written at s of d.
pub record Went (n : ℕ) (W : (d s : ℕ) → List ℕ → Type 0) (x : Shelf) (es : List Event) (y : Shelf) (fs : List Event) : Type 0 where
  pub deaths : Deaths x es y fs
  pub spent : x.left ≤ y.left + n
  pub grows : (d s : ℕ) (b : List ℕ) → T (y.alive d) → Memᴰ b (found y d s) → Memᴰ b (found x d s) ⊎ W d s b
  pub stays : (d s : ℕ) → ((b : List ℕ) → W d s b → ⊥) → y.shown d s ≡ x.shown d s

-- the power is on, the disk lives or not, and if it does then b is what it shows
pub record Heard (d s : ℕ) (b : List ℕ) (lives : Bool) (y : Shelf) : Type 0 where
  pub lit : y.on ≡ true
  pub alive : y.alive d ≡ lives
  pub shows : T lives → b ≡ y.shown d s

-- the power is on, the disk lives or not, and if it does then it shows b
pub record Wrote (d s : ℕ) (b : List ℕ) (lives : Bool) (y : Shelf) : Type 0 where
  pub lit : y.on ≡ true
  pub alive : y.alive d ≡ lives
  pub shows : Shows y d s b

-- the power is on, and all that is shown lasts
pub record Synced (y : Shelf) : Type 0 where
  pub lit : y.on ≡ true
  pub settled : Settled y

-- the power came back: disks may have died meanwhile, and what is found is what the cut may have left
pub record Returned (x : Shelf) (es : List Event) (z : Shelf) (fs : List Event) : Type 0 where
  pub deaths : Deaths x es z fs
  pub lit : z.on ≡ true
  pub settled : Settled z
  pub leaves : (d s : ℕ) (b : List ℕ) → d < 16 → s < z.sectors → Memᴰ b (found z d s) → Memᴰ b (x.may d s)
