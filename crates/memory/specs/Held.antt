-- What the memory of the disks stands for: a shelf.
-- Sector s of disk d is the cell at place 16 s + d. Of the cells the first `written` also hold a list: the places of those that were
-- written since the last sync, each once. A cell says where in the list its own place stands, if it stands there at all.
use Rattle.std.specs.Prelude.{◌≡◌, ℕ, ◌+◌, ◌*◌, ◌/◌, ◌<◌, Bool, true, false, cond, not, ◌&&◌, ◌||◌, List, [], ◌∷◌, length, get_or, replicate, ◌==◌, ◌≢◌, nat_le, nat_lt, slice_index_or}
use mathlib.Core.List.{Memᴰ}
use Rattle.store.specs.Shelf.{Shelf}
use Rattle.memory.specs.declared.Cell.{Cell}
use Rattle.memory.specs.declared.Disk.{Disk}
use Rattle.memory.specs.declared.Memory.{Memory}
use Rattle.memory.specs.declared.State.{State}
use Rattle.memory.specs.declared.diary.Diary.{Diary}
use Rattle.memory.specs.declared.platter.Platter.{Platter}

abbrev pub noughts : List ℕ
noughts = replicate 64 0

-- what stands for a cell that there isn't
abbrev pub empty : Cell
empty = record { shown = []; lasting = []; slot = 0; listed = 0 }

abbrev pub blank : Cell
blank = record { shown = noughts; lasting = noughts; slot = 0; listed = 0 }

-- the cell at place k
abbrev pub cell_at : Platter → ℕ → Cell
cell_at p k = get_or p.cells.now k empty

-- was the cell at place k written since the last sync
abbrev pub waits : Platter → ℕ → Bool
waits p k = (nat_lt (cell_at p k).slot p.written && nat_lt (cell_at p k).slot (length p.cells.now)) && (cell_at p (cell_at p k).slot).listed == k

-- what a cut may leave of the cell at place k: what is shown, and what was there at the last sync
abbrev pub may_of : Platter → ℕ → List (List ℕ)
may_of p k = (cell_at p k).shown ∷ cond (waits p k) ((cell_at p k).lasting ∷ []) []

-- what lasts of the cell at place k when it is written over: what was there at the last sync, or what is shown, if that is to last at once
abbrev pub before_of : Platter → ℕ → Bool → List ℕ
before_of p k once = cond (waits p k && not once) (cell_at p k).lasting (cell_at p k).shown

-- Something was written at place k: s is shown there from then on, l is what lasts of it meanwhile, and all others are as they were.
pub record Laid (p : Platter) (k : ℕ) (s l : List ℕ) (q : Platter) : Type 0 where
  pub size : length q.cells.now ≡ length p.cells.now
  pub here : (cell_at q k).shown ≡ s
  pub kept : p.written < length p.cells.now → ((cell_at q k).lasting ≡ l) × (waits q k ≡ true)
  pub may : (c : List ℕ) → Memᴰ c (may_of q k) → Memᴰ c (s ∷ (l ∷ []))
  pub others : (j : ℕ) → (j ≢ k) → ((cell_at q j).shown ≡ (cell_at p j).shown) × (may_of q j ≡ may_of p j)

-- all is noughts, and nothing was written
pub record Cleared (p : Platter) : Type 0 where
  pub blanks : (k : ℕ) → k < length p.cells.now → cell_at p k ≡ blank
  pub unwritten : p.written ≡ 0

abbrev pub many : Platter → ℕ
many p = length p.cells.now / 16

-- is there such a sector
abbrev pub inside : Platter → ℕ → ℕ → Bool
inside p d s = nat_lt d 16 && nat_lt s (many p)

abbrev pub shown_at : Platter → ℕ → ℕ → List ℕ
shown_at p d s = cond (inside p d s) (cell_at p (s * 16 + d)).shown noughts

abbrev pub may_at : Platter → ℕ → ℕ → List (List ℕ)
may_at p d s = cond (inside p d s) (may_of p (s * 16 + d)) (noughts ∷ [])

-- there is no room in the log to note a cut
abbrev pub full : Diary → Bool
full d = nat_le (length d.words.now) d.noted

-- where there is no room to note a cut, the power stays
abbrev pub lit : Diary → State → Bool
lit d x = x.on || full d

-- what stands for a disk that there isn't
abbrev pub no_disk : Disk
no_disk = record { alive = false; in_use = false; lost = false }

abbrev pub disk_at : State → ℕ → Disk
disk_at x d = slice_index_or x.disks d no_disk

-- the shelf of disks that hold this, in this state, while so much was seen
abbrev pub shelf_with : Platter → Diary → State → Shelf
shelf_with p d x =
    record { sectors = many p; shown = shown_at p; may = may_at p; alive = λ e. (disk_at x e).alive; uses = λ e. (disk_at x e).in_use; lost = λ e. (disk_at x e).lost; on = lit d x; left = x.left }

abbrev pub shelf_of : Memory → Shelf
shelf_of m = shelf_with m.platter m.diary m.state

-- a disk as all starts, in use or not
abbrev pub fresh : Bool → Disk
fresh used = record { alive = true; in_use = used; lost = false }

-- the state as all starts
abbrev pub start : State
start = record { disks = fresh true ∷ (fresh true ∷ (fresh true ∷ (fresh true ∷ replicate 12 (fresh false)))); on = true; left = 0 }
