-- What holds between turns, where the power has gone, and where it has just come back: what `open`, `ask` and `turn` hand on to one another.
-- Assumes nothing.
use Rattle.std.specs.Prelude.{◌≡◌, ℕ, zero, suc, ◌+◌, ◌*◌, ◌%◌, ◌<◌, ◌≤◌, true, false, T, List, [], ◌∷◌, length, Some, None, Ok, Err, Option, Result, ◌≢◌}
use Rattle.field.specs.Stripe.{column}
use Rattle.layout.specs.Super.{Super, says}
use Rattle.store.specs.Event.{Event, Died, Asked, Refused, Told, Turned, Cut}
use Rattle.store.specs.Shelf.{Shelf, takes_in, told_of}
use Rattle.store.specs.Store.{Seen, Free, Over, Run, Explained, size_of, starts_with, core}
use Rattle.store.specs.Promise.{can}
use Rattle.store.specs.Keeping.{Columns, Torn, Ready}
use Rattle.store.specs.Writes.{MarksTrue}
use Rattle.store.specs.Sectors.{sector_of, Coded}
use Rattle.store.specs.Tags.{at, Entry, Waits}
use Rattle.store.specs.declared.Ask.{Ask}
use Rattle.store.specs.declared.Reply.{Reply}
use Rattle.store.specs.declared.Store.{Store}
use Rattle.store.specs.declared.Gone.{Gone}
use Rattle.store.specs.declared.Ended.{Ended}
use Rattle.store.specs.declared.Stop.{Stop}
use Rattle.store.specs.declared.Stop.TheVariants as stop

-- turns and cuts: what a generation grows with
unfoldable pub ticks : List Event → ℕ
ticks [] = 0
ticks (Died d ∷ es) = ticks es
ticks (Asked t a w ∷ es) = ticks es
ticks (Refused t a w k ∷ es) = ticks es
ticks (Told t a r w ∷ es) = ticks es
ticks (Turned ∷ es) = suc (ticks es)
ticks (Cut ∷ es) = suc (ticks es)

-- what is seen is what the columns hold: the members, and each sector's last content
pub record Matches (n : ℕ) (S : Super) (c : Columns) (h : Seen) : Type 0 where
  pub disks : h.disks ≡ S.members
  pub content : (s : ℕ) → h.content s (h.count s) ≡ sector_of n s c

-- All that was seen can be explained by a store that keeps the columns c under S, whose generation is no more than k above two for each turn and cut.
pub record Explains (n k : ℕ) (es : List Event) (S : Super) (c : Columns) (h : Seen) : Type 0 where
  pub run : Run can n es h
  pub matches : Matches n S c h
  pub coded : Coded (length S.members) c
  pub idle : S.rebuild ≡ None
  pub early : S.generation ≤ 2 * ticks es + k

-- The power has gone: what a cut may leave is one of two, and each explains what was seen.
pub record Lost (x : Shelf) (es : List Event) : Type 0 where
  pub off : x.on ≡ false
  pub S : Super
  pub c : Columns
  pub h : Seen
  pub S' : Super
  pub c' : Columns
  pub h' : Seen
  pub torn : Torn x S c S' c'
  pub one : Explains x.sectors 2 es S c h
  pub two : Explains x.sectors 2 es S' c' h'

-- It has come back: what is found is one of two, each explains what was seen, and nothing is under way.
pub record Recoverable (x : Shelf) (es : List Event) : Type 0 where
  pub lit : x.on ≡ true
  pub S : Super
  pub c : Columns
  pub h : Seen
  pub S' : Super
  pub c' : Columns
  pub h' : Seen
  pub torn : Torn x S c S' c'
  pub one : Explains x.sectors 0 es S c h
  pub two : Explains x.sectors 0 es S' c' h'
  pub quiet : (t : ℕ) → (h.way t ≡ Free) × (h'.way t ≡ Free)

-- The power is on, the superblock in memory is in force, every stripe is in its place, and that explains what was seen.
pub record Standing (s : Store) (x : Shelf) (k : ℕ) (es : List Event) (c : Columns) (h : Seen) : Type 0 where
  pub lit : x.on ≡ true
  pub ready : Ready x (says s.superblock) c
  pub marks : MarksTrue x s.superblock.members
  pub same : s.sectors ≡ x.sectors
  pub explains : Explains x.sectors k es (says s.superblock) c h

-- what is under way is in the table and in the room, and none waits too long
pub record Table (s : Store) (room : List ℕ) (n : ℕ) (h : Seen) : Type 0 where
  pub in_turn : s.tags.cursor.number < 8
  pub entries : (t : ℕ) → t < 8 → Entry (at s.tags.asked t) (column t room) (size_of n h) (h.way t)
  pub waits : (j : ℕ) → j < 8 → Waits (h.way ((s.tags.cursor.number + j) % 8)) j

-- between turns
pub record Serving (s : Store) (room : List ℕ) (x : Shelf) (es : List Event) : Type 0 where
  pub c : Columns
  pub h : Seen
  pub stands : Standing s x 0 es c h
  pub table : Table s room x.sectors h

-- what is asked for is in use if it isn't turned away
abbrev pub answered : ℕ → Ask → Shelf → Shelf
answered zero a x = takes_in a x
answered (suc k) a x = x

-- What was asked under tag t is done, in a turn that began where h was seen; it is to be told, with these words.
pub record Performed (a : Ask) (r : Reply) (t : ℕ) (words : List ℕ) (s : Store) (h : Seen) (x : Shelf) (es : List Event) : Type 0 where
  pub c : Columns
  pub h' : Seen
  pub stands : Standing s x 2 es c h'
  pub back : List ℕ
  pub age : ℕ
  pub young : age ≤ 7
  pub built : T (core a)
  pub way : h'.way t ≡ Over a r back age
  pub starts : T (starts_with back words)
  pub others : (u : ℕ) → (u ≢ t) → h'.way u ≡ h.way u
  pub disks : h'.disks ≡ h.disks

-- what a turn leaves in which nothing is told, or e is: x and es are the shelf and what was seen as it ends
pub record Quiet (s : Store) (room : List ℕ) (x : Shelf) (es : List Event) : Type 0 where
  pub goes : Serving s room x (Turned ∷ es)

pub record Telling (e : Ended) (words : List ℕ) (s : Store) (room : List ℕ) (x : Shelf) (es : List Event) : Type 0 where
  pub turned : Explained can x.sectors (Turned ∷ es)
  pub goes : Serving s room (told_of e.ask e.reply x) (Told e.tag e.ask e.reply words ∷ Turned ∷ es)

abbrev pub Opened : Result Store Gone → (room : List ℕ) → Shelf → List Event → Type 0
Opened (Ok s) room x es = Serving s room x es
Opened (Err g) room x es = Lost x es

abbrev pub AfterTurn : Result (Option Ended) Gone → (words : List ℕ) → Store → (room : List ℕ) → Shelf → List Event → Type 0
AfterTurn (Ok None) words s room x es = Quiet s room x es
AfterTurn (Ok (Some e)) words s room x es = Telling e words s room x es
AfterTurn (Err g) words s room x es = Lost x es

abbrev pub Stopped : Stop → Shelf → List Event → Type 0
Stopped stop.Dark x es = Lost x es
Stopped stop.Over x es = Unit {0}
