-- The superblock: what it says, and the 64 words that say it.
-- Assumes nothing.
use Rattle.std.specs.Prelude.{◌≡◌, ℕ, ◌+◌, ◌-◌, ◌^◌, ◌<◌, ◌≤◌, cond, List, [], ◌∷◌, ◌++◌, length, take, drop, replicate, Some, None, Option, ◌==◌, slice_index}
use Rattle.layout.specs.declared.superblock.Rebuild.{Rebuild}
use Rattle.layout.specs.declared.superblock.Superblock.{Superblock}
use Rattle.layout.specs.Members.{Roster, Absent}

-- What a superblock says: its number, the members in their places, the disk that is being filled, and the stripe that lies in the journal.
pub record Super : Type 0 where
  pub generation : ℕ
  pub members : List ℕ
  pub rebuild : Option Rebuild
  pub journal : Option ℕ

-- the superblock of a blank shelf
abbrev pub blank : Super
blank = record { generation = 0; members = 0 ∷ 1 ∷ 2 ∷ 3 ∷ []; rebuild = None; journal = None }

-- what a superblock in memory says
abbrev pub says : Superblock → Super
says b = record { generation = b.generation; members = b.members.list; rebuild = b.rebuild; journal = b.journal }

-- the first word of a sector that is a superblock: "nultsjef" in ASCII
abbrev pub mark : ℕ
mark = 0x6e75_6c74_736a_6566

-- is a disk being filled, for which place, which disk, and how many stripes it has
abbrev pub rebuild_words : Option Rebuild → List ℕ
rebuild_words None = 0 ∷ 0 ∷ 0 ∷ 0 ∷ []
rebuild_words (Some r) = 1 ∷ r.place ∷ r.disk ∷ r.done ∷ []

-- one more than the stripe in the journal, or nought
abbrev pub journal_word : Option ℕ → ℕ
journal_word None = 0
journal_word (Some r) = r + 1

-- the words 0 to 7
abbrev pub heading : Super → List ℕ
heading S = mark ∷ S.generation ∷ length S.members ∷ (rebuild_words S.rebuild ++ (journal_word S.journal ∷ []))

-- the 64 words of a superblock: the heading, the members, and noughts
abbrev pub words_of : Super → List ℕ
words_of S = heading S ++ (S.members ++ replicate (56 - length S.members) 0)

-- the disk that is being filled, and the stripe in the journal, as 64 words have them
abbrev pub rebuild_of : List ℕ → Option Rebuild
rebuild_of b = cond (slice_index b 3 == 0) None (Some (record { place = slice_index b 4; disk = slice_index b 5; done = slice_index b 6 }))

abbrev pub journal_of : List ℕ → Option ℕ
journal_of b = cond (slice_index b 7 == 0) None (Some (slice_index b 7 - 1))

-- what 64 words say: a sector without the mark, as one of noughts, is a blank shelf's superblock
unfoldable pub super_of : List ℕ → Super
super_of b =
    cond (slice_index b 0 == mark) (record { generation = slice_index b 1; members = take (slice_index b 2) (drop 8 b); rebuild = rebuild_of b; journal = journal_of b }) blank

-- The disk that is being filled is no member, and its place is a member's or the one behind the last.
abbrev pub Joins : Option Rebuild → List ℕ → Type 0
Joins None ds = Unit {0}
Joins (Some r) ds = (r.place ≤ length ds) × (r.place < 12) × (r.disk < 16) × Absent r.disk ds × (0 < r.done)

-- the stripe's number leaves room for one more
abbrev pub Numbered : Option ℕ → Type 0
Numbered None = Unit {0}
Numbered (Some r) = r + 1 < 2 ^ 64

-- a superblock that the store may have
pub record Proper (S : Super) : Type 0 where
  pub roster : Roster S.members
  pub joins : Joins S.rebuild S.members
  pub numbered : Numbered S.journal

-- What was written down is read again.
abbrev pub ReadAgain : Type 0
ReadAgain = (S : Super) → length S.members ≤ 12 → super_of (words_of S) ≡ S
