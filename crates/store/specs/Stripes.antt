-- A stripe on the members of a store: loaded from any sector, read in part, and written, all columns or some.
-- Assumes nothing.
use Rattle.std.specs.Prelude.{◌≡◌, ℕ, ◌<◌, Bool, true, false, T, List, length, Some, None, Option, slice_index, slice_index_or}
use Rattle.field.specs.Stripe.{held, Codeword, Lies}
use Rattle.field.specs.Missing.{Known}
use Rattle.field.specs.declared.missing.Missing.{Missing}
use Rattle.field.specs.declared.missing.Missing.TheVariants.{Nothing, One, Two}
use Rattle.layout.specs.Places.{place, index}
use Rattle.layout.specs.Members.{Roster, Membership, marked, with_mark}
use Rattle.layout.specs.declared.members.Marks.{Marks}
use Rattle.store.specs.Event.{Event}
use Rattle.store.specs.Shelf.{Shelf, count}
use Rattle.layout.specs.Super.{Super}
use Rattle.store.specs.Durable.{Shows, Steady, Employed, Nowhere, Went}
use Rattle.layout.specs.declared.superblock.Rebuild.{Rebuild}
use Rattle.store.specs.declared.stripe.Share.{Share}
use Rattle.store.specs.Keeping.{Fills, Holds}

-- the members can be asked: they are 4 to 12 disks, no disk twice, each is in use, no more than two are lost, and those that are marked are dead
pub record Serving (x : Shelf) (m : Membership) : Type 0 where
  pub roster : Roster m.list
  pub steady : Steady x
  pub employed : (p : ℕ) → p < length m.list → Employed x (slice_index m.list p)
  pub marks : (p : ℕ) → p < length m.list → T (marked m.dead p) → x.alive (slice_index m.list p) ≡ false

-- each member shows its column of c at sector s, as stripe r has it
abbrev pub Shown : Shelf → List ℕ → ℕ → ℕ → (ℕ → List ℕ) → Type 0
Shown x ds s r c = (p : ℕ) → p < length ds → Shows x (slice_index ds p) s (c (index p r))

-- the disk that has column i of stripe r
abbrev pub disk_of : List ℕ → ℕ → ℕ → ℕ
disk_of ds r i = slice_index ds (place i r)

-- a member was asked, or known to be dead: if it lives, b is what it shows
pub record Answered (d s : ℕ) (b : List ℕ) (lives : Bool) (x y : Shelf) : Type 0 where
  pub lit : x.on ≡ true → y.on ≡ true
  pub alive : y.alive d ≡ lives
  pub shows : T lives → b ≡ y.shown d s

-- P of each column that is missing
abbrev pub Each : Missing → (ℕ → Type 0) → Type 0
Each Nothing P = Unit {0}
Each (One a) P = P a
Each (Two a b) P = P a × P b

-- the first n columns were asked for: those that were read are there, the others are on dead disks
pub record Loading (n : ℕ) (m : Missing) (ds : List ℕ) (s r : ℕ) (stripe : List (List ℕ)) (x : Shelf) (es : List Event) (y : Shelf) (fs : List Event) : Type 0 where
  pub went : Went n Nowhere x es y fs
  pub lit : x.on ≡ true → y.on ≡ true
  pub known : Known n m (λ e. T (x.alive (disk_of ds r e)) × (held stripe e ≡ x.shown (disk_of ds r e) s)) (λ e. y.alive (disk_of ds r e) ≡ false)

-- All columns of whatever codeword the members show are there, whichever two are dead; each member was asked at most once.
pub record Loaded (m : Missing) (ds : List ℕ) (s r : ℕ) (stripe : List (List ℕ)) (x y : Shelf) : Type 0 where
  pub lit : x.on ≡ true → y.on ≡ true
  pub dead : Each m (λ i. (i < length ds) × (y.alive (disk_of ds r i) ≡ false))
  pub whole : (c : ℕ → List ℕ) → Codeword (length ds) c → Shown x ds s r c → Lies (length ds) (held stripe) c

-- column i of whatever codeword the members show
pub record Read (m : Missing) (ds : List ℕ) (s r i : ℕ) (words : List ℕ) (x y : Shelf) : Type 0 where
  pub lit : x.on ≡ true → y.on ≡ true
  pub dead : Each m (λ i. (i < length ds) × (y.alive (disk_of ds r i) ≡ false))
  pub column_is : (c : ℕ → List ℕ) → Codeword (length ds) c → Shown x ds s r c → words ≡ c i

-- which places are known to be dead once these columns of stripe r were missing
abbrev pub learned : Marks → Missing → ℕ → Marks
learned m Nothing r = m
learned m (One a) r = with_mark m (place a r)
learned m (Two a b) r = with_mark (with_mark m (place a r)) (place b r)

-- a selected column of the stripe, to its disk at s, and nothing else
abbrev pub Spread : (ℕ → Bool) → List ℕ → ℕ → ℕ → (ℕ → List ℕ) → (d s : ℕ) → List ℕ → Type 0
Spread sel ds s r h d t b = (t ≡ s) × ((i : ℕ) × ((i < length ds) × T (sel i) × (d ≡ disk_of ds r i) × (b ≡ h i)))

-- of the first n columns h the selected ones were written, each by one ask, and are shown
pub record Storing (n : ℕ) (sel : ℕ → Bool) (ds : List ℕ) (s r : ℕ) (h : ℕ → List ℕ) (x : Shelf) (es : List Event) (y : Shelf) (fs : List Event) : Type 0 where
  pub went : Went (count n sel) (Spread sel ds s r h) x es y fs
  pub lit : x.on ≡ true → y.on ≡ true
  pub shows : (i : ℕ) → i < n → T (sel i) → Shows y (disk_of ds r i) s (h i)

-- a selected column at sector s of a disk that holds its place of stripe r, and nothing else
abbrev pub Held : (ℕ → Bool) → Super → ℕ → ℕ → (d s : ℕ) → List ℕ → Type 0
Held sel S s r d t b = (t ≡ s) × ((p : ℕ) × (Holds S d p r × T (sel (index p r))))

-- all that hold stripe r show its selected columns h at sector s
abbrev pub Stored : (ℕ → Bool) → Super → ℕ → ℕ → (ℕ → List ℕ) → Shelf → Type 0
Stored sel S s r h y = (d p : ℕ) → Holds S d p r → T (sel (index p r)) → Shows y d s (h (index p r))

-- which columns are selected
abbrev pub chosen : List Bool → ℕ → Bool
chosen bs i = slice_index_or bs i false

-- one ask more while a disk is being filled
abbrev pub extra : Option Rebuild → ℕ
extra None = 0
extra (Some b) = 1

-- the disk that is being filled, if it has stripe r already: its number, and the column that it holds
abbrev pub FillsWith : Option Share → Option Rebuild → ℕ → Type 0
FillsWith None R r = (d p : ℕ) → Fills R d p r → ⊥
FillsWith (Some f) R r = (p : ℕ) × (Fills R f.disk p r × (f.column ≡ index p r) × (p < 12) × ((d q : ℕ) → Fills R d q r → d ≡ f.disk))
