-- A sector is 64 words, so 512 elements of the field. P and Q of data columns are said here element by element.
-- Assumes nothing.
use Rattle.std.specs.Prelude.{◌≡◌, ℕ, zero, suc, ◌+◌, ◌^◌, ◌<◌, List, [], ◌∷◌, length, replicate, slice_index}
use Rattle.field.specs.Field.{sum, product, power}
use Rattle.field.specs.Word.{byte}

-- what a column has at one place of the disks: its words
abbrev pub Sector : Type 0
Sector = List ℕ

-- a sector of which every word is 0
abbrev pub noughts : Sector
noughts = replicate 64 0

-- 64 words of 64 bits
pub record Good (s : Sector) : Type 0 where
  pub long : length s ≡ 64
  pub words : (w : ℕ) → slice_index s w < 2 ^ 64

-- element b of word w
abbrev pub byte_at : ℕ → ℕ → Sector → ℕ
byte_at w b s = byte b (slice_index s w)

-- f 0 + f 1 + .. + f (n - 1), in the field
abbrev pub total : ℕ → (ℕ → ℕ) → ℕ
total zero f = 0
total (suc n) f = sum (total n f) (f n)

-- s is the sum of the n columns d 0, d 1, .., of whose elements column j's are taken by f j
pub record IsSum (f : ℕ → ℕ → ℕ) (n : ℕ) (d : ℕ → Sector) (s : Sector) : Type 0 where
  pub good : Good s
  pub bytes : (w b : ℕ) → w < 64 → b < 8 → byte_at w b s ≡ total n (λ j. f j (byte_at w b (d j)))

-- an element of column j as it is, and times 2^j
abbrev pub plain : ℕ → ℕ → ℕ
plain j v = v

abbrev pub raised : ℕ → ℕ → ℕ
raised j v = product (power j) v

-- p is P of them: their sum
abbrev pub IsP : ℕ → (ℕ → Sector) → Sector → Type 0
IsP n d p = IsSum plain n d p

-- q is Q of them: the sum of column j times 2^j
abbrev pub IsQ : ℕ → (ℕ → Sector) → Sector → Type 0
IsQ n d q = IsSum raised n d q

-- ---- what the code does with whole words

-- two sectors added word by word; of the longer one the rest stays
unfoldable pub add : Sector → Sector → Sector
add [] t = t
add (x ∷ s) [] = x ∷ s
add (x ∷ s) (y ∷ t) = sum x y ∷ add s t

-- p = a + b and q = 2^x · a + 2^y · b
pub record Rests (x y : ℕ) (a b p q : Sector) : Type 0 where
  pub good_p : Good p
  pub good_q : Good q
  pub in_p : (w e : ℕ) → w < 64 → e < 8 → byte_at w e p ≡ sum (byte_at w e a) (byte_at w e b)
  pub in_q : (w e : ℕ) → w < 64 → e < 8 → byte_at w e q ≡ sum (product (power x) (byte_at w e a)) (product (power y) (byte_at w e b))

-- from such p and q the two, whichever they are
abbrev pub Solves : ℕ → ℕ → (p q p' q' : Sector) → Type 0
Solves x y p q p' q' = (a b : Sector) → Good a → Good b → Rests x y a b p q → (p' ≡ a) × (q' ≡ b)

-- ---- laws

-- a column of noughts changes neither P nor Q
abbrev pub NoughtsChangeNothing : Type 0
NoughtsChangeNothing =
    (n : ℕ) (d : ℕ → Sector) → d n ≡ noughts
    → ((p : Sector) → IsP n d p → IsP (n + 1) d p) × ((q : Sector) → IsQ n d q → IsQ (n + 1) d q)

-- P and Q don't depend on what lies behind the last column
abbrev pub NothingBehind : Type 0
NothingBehind =
    (n : ℕ) (d e : ℕ → Sector) → ((j : ℕ) → j < n → d j ≡ e j)
    → ((p : Sector) → IsP n d p → IsP n e p) × ((q : Sector) → IsQ n d q → IsQ n e q)

-- there is one P of some columns, and one Q
abbrev pub OnlyOne : Type 0
OnlyOne =
    (n : ℕ) (d : ℕ → Sector)
    → ((p r : Sector) → IsP n d p → IsP n d r → p ≡ r) × ((q r : Sector) → IsQ n d q → IsQ n d r → q ≡ r)
