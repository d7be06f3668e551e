-- A word of 64 bits is eight elements side by side, and what is done to it here is done to each of them apart.
-- Assumes nothing.
use Rattle.std.specs.Prelude.{◌≡◌, ℕ, ◌*◌, ◌/◌, ◌%◌, ◌^◌, ◌<◌, bit_and}
use Rattle.field.specs.Field.{sum, double, product_by, product}

-- element b of a word, the lowest first
abbrev pub byte : ℕ → ℕ → ℕ
byte b v = v / 2 ^ (8 * b) % 256

-- c has a 1 in each element from which an x^8 came out: x^4 + x^3 + x^2 + 1 there
abbrev pub carried : ℕ → ℕ
carried c = sum c (sum (c * 4) (sum (c * 8) (c * 16)))

-- each element twice
unfoldable pub double8 : ℕ → ℕ
double8 v = sum (bit_and v 0x7f7f_7f7f_7f7f_7f7f * 2) (carried (bit_and (v / 128) 0x0101_0101_0101_0101))

-- each element times c
abbrev pub product8 : ℕ → ℕ → ℕ
product8 c v = product_by double8 8 c v

-- the law: element by element, words are added, doubled and multiplied as the field's elements are
pub record EightElements : Type 0 where
  pub sums : (u v b : ℕ) → byte b (sum u v) ≡ sum (byte b u) (byte b v)
  pub doubles : (v : ℕ) → v < 2 ^ 64 → (b : ℕ) → b < 8 → byte b (double8 v) ≡ double (byte b v)
  pub products : (c v : ℕ) → v < 2 ^ 64 → (b : ℕ) → b < 8 → byte b (product8 c v) ≡ product c (byte b v)
  -- a word is known by its elements
  pub same : (u v : ℕ) → u < 2 ^ 64 → v < 2 ^ 64 → ((b : ℕ) → b < 8 → byte b u ≡ byte b v) → u ≡ v
