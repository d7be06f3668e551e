-- A stripe of k columns: column 0 is P, 1 is Q, and 2 + j is data column j. Behind the k columns that there are all count as noughts.
-- Assumes nothing.
use Rattle.std.specs.Prelude.{◌≡◌, ℕ, ◌+◌, ◌-◌, ◌*◌, ◌<◌, ◌≤◌, ◌≢◌, List, [], ◌∷◌, length, take, drop, replicate, slice_index, slice_index_or}
use Rattle.field.specs.Field.{sum, product, power}
use Rattle.field.specs.Column.{Sector, noughts, Good, byte_at, total, IsP, IsQ}

-- c's data columns
abbrev pub data_of : (ℕ → Sector) → ℕ → Sector
data_of c j = c (2 + j)

-- c is a codeword: its P and Q are those of its data
pub record Codeword (k : ℕ) (c : ℕ → Sector) : Type 0 where
  pub good : (i : ℕ) → Good (c i)
  pub beyond : (i : ℕ) → k ≤ i → c i ≡ noughts
  pub parity_p : IsP (k - 2) (data_of c) (c 0)
  pub parity_q : IsQ (k - 2) (data_of c) (c 1)

-- a stripe has 4 to 12 columns
abbrev pub Few : ℕ → Type 0
Few k = (4 ≤ k) × (k ≤ 12)

-- ---- a stripe that is held: a column for each number

-- the stripe that lies in a slice of columns
unfoldable pub held : List Sector → ℕ → Sector
held s i = slice_index_or s i noughts

-- column i of a stripe in a slice of words, one column behind the other
abbrev pub column : ℕ → List ℕ → Sector
column i s = take 64 (drop (64 * i) s)

-- the columns cs are those of a stripe of k in the words s
pub record Cut (k : ℕ) (s : List ℕ) (cs : List Sector) : Type 0 where
  pub few : Few k
  pub words : length s ≡ 64 * k
  pub long : length cs ≡ k
  pub same : (i : ℕ) → i < k → held cs i ≡ column i s

-- s has c's columns
abbrev pub Lies : ℕ → (s c : ℕ → Sector) → Type 0
Lies k s c = (i : ℕ) → i < k → s i ≡ c i

-- all but a and b
abbrev pub LiesBut : ℕ → ℕ → ℕ → (s c : ℕ → Sector) → Type 0
LiesBut k a b s c = (i : ℕ) → i < k → i ≢ a → i ≢ b → s i ≡ c i

-- ---- what is done to it

-- column i anew, and no other
pub record Written (i : ℕ) (w : Sector) (s t : ℕ → Sector) : Type 0 where
  pub here : t i ≡ w
  pub others : (e : ℕ) → e ≢ i → t e ≡ s e

-- P and Q anew, from the data columns, which stay
pub record Anew (k : ℕ) (s t : ℕ → Sector) : Type 0 where
  pub is_p : IsP (k - 2) (data_of s) (t 0)
  pub is_q : IsQ (k - 2) (data_of s) (t 1)
  pub others : (e : ℕ) → 2 ≤ e → t e ≡ s e

-- p and q are what is left of P and Q in s when its data are taken out
pub record Left (k : ℕ) (s : ℕ → Sector) (p q : Sector) : Type 0 where
  pub good_p : Good p
  pub good_q : Good q
  pub in_p : (w b : ℕ) → w < 64 → b < 8 → byte_at w b p ≡ sum (total (k - 2) (λ j. byte_at w b (s (2 + j)))) (byte_at w b (s 0))
  pub in_q : (w b : ℕ) → w < 64 → b < 8 → byte_at w b q ≡ sum (total (k - 2) (λ j. product (power j) (byte_at w b (s (2 + j))))) (byte_at w b (s 1))

-- column i of whatever codeword s has all columns of but i and m; the others stay
pub record Restores (k i m : ℕ) (s t : ℕ → Sector) : Type 0 where
  pub here : (c : ℕ → Sector) → Codeword k c → LiesBut k i m s c → t i ≡ c i
  pub others : (e : ℕ) → e ≢ i → t e ≡ s e

-- t has all columns of whatever codeword s has all but a and b of
abbrev pub MendsTwo : ℕ → ℕ → ℕ → (s t : ℕ → Sector) → Type 0
MendsTwo k a b s t = (c : ℕ → Sector) → Codeword k c → LiesBut k a b s c → Lies k t c

-- d is a codeword with w for data column j, and c's other data columns
pub record Put (k j : ℕ) (w : Sector) (c d : ℕ → Sector) : Type 0 where
  pub codeword : Codeword k d
  pub here : d (2 + j) ≡ w
  pub others : (i : ℕ) → 2 ≤ i → i ≢ 2 + j → d i ≡ c i

-- ---- laws

-- a codeword of k columns is one of k + 1, with a column of noughts behind it
abbrev pub Grows : Type 0
Grows = (k : ℕ) (c : ℕ → Sector) → 2 ≤ k → Codeword k c → Codeword (k + 1) c

-- a stripe of noughts is a codeword
abbrev pub Blank : Type 0
Blank = (k : ℕ) → Codeword k (λ _. noughts)

-- codewords that agree in all columns but two agree in those
abbrev pub Unique : Type 0
Unique =
    (k a b : ℕ) (c d : ℕ → Sector) → 4 ≤ k → k ≤ 12 → a < b → b < k → Codeword k c → Codeword k d
    → ((i : ℕ) → i < k → i ≢ a → i ≢ b → c i ≡ d i) → (i : ℕ) → c i ≡ d i

-- ---- the example

-- six columns, whose data are filled with 7, 8, 9 and 10: P is 7 + 8 + 9 + 10 = 12, Q is 7 + 2 · 8 + 4 · 9 + 8 · 10 = 99
abbrev pub six : ℕ → Sector
six i = replicate 64 (slice_index (12 ∷ 99 ∷ 7 ∷ 8 ∷ 9 ∷ 10 ∷ []) i)

-- they are a codeword, and whoever has P, Q and data columns 0 and 3 of a codeword has 8 and 9 for data columns 1 and 2
pub record Example : Type 0 where
  pub codeword : Codeword 6 six
  pub had_again :
      (c : ℕ → Sector) → Codeword 6 c → c 0 ≡ replicate 64 12 → c 1 ≡ replicate 64 99 → c 2 ≡ replicate 64 7 → c 5 ≡ replicate 64 10
      → (c 3 ≡ replicate 64 8) × (c 4 ≡ replicate 64 9)
