-- Which columns of a stripe are missing, at most two, and what mending them is.
-- Assumes nothing.
use Rattle.std.specs.Prelude.{◌≡◌, ℕ, ◌<◌, ◌≢◌}
use Rattle.field.specs.Column.{Sector}
use Rattle.field.specs.Stripe.{Codeword, Lies}
use Rattle.field.specs.declared.missing.Missing.{Missing}
use Rattle.field.specs.declared.missing.Missing.TheVariants.{Nothing, One, Two}

-- column i too; of a third nothing is kept
abbrev pub and_also : Missing → ℕ → Missing
and_also Nothing i = One i
and_also (One a) i = Two a i
and_also (Two a b) i = Two a b

-- they are columns of k, told in order
abbrev pub Within : ℕ → Missing → Type 0
Within k Nothing = Unit {0}
Within k (One a) = a < k
Within k (Two a b) = (a < b) × (b < k)

-- of the columns below n those that are missing are D, and all others P
abbrev pub Known : ℕ → Missing → (P D : ℕ → Type 0) → Type 0
Known n Nothing P D = (e : ℕ) → e < n → P e
Known n (One a) P D = (a < n) × D a × ((e : ℕ) → e < n → e ≢ a → P e)
Known n (Two a b) P D = (a < b) × (b < n) × D a × D b × ((e : ℕ) → e < n → e ≢ a → e ≢ b → P e)

-- t has all k columns of whatever codeword s has those of that aren't missing
abbrev pub Mends : ℕ → Missing → (s t : ℕ → Sector) → Type 0
Mends k m s t = (c : ℕ → Sector) → Codeword k c → Known k m (λ e. s e ≡ c e) (λ _. Unit {0}) → Lies k t c
