-- What is known of a stripe's columns, one after the other, and what mending those that are missing gives.
-- Assumes nothing.
use Rattle.std.proofs.Common.{◌≡◌, ℕ, ◌+◌, ◌<◌, ◌≢◌, sym, refl, subst, arith, below_more}
use Rattle.field.specs.Column.{Sector}
use Rattle.field.specs.Stripe.{MendsTwo}
use Rattle.field.specs.Missing.{and_also, Within, Known, Mends}
use Rattle.field.specs.declared.missing.Missing.{Missing}
use Rattle.field.specs.declared.missing.Missing.TheVariants.{Nothing, One, Two}

module _ (n : ℕ) (P D Q E : ℕ → Type 0) (p : (e : ℕ) → e < n → P e → Q e) (d : (e : ℕ) → D e → E e) where
  -- column n is there
  pub known_here : (m : Missing) → Q n → Known n m P D → Known (n + 1) m Q E
  known_here Nothing q h = below_more Q n (λ e b. p e b (h e b)) q
  known_here (One a) q h = (omega (arith, h.0), d a h.1, below_more (λ e. e ≢ a → Q e) n (λ e b x. p e b (h.2 e b x)) (λ _. q))
  known_here (Two a b) q h =
      (h.0, omega (arith, h.1), d a h.2, d b h.3, below_more (λ e. e ≢ a → e ≢ b → Q e) n (λ e l x y. p e l (h.4 e l x y)) (λ _ _. q))

  -- column n is missing, and it isn't the third
  pub known_missing : (m : Missing) → E n → ((a b : ℕ) → a < b → b < n → E a → E b → ⊥) → Known n m P D → Known (n + 1) (and_also m n) Q E
  known_missing Nothing e t h = (omega arith, e, below_more (λ i. i ≢ n → Q i) n (λ i b x. p i b (h i b)) (λ x. absurd (x refl)))
  known_missing (One a) e t h = (
    h.0,
    omega arith,
    d a h.1,
    e,
    below_more (λ i. i ≢ a → i ≢ n → Q i) n (λ i b x y. p i b (h.2 i b x)) (λ x y. absurd (y refl)),
  )
  known_missing (Two a b) e t h = absurd (t a b h.0 h.1 (d a h.2) (d b h.3))

pub known_within : (k : ℕ) (m : Missing) (P D : ℕ → Type 0) → Known k m P D → Within k m
known_within k Nothing P D h = tt
known_within k (One a) P D h = h.0
known_within k (Two a b) P D h = (h.0, h.1)

pub known_weaker : (k : ℕ) (m : Missing) (P Q D E : ℕ → Type 0) → ((e : ℕ) → e < k → P e → Q e) → ((e : ℕ) → D e → E e) → Known k m P D → Known k m Q E
known_weaker k Nothing P Q D E p d h = λ e b. p e b (h e b)
known_weaker k (One a) P Q D E p d h = (h.0, d a h.1, λ e b x. p e b (h.2 e b x))
known_weaker k (Two a b) P Q D E p d h = (h.0, h.1, d a h.2, d b h.3, λ e l x y. p e l (h.4 e l x y))

-- one of P and Q is missing, and both are made anew
pub mends_parity : (k a : ℕ) (m : Missing) (s t : ℕ → Sector) → m ≡ One a → a < 2 → MendsTwo k 0 1 s t → Mends k m s t
mends_parity k a m s t e l h = subst (λ (n : Missing). Mends k n s t) (sym e) (λ c w known. h c w (λ i b n0 n1. known.2 i b (λ ia. omega arith)))
