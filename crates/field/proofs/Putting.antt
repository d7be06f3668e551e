-- The stripe that lies in a slice of columns, and a data column put into it.
-- Assumes nothing.
use Rattle.std.proofs.Common.{◌≡◌, ℕ, ◌+◌, ◌-◌, ◌<◌, ◌≤◌, sym, ◌∙◌, arith}
use Rattle.field.specs.Column.{Sector, noughts, Good}
use Rattle.field.specs.Stripe.{data_of, Written, Anew, Put}
use Rattle.field.proofs.Parities.{nothing_behind_lem}

module _ (k j : ℕ) (w : Sector) (s u t : ℕ → Sector) (few : 4 ≤ k) (l : 2 + j < k) (good : (i : ℕ) → Good (t i)) (beyond : (i : ℕ) → k ≤ i → t i ≡ noughts)
    (wr : Written (2 + j) w s u) (an : Anew k u t) where
  same : (e : ℕ) → e < k - 2 → u (2 + e) ≡ t (2 + e)
  same e h = sym (an.others (2 + e) (omega arith))

  pub puts : Put k j w s t
  puts = record {
    codeword = record {
      good = good;
      beyond = beyond;
      parity_p = (nothing_behind_lem (k - 2) (data_of u) (data_of t) same).0 (t 0) an.is_p;
      parity_q = (nothing_behind_lem (k - 2) (data_of u) (data_of t) same).1 (t 1) an.is_q;
    };
    here = an.others (2 + j) (omega arith) ∙ wr.here;
    others = λ i g n. an.others i g ∙ wr.others i n;
  }
