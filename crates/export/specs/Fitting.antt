-- What has to be lent for the store to be played on disks in memory: so many cells, so many words of room and of a sector. It comes up
-- fewer than 2^20 times, and has fewer than 2^40 turns each time.
use Rattle.std.specs.Prelude.{◌≡◌, ℕ, ◌<◌, ◌≤◌}

pub record Fitting (cells room words lives turns : ℕ) : Type 0 where
  pub enough : 2048 ≤ cells
  pub few : cells ≤ 68719476736
  pub roomy : room ≡ 65536
  pub sector : words ≡ 64
  pub lived : lives < 1048576
  pub turned : turns < 1099511627776
