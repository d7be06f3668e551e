use Rattle.std.proofs.Common.{◌≡◌, ℕ, ◌+◌, ◌-◌, ◌^◌, ◌<◌, ◌≤◌, min, List, length, take}
use Rattle.valley.specs.Lines.{newlines, unended}
use Rattle.valley.proofs.Plays.{Begun}
use Rattle.valley.proofs.village.Village.play_some.Given as goal

abbrev pub invariant-loop-behind : goal.invariant-loop-behind
invariant-loop-behind g l =
    record {
      small : l.number < 2 ^ 64;
      within : length l.rest ≤ length l.bytes;
      counted : min (l.number + newlines l.rest) (2 ^ 64 - 1) ≡ min (l.first + newlines l.bytes) (2 ^ 64 - 1);
      begun : (begun : List ℕ) → l.initial.line.items ≡ take 256 begun → Begun l.line.items l.rest (unended begun l.bytes);
    }

abbrev pub decreases-loop-behind : goal.decreases-loop-behind
decreases-loop-behind g l = length l.rest
