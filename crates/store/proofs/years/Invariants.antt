use Rattle.std.proofs.Common.{◌+◌, ◌-◌, ◌*◌, ◌≤◌}
use Rattle.store.specs.Between.{Recoverable, ticks}
use Rattle.store.proofs.years.Given as goal

abbrev pub invariant-loop-n : goal.invariant-loop-n
invariant-loop-n g l =
    Recoverable (g.W.Disks.shelf l.w) (g.W.Disks.seen l.w) ×
    (ticks (g.W.Disks.seen l.w) ≤ l.n * (l.turns + 1)) ×
    (l.n ≤ l.lives)

abbrev pub decreases-loop-n : goal.decreases-loop-n
decreases-loop-n g l = l.lives - l.n
