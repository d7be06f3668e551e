use Rattle.std.proofs.Common.{◌+◌, ◌-◌, ◌≤◌}
use Rattle.store.specs.Between.{Serving, ticks}
use Rattle.store.proofs.serve.Given as goal

abbrev pub invariant-loop-t : goal.invariant-loop-t
invariant-loop-t g l =
    Serving l.s l.room (g.W.Disks.shelf l.w) (g.W.Disks.seen l.w) ×
    (ticks (g.W.Disks.seen l.w) ≤ ticks (g.W.Disks.seen l.initial.w) + l.t) ×
    (l.t ≤ l.turns)

abbrev pub decreases-loop-t : goal.decreases-loop-t
decreases-loop-t g l = l.turns - l.t
