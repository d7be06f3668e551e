use Rattle.std.proofs.Common.{◌≡◌, ℕ, ◌+◌, ◌%◌, ◌<◌, None}
use Rattle.store.specs.Tags.{at}
use Rattle.store.proofs.tags.Tags.due.Given as goal

abbrev pub invariant-loop-k : goal.invariant-loop-k
invariant-loop-k l = (i : ℕ) → i < l.k → at l.self.asked ((l.self.cursor.number + i) % 8) ≡ None
