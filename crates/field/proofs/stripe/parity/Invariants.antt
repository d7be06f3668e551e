use Rattle.std.proofs.Common.{◌≡◌, ◌+◌, ◌-◌, ◌*◌, length}
use Rattle.field.proofs.Gathering.{OnTheWay}
use Rattle.field.proofs.stripe.parity.Given as goal

abbrev pub invariant-loop-column : goal.invariant-loop-column
invariant-loop-column g l = record {
  long : (length l.p ≡ 64) × (length l.q ≡ 64);
  way : OnTheWay l.stripe l.column-iterator.iter.rest.now l.p l.q;
  steps : l.steps + 64 * (g.D.Raising.STEPS + 2) * length l.column-iterator.iter.rest.now ≡ 64 * (g.D.Raising.STEPS + 2) * (length l.stripe - 2);
}
