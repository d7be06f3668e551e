use Rattle.std.proofs.Common.{◌≡◌, ◌-◌, ◌*◌, ◌/◌, ◌^◌}
use Rattle.field.specs.Word.{double8}
use Rattle.field.proofs.raising.TableRaising.raised.Given as goal

abbrev pub invariant-loop-byte : goal.invariant-loop-byte
invariant-loop-byte l = l.r ≡ double8 (l.v / 2 ^ (64 - 8 * l.byte-index))
