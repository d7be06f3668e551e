use Rattle.std.proofs.Common.{refl, arith}
use Rattle.memory.specs.Held.{shelf_of}
use Rattle.memory_tests.proofs.Leave.{may_write}
use Rattle.memory_tests.proofs.put.Goals as goal

pub write-requires : goal.write-requires
write-requires c = (may_write (shelf_of c.args.m.now) _ _ _ _ c.allow.ensures.0 (omega arith) (omega (arith, c.sectors.ensures, c.if-s-sectors.false)) c.if-not-in_use.false c.in_use.ensures, refl)
