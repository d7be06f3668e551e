use Rattle.std.proofs.Common.{◌≡◌, length}
use Rattle.valley.proofs.village.Village.play.Given as goal

abbrev pub invariant-loop : goal.invariant-loop
invariant-loop g l = length l.block ≡ length l.initial.block
