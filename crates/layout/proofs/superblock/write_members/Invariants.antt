use Rattle.std.proofs.Common.{◌≡◌, ◌+◌, drop}
use Rattle.std.proofs.lemmas.List.Edits.{sets}
use Rattle.layout.proofs.superblock.write_members.Given as goal

abbrev pub invariant-loop-p : goal.invariant-loop-p
invariant-loop-p l = sets l.words (8 + l.p) (drop l.p l.members.list) ≡ sets l.initial.words 8 l.members.list
