use Rattle.std.proofs.Common.{◌≡◌, ◌*◌, ◌++◌, map, take, drop}
use Rattle.field.specs.Word.{product8}
use Rattle.field.proofs.column.scale.Given as goal

abbrev pub invariant-loop-word : goal.invariant-loop-word
invariant-loop-word l = (l.words ≡ map (product8 l.c) (take l.word-index l.initial.words) ++ drop l.word-index l.initial.words) × (l.steps ≡ l.word-index * 16)
