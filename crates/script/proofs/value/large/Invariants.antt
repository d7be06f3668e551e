use Rattle.std.proofs.Common.{◌≡◌, ◌-◌, ◌^◌, ◌≤◌, drop}
use Rattle.script.specs.Numbers.{large_of}
use Rattle.script.proofs.Digits.{number_from}
use Rattle.script.proofs.value.large.Given as goal

abbrev pub invariant-loop-b : goal.invariant-loop-b
invariant-loop-b l = record { fits : l.n ≤ 2 ^ 64 - 1; read : number_from (2 ^ 64 - 1) l.n (drop l.b-index l.word) ≡ large_of l.word }
