-- What the four words of a script's step say: what it is, and three numbers.
use Rattle.std.specs.Prelude.{ℕ, zero, suc, ◌-◌, min}
use Rattle.store.specs.declared.Ask.TheVariants.{Read, Write, Flush, Size, Add, Replace}
use Rattle.memory.specs.declared.fate.Fate.TheVariants.{Dies, Cut}
use Rattle.memory.specs.declared.script.Step.{Step}
use Rattle.memory.specs.declared.script.Step.TheVariants.{Rest, Asks, Plans}

-- a tag or a disk
abbrev pub small : ℕ → ℕ
small x = min x 4294967295

abbrev pub step_of : ℕ → ℕ → ℕ → ℕ → Step
step_of zero a b c = Rest a
step_of (suc zero) a b c = Asks (small a) (Read b) 0
step_of (suc (suc zero)) a b c = Asks (small a) (Write b) c
step_of (suc (suc (suc zero))) a b c = Asks (small a) Flush 0
step_of (suc (suc (suc (suc zero)))) a b c = Asks (small a) Size 0
step_of (suc (suc (suc (suc (suc zero))))) a b c = Asks (small a) (Add (small b)) 0
step_of (suc (suc (suc (suc (suc (suc zero)))))) a b c = Asks (small a) (Replace (small b) (small c)) 0
step_of (suc (suc (suc (suc (suc (suc (suc zero))))))) a b c = Plans b (Dies (small a))
step_of (suc (suc (suc (suc (suc (suc (suc (suc zero)))))))) a b c = Plans a (Cut b)
step_of (suc (suc (suc (suc (suc (suc (suc (suc (suc k))))))))) a b c = Rest 1

-- for how long nothing is asked behind a step
abbrev pub rest_after : Step → ℕ
rest_after (Rest n) = n - 1
rest_after (Asks t a w) = 0
rest_after (Plans n f) = 0
