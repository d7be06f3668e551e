use Rattle.std.proofs.Common.{ℕ, ◌<◌, ◌≤◌}
use Rattle.store.specs.Shelf.{Dies as Perish}
use Rattle.memory.specs.Held.{shelf_with}
use Rattle.memory.specs.Words.{seen_of}
use Rattle.memory.specs.declared.fate.Fate.TheVariants.{Dies}
use Rattle.memory.specs.declared.platter.Platter.{Platter}
use Rattle.memory.proofs.Dues.{Early}
use Rattle.memory.proofs.fate.Plan.strike.Given as goal

abbrev pub invariant-loop-place : goal.invariant-loop-place
invariant-loop-place l =
    ((p : Platter) → Perish (shelf_with p l.initial.diary l.initial.state) (seen_of l.initial.diary) (shelf_with p l.diary l.state) (seen_of l.diary))
    × ((j d : ℕ) → j < l.place-index → Early l.asks l.place-items j (Dies d))
    × (l.kept ≤ l.place-index)
