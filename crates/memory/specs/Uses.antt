-- Which disks are in use.
use Rattle.std.specs.Prelude.{ℕ, ◌||◌, ◌==◌}
use Rattle.store.specs.Shelf.{Shelf, in_use}

-- a disk is in use from now on
abbrev pub into : ℕ → Shelf → Shelf
into e x = in_use (λ f. x.uses f || f == e) x.lost x
