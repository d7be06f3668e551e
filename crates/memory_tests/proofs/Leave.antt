-- Who may write.
use Rattle.std.proofs.Common.{◌≡◌, ℕ, ◌<◌, Bool, true, T, sym, subst, arith}
use Rattle.store.specs.Shelf.{Shelf, MayWrite, allowed}

pub may_write : (x y : Shelf) (d s : ℕ) (b : Bool) → y ≡ allowed 1 x → d < 16 → s < x.sectors → b ≡ true → b ≡ x.uses d → MayWrite y d s
may_write x y d s b e h k t u = subst (λ (z : Shelf). MayWrite z d s) (sym e) ((omega arith, h, k), subst T u (subst T (sym t) tt))
