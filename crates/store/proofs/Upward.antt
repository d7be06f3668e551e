-- Coming up, from whatever a cut left.
-- Assumes nothing.
use Rattle.std.proofs.Common.{◌≡◌, ℕ, true, false, List, sym, subst, inl, inr, ⊎_elim}
use Rattle.layout.specs.Super.{Super}
use Rattle.store.specs.Event.{Event}
use Rattle.store.specs.Shelf.{Shelf}
use Rattle.store.specs.Durable.{Went, Returned}
use Rattle.store.specs.Keeping.{Columns, Kept, Sound, Ready, Left}
use Rattle.store.specs.Recovers.{Open, Recovered, Lapsed, Across, Brought, Up, Down}
use Rattle.store.proofs.Standing.{sound_twice, torn_back}
use Rattle.store.proofs.Carried.{placed_brought, sound_across}

-- the superblock that was found is one that is kept
pub recovered_kept : {S : Super} {x y : Shelf} → Recovered S x y → Open x → (c : Columns) × Kept y S c
recovered_kept {S} {x} {y} p o =
    ⊎_elim (λ u. (o.c, subst (λ (Q : Super). Kept y Q o.c) (sym u.0) u.1.kept)) (λ u. (o.c', subst (λ (Q : Super). Kept y Q o.c') (sym u.0) u.1.kept))
    (p.right o.S o.c o.S' o.c' o.torn)

module _ (F : Super) {n : ℕ} {x y z : Shelf} {es fs : List Event} (p : Recovered F x y) (w : Went n (Across F) y es z fs) where
  crossed : (S : Super) (c : Columns) → F ≡ S → Sound y S c → Sound z S c
  crossed S c e k = sound_across S c (subst (λ (Q : Super). Went n (Across Q) y es z fs) e w) k

  ready : (S : Super) (c : Columns) → Brought F y z → F ≡ S → Sound y S c → Ready z S c
  ready S c f e k = record { sound = crossed S c e k; placed = placed_brought y z S c k.kept (subst (λ (Q : Super). Brought Q y z) e f) }

  pub up_now : z.on ≡ true → Brought F y z → Up F x z
  up_now lit f =
      record { lit = lit; right = λ S c S' c' k. ⊎_elim (λ u. inl (u.0, ready S c f u.0 u.1)) (λ u. inr (u.0, ready S' c' f u.0 u.1)) (p.right S c S' c' k) }

  pub down_later : z.on ≡ false → Down x z
  down_later o =
      record {
        off = o;
        left = λ S c S' c' k. ⊎_elim (λ u. inr (inl (crossed S c u.0 u.1))) (λ u. inr (inr (crossed S' c' u.0 u.1))) (p.right S c S' c' k);
      }

pub down_first : {x y : Shelf} → Lapsed x y → Down x y
down_first p = record { off = p.off; left = λ S c S' c' k. inl (p.torn S c S' c' k) }

-- ---- what is left can be come up from

pub left_open : (x : Shelf) (S : Super) (c : Columns) (S' : Super) (c' : Columns) → Left x S c S' c' → Open x
left_open x S c S' c' (inl k) = record { S = S; c = c; S' = S'; c' = c'; torn = k }
left_open x S c S' c' (inr (inl k)) = record { S = S; c = c; S' = S; c' = c; torn = sound_twice x S c k }
left_open x S c S' c' (inr (inr k)) = record { S = S'; c = c'; S' = S'; c' = c'; torn = sound_twice x S' c' k }

pub open_back : {x z : Shelf} {es fs : List Event} → Returned x es z fs → Open x → Open z
open_back b o = record { S = o.S; c = o.c; S' = o.S'; c' = o.c'; torn = torn_back b o.S o.c o.S' o.c' o.torn }

pub down_open : {x y : Shelf} → Open x → Down x y → Open y
down_open {x} {y} o w = left_open y o.S o.c o.S' o.c' (w.left o.S o.c o.S' o.c' o.torn)

pub ready_open : (x : Shelf) (S : Super) (c : Columns) → Ready x S c → Open x
ready_open x S c k = left_open x S c S c (inr (inl k.sound))
