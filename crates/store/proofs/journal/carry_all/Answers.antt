use Rattle.std.proofs.Common.{ℕ, List, length, get_or, ap, arith}
use Rattle.store.proofs.Laws.{went_longer}
use Rattle.store.proofs.Carried.{moving_none, moving_more, moving_went}
use Rattle.store.proofs.journal.carry_all.Goals as goal

pub loop-at-init : goal.loop-at-init
loop-at-init g c = moving_none _ _ _ _ _

pub returns-in_err-carry-clause-went : goal.returns-in_err-carry-clause-went
returns-in_err-carry-clause-went g c =
    let ds = c.disks-at-items.ensures in
    went_longer (omega (arith, ap length ds.is, ds.roster.most)) (moving_went c.requires.place.1.1 c.loop-at.invariant _ (rw ds.is at c.carry.ensures.went))

pub loop-at-preserved : goal.loop-at-preserved
loop-at-preserved g c =
    let e = ap (λ (xs : List ℕ). get_or xs c.loop-at.at-index 0) c.disks-at-items.ensures.is in
    moving_more c.requires.place.1.1 c.loop-at.invariant _ c.carry.ensures.went e c.in_ok-carry.ensures.how.0 c.in_ok-carry.ensures.how.1
