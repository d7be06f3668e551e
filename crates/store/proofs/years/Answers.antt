use Rattle.std.proofs.Common.{◌+◌, ◌*◌, ◌≤◌, sym, refl, ap, subst, arith}
use Rattle.store.specs.Between.{ticks, Lost}
use Rattle.store.proofs.Opening.{recovers, at_start, recoverable_allowed}
use Rattle.store.proofs.Steps.{ticks_none, recoverable_same, lost_same, grows, ticks_back}
use Rattle.store.proofs.years.Goals as goal
use Rattle.store.proofs.years.Goals.{in-Ok+in-Dark, in_default}

pub loop-n-init : goal.loop-n-init
loop-n-init g c = (at_start c.requires.starts c.requires.unseen, omega (arith, ticks_none c.requires.unseen), omega arith)

pub open-requires-clause-back : goal.open-requires-clause-back
open-requires-clause-back g c = recoverable_same (recoverable_allowed 65536 c.loop-n.invariant.0) c.allow.ensures.0 c.allow.ensures.1

pub loop-n-preserved : goal.loop-n-preserved
loop-n-preserved g c =
    let lost : Lost (g.W.Disks.shelf c.match-open.w) (g.W.Disks.seen c.match-open.w) =
    elim c.match-open.branch [
      | in-Ok+in-Dark w ↦ lost_same w.in-Dark.ensures.stops (ap g.W.Disks.shelf w.w-is) (ap g.W.Disks.seen w.w-is)
      | in_default w ↦ lost_same w.in_default.ensures.opened (ap g.W.Disks.shelf w.w-is) (ap g.W.Disks.seen w.w-is)
    ] in
    let more : ticks (g.W.Disks.seen c.match-open.w) ≤ ticks (g.W.Disks.seen c.open.new.d) + c.args.turns =
    elim c.match-open.branch [
      | in-Ok+in-Dark w ↦ omega (arith, ap (λ v. ticks (g.W.Disks.seen v)) w.w-is, w.in-Dark.ensures.ticked refl)
      | in_default w ↦ omega (arith, ap (λ v. ticks (g.W.Disks.seen v)) w.w-is)
    ] in (
      recovers lost c.back.ensures,
      subst (λ k. k ≤ (c.loop-n.n + 1) * (c.args.turns + 1)) (sym (ticks_back c.back.ensures))
          (grows c.loop-n.n c.args.turns _ (omega (arith, more, c.open.ensures.ticked, ap ticks c.allow.ensures.1, c.loop-n.invariant.1))),
      omega arith,
    )
