use Rattle.std.proofs.Common.{◌≡◌, ℕ, ◌<◌, List, length, get_or, set, sym, ap, ◌∙◌, arith, get_or-set_same}
use Rattle.layout.specs.Super.{Super, super_of}
use Rattle.layout.proofs.Coding.{unmarked_says}
use Rattle.store.proofs.Truths.{true-T}
use Rattle.store.proofs.Laws.{went_then, went_longer}
use Rattle.store.proofs.Choosing.{look_none, look_dead, look_alive}
use Rattle.store.proofs.recovery.look.Goals as goal
use Rattle.store.proofs.recovery.look.Goals.{then-branch, else-branch}

-- without its mark a sector is of generation 0
unmarked : (b : List ℕ) → length b ≡ 64 → (super_of (set b 0 0)).generation ≡ 0
unmarked b l =
    let h : 0 < length b = omega arith in
    let first : get_or (set b 0 0) 0 0 ≡ 0 = get_or-set_same b 0 0 0 h in
    ap (λ (S : Super). S.generation) (unmarked_says (set b 0 0) (λ q. let z : ◌≡◌ {A = ℕ} 0 0x6e75_6c74_736a_6566 = sym first ∙ q in omega arith))

pub loop-i-init : goal.loop-i-init
loop-i-init g c = look_none _ _ _ (unmarked _ c.told-best)

pub returns-in_err-read_sector-clause-went : goal.returns-in_err-read_sector-clause-went
returns-in_err-read_sector-clause-went g c = went_longer (omega arith) (went_then c.loop-i.invariant.went c.read_sector.ensures.went)

pub loop-i-preserved : goal.loop-i-preserved
loop-i-preserved g c =
    let h = c.in_ok-read_sector.ensures.how in
    elim c.if-branch.branch [
      | then-branch w ↦
          rw (w.best-is, w.keep_newer.ensures)
          (look_alive c.loop-i.invariant c.read_sector.ensures.went _ (omega arith) (h.alive ∙ w.if-branch.true) (h.shows (true-T w.if-branch.true)))
      | else-branch w ↦ rw w.best-is (look_dead c.loop-i.invariant c.read_sector.ensures.went (h.alive ∙ w.if-branch.false))
    ]
