use Rattle.std.proofs.Common.{◌≡◌, ℕ, ◌<◌, Bool, length, get_or, subst, arith}
use Rattle.field.specs.Stripe.{held}
use Rattle.field.specs.Missing.{Mends}
use Rattle.layout.proofs.Turning.{place_within}
use Rattle.store.specs.Stripes.{disk_of, Answered}
use Rattle.store.proofs.Laws.{went_then, went_longer}
use Rattle.store.proofs.Loads.{serving_went, no_third_column, loading_none, loading_alive, loading_dead, loading_is, loaded}
use Rattle.store.proofs.stripe.load.Goals as goal
use Rattle.store.proofs.stripe.load.Goals.{then-not-branch, else-not-branch}

pub loop-i-init : goal.loop-i-init
loop-i-init g c = loading_none _ _ _ _ _ _

pub fetch-requires-clause-place : goal.fetch-requires-clause-place
fetch-requires-clause-place g c =
    let ds = c.args.members.now.list in
    let w = c.loop-i.invariant.went in
    let l : c.loop-i.i < length ds = omega (arith, c.requires.lent) in
    let b = place_within (length ds) c.loop-i.i c.args.row.stripe c.requires.serving.roster.least l in
    (omega (arith, b, c.place_of-p.ensures), omega (arith, w.deaths.size, c.requires.size))

pub returns-in_err-fetch-clause-went : goal.returns-in_err-fetch-clause-went
returns-in_err-fetch-clause-went g c = went_longer (omega (arith, c.requires.lent)) (went_then c.loop-i.invariant.went c.fetch.ensures.went)

pub loop-i-preserved : goal.loop-i-preserved
loop-i-preserved g c =
    let ds = c.args.members.now.list in
    let l : c.loop-i.i < length ds = omega (arith, c.requires.lent) in
    let lt : c.loop-i.i < length c.loop-i.stripe = omega (arith, l) in
    let w = c.fetch.ensures.went in
    let heard : Answered (disk_of ds c.args.row.stripe c.loop-i.i) c.args.row.sector c.fetch.new.into c.in_ok-fetch.field-0 (g.D.Disks.shelf c.loop-i.d) (g.D.Disks.shelf c.fetch.new.d) =
    subst (λ (p : ℕ). Answered (get_or ds p 0) c.args.row.sector c.fetch.new.into c.in_ok-fetch.field-0 (g.D.Disks.shelf c.loop-i.d) (g.D.Disks.shelf c.fetch.new.d)) c.place_of-p.ensures
    c.in_ok-fetch.ensures.how in
    elim c.if-not-branch.branch [
      | then-not-branch b ↦
          rw (b.missing-is, b.also-missing.ensures)
          (loading_dead c.fetch.new.into lt c.loop-i.invariant w c.in_ok-fetch.field-0 b.if-not-branch.true heard
          (λ i j ij jn di dj dn.
          no_third_column ds c.requires.serving.roster (g.D.Disks.shelf c.fetch.new.d) c.args.members.now.dead
          (serving_went (went_then c.loop-i.invariant.went w) ds c.args.members.now.dead c.requires.serving) c.args.row.stripe i j c.loop-i.i ij jn l di dj dn))
      | else-not-branch b ↦
          rw b.missing-is
          (loading_alive c.fetch.new.into lt c.loop-i.invariant w
          (subst (λ (o : Bool). Answered (disk_of ds c.args.row.stripe c.loop-i.i) c.args.row.sector c.fetch.new.into o (g.D.Disks.shelf c.loop-i.d) (g.D.Disks.shelf c.fetch.new.d)) b.if-not-branch.false heard))
    ]

pub returns-clause-how : goal.returns-clause-how
returns-clause-how g c =
    let ds = c.args.members.now.list in
    let e : c.loop-i.i ≡ length ds = omega (arith, c.requires.lent) in
    let n : length c.loop-i.stripe ≡ length ds = omega (arith, c.requires.lent) in
    let p = loading_is e c.loop-i.invariant in
    loaded c.requires.serving.roster p (subst (λ (m : ℕ). Mends m c.loop-i.missing (held c.loop-i.stripe) (held c.mend.new.stripe)) n c.mend.ensures.mended)
