use Rattle.std.proofs.Common.{ℕ, [], length, get_or, subst, arith}
use Rattle.field.proofs.Slices.{held_at}
use Rattle.layout.proofs.Turning.{place_within}
use Rattle.store.specs.Stripes.{Answered}
use Rattle.store.proofs.Laws.{went_then}
use Rattle.store.proofs.Loads.{read_one, read_all}
use Rattle.store.proofs.stripe.read_column.Goals as goal

pub fetch-requires-clause-place : goal.fetch-requires-clause-place
fetch-requires-clause-place g c =
    let ds = c.args.members.now.list in
    let b = place_within (length ds) c.args.i c.args.row.stripe c.requires.serving.roster.least c.requires.size.1 in
    (omega (arith, b, c.place_of-p.ensures), c.requires.size.0)

pub returns-in_err-missing-clause-went : goal.returns-in_err-missing-clause-went
returns-in_err-missing-clause-went g c = went_then c.fetch.ensures.went c.load.ensures.went

pub returns : goal.returns
returns g c =
    let e = held_at c.load.new.stripe c.args.i [] (omega (arith, c.requires.lent, c.requires.size.1)) in
    record {
      went = went_then c.fetch.ensures.went c.load.ensures.went;
      how = read_all _ _ _ c.requires.size.1 e c.fetch.ensures.went c.in_ok-fetch.ensures.how c.in_ok-missing.ensures.how;
    }

pub returns-then-branch-clause-how : goal.returns-then-branch-clause-how
returns-then-branch-clause-how g c =
    let ds = c.args.members.now.list in
    read_one c.in_ok-fetch.field-0 c.requires.serving.roster c.requires.size.1 c.if-branch.true c.fetch.ensures.went
    (subst (λ (p : ℕ). Answered (get_or ds p 0) c.args.row.sector c.fetch.new.into c.in_ok-fetch.field-0 (g.D.Disks.shelf c.args.d.now) (g.D.Disks.shelf c.fetch.new.d)) c.place_of-p.ensures
    c.in_ok-fetch.ensures.how)
