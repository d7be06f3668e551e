use Rattle.std.proofs.lemmas.Result.{MatchResult-from_err, MatchResult-weaker}
use Rattle.layout.specs.Super.{says}
use Rattle.store.specs.Commits.{Heading}
use Rattle.store.proofs.Laws.{went_then, went_anywhere}
use Rattle.store.proofs.Heads.{interrupted_first, interrupted_later, committed_now}
use Rattle.store.proofs.commit.commit.Goals as goal

pub returns-in_err-sync_all-clause-how : goal.returns-in_err-sync_all-clause-how
returns-in_err-sync_all-clause-how g c = MatchResult-from_err c.from_residual.result _ _ c.from_residual.ensures.0
    (λ _. interrupted_first (says c.args.next.now) c.sync_all.ensures.went c.in_err-sync_all.ensures.how)

pub returns : goal.returns
returns g c =
    let S = says c.args.next.now in
    let w = c.sync_all.ensures.went in
    let z = c.in_ok-sync_all.ensures.how.settled in
    record {
      went = went_then (went_anywhere (Heading S) w) c.head.ensures.went;
      how = MatchResult-weaker c.head.result c.head.ensures.how (λ _ h. committed_now S w z c.head.ensures.went h) (λ _ o. interrupted_later S w z c.head.ensures.went o);
    }
