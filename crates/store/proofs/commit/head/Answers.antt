use Rattle.std.proofs.Common.{ap, ◌∙◌}
use Rattle.std.proofs.lemmas.Result.{MatchResult-weaker}
use Rattle.layout.specs.Super.{says, super_of}
use Rattle.layout.proofs.Coding.{read_again}
use Rattle.store.proofs.Heads.{headed, headed_went}
use Rattle.store.proofs.commit.head.Goals as goal

pub write_copies-requires-clause-lent : goal.write_copies-requires-clause-lent
write_copies-requires-clause-lent g c = ap super_of c.encode.ensures ∙ read_again (says c.args.next.now)

pub returns : goal.returns
returns g c =
    let m = c.in_ok-write_copies.ensures.how in
    record {
      went = headed_went m c.sync_all.ensures.went;
      how = MatchResult-weaker c.sync_all.result c.sync_all.ensures.how
          (λ _ s. headed m c.sync_all.ensures.went (ap super_of c.encode.ensures ∙ read_again (says c.args.next.now)) s) (λ _ o. o);
    }
