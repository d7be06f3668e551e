use Rattle.std.proofs.Common.{Ok}
use Rattle.store.proofs.Laws.{sync_went, sync_synced}
use Rattle.store.proofs.answers.sync_all.Goals as goal

pub returns-in_err-lives-clause-went : goal.returns-in_err-lives-clause-went
returns-in_err-lives-clause-went g c = sync_went c.sync.ensures

pub returns : goal.returns
returns g c = record { went = sync_went c.sync.ensures; how = sync_synced c.sync.result (Ok c.in_ok-lives.field-0) c.sync.ensures c.in_ok-lives.ensures }
