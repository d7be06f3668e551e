use Rattle.std.proofs.Common.{arith}
use Rattle.std.proofs.lemmas.Result.{MatchResult-from_err}
use Rattle.layout.specs.Super.{says}
use Rattle.store.proofs.Laws.{deaths_then}
use Rattle.store.proofs.Upward.{recovered_kept, up_now, down_later, down_first}
use Rattle.store.proofs.recovery.come_up.Goals as goal

pub returns-in_err-found-clause-how : goal.returns-in_err-found-clause-how
returns-in_err-found-clause-how g c = MatchResult-from_err c.from_residual.result _ _ c.from_residual.ensures.0 (λ _. down_first c.in_err-found.ensures.how)

pub bring-requires : goal.bring-requires
bring-requires g c =
    let k = (recovered_kept c.in_ok-found.ensures.how.0 c.requires.held).1 in
    record { left = omega (arith, c.recover.ensures.spent, c.requires.left); size = (k.least, (k.most, k.inside)); employed = k.employed }

pub returns-in_err-bring : goal.returns-in_err-bring
returns-in_err-bring g c =
    record {
      deaths = deaths_then c.recover.ensures.deaths c.bring.ensures.went.deaths;
      spent = omega (arith, c.recover.ensures.spent, c.bring.ensures.went.spent);
      how = MatchResult-from_err c.from_residual-in_err-bring.result _ _ c.from_residual-in_err-bring.ensures.0
          (λ _. down_later (says c.in_ok-found.found) c.in_ok-found.ensures.how.0 c.bring.ensures.went c.in_err-bring.ensures.how);
    }

pub returns : goal.returns
returns g c =
    let r = c.in_ok-found.ensures.how in
    let b = c.in_ok-bring.ensures.how in
    record {
      deaths = deaths_then c.recover.ensures.deaths c.bring.ensures.went.deaths;
      spent = omega (arith, c.recover.ensures.spent, c.bring.ensures.went.spent);
      how = (up_now (says c.in_ok-found.found) r.0 c.bring.ensures.went (b.0 r.0.lit) b.1, r.1);
    }
