use Rattle.std.proofs.Common.{get_or, sym, subst, arith}
use Rattle.std.proofs.lemmas.Result.{MatchResult-from_err}
use Rattle.layout.specs.Super.{Super, says, Proper}
use Rattle.store.specs.Durable.{Employed}
use Rattle.store.proofs.Laws.{deaths_then}
use Rattle.store.proofs.Choosing.{recovered, lapsed_later, lapsed_first, found_proper, found_employed}
use Rattle.store.proofs.recovery.recover.Goals as goal

pub returns-in_err-look-clause-how : goal.returns-in_err-look-clause-how
returns-in_err-look-clause-how g c = MatchResult-from_err c.from_residual.result _ _ c.from_residual.ensures.0 (λ _. lapsed_first c.look.ensures.went c.in_err-look.ensures.how)

pub decode-found-requires : goal.decode-found-requires
decode-found-requires g c = found_proper c.in_ok-look.ensures.how _ _ _ _ c.requires.held.torn

pub head-requires-clause-heads : goal.head-requires-clause-heads
head-requires-clause-heads g c =
    let p = c.in_ok-look.ensures.how in
    let o = c.requires.held in
    let e = sym c.decode-found.ensures.0 in
    record {
      size = omega (arith, p.went.deaths.size, o.torn.old.least);
      proper = subst Proper e (found_proper p _ _ _ _ o.torn);
      employed = λ i l. subst (λ (Q : Super). Employed (g.D.Disks.shelf c.look.new.d) (get_or Q.members i 0)) e (found_employed p _ _ _ _ o.torn i l);
    }

pub returns-in_err-head : goal.returns-in_err-head
returns-in_err-head g c =
    let p = c.in_ok-look.ensures.how in
    record {
      deaths = deaths_then c.look.ensures.went.deaths c.head.ensures.went.deaths;
      spent = omega (arith, c.look.ensures.went.spent, c.head.ensures.went.spent);
      how = MatchResult-from_err c.from_residual-in_err-head.result _ _ c.from_residual-in_err-head.ensures.0
          (λ _. lapsed_later (says c.decode-found.result) c.decode-found.ensures.0 p c.head.ensures.went c.in_err-head.ensures.how);
    }

pub returns : goal.returns
returns g c =
    let p = c.in_ok-look.ensures.how in
    record {
      deaths = deaths_then c.look.ensures.went.deaths c.head.ensures.went.deaths;
      spent = omega (arith, c.look.ensures.went.spent, c.head.ensures.went.spent);
      how = (recovered (says c.decode-found.result) c.decode-found.ensures.0 p c.head.ensures.went c.in_ok-head.ensures.how, c.decode-found.ensures.1);
    }
