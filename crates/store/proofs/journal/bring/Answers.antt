use Rattle.std.proofs.Common.{refl, inl, inr, arith}
use Rattle.layout.specs.Super.{says}
use Rattle.store.proofs.Laws.{went_none, went_longer}
use Rattle.store.proofs.Standing.{slot_low}
use Rattle.store.proofs.Carried.{level_across, across_then, brought_members, brought_fill, slot_apart, inside_some, fills_of, fills_by, fills_none}
use Rattle.store.proofs.journal.bring.Goals as goal

pub returns-in_default-clause-went : goal.returns-in_default-clause-went
returns-in_default-clause-went g c = went_longer (omega arith) (went_none _ _ _)

pub carry_all-requires : goal.carry_all-requires
carry_all-requires g c =
    let S = says c.args.b.now in
    let l = inside_some c.args.b.now.journal c.in-Some.r _ c.in-Some.is c.requires.size.1.1 in
    let low = slot_low c.args.b.now.generation in
    record {
      left = omega (arith, c.requires.left);
      place = (omega (arith, c.slot_of-from.ensures, low.1, c.requires.size.0), (l, slot_apart S c.slot_of-from.ensures c.in-Some.is));
      employed = λ p h. c.requires.employed _ p 0 (inl (h, refl));
    }

pub returns-in_err-carry_all-clause-went : goal.returns-in_err-carry_all-clause-went
returns-in_err-carry_all-clause-went g c = went_longer (omega arith) (level_across (says c.args.b.now) c.slot_of-from.ensures c.in-Some.is c.carry_all.ensures.went)

pub carry-requires : goal.carry-requires
carry-requires g c =
    let w = c.carry_all.ensures.went in
    let l = inside_some c.args.b.now.journal c.in-Some.r _ c.in-Some.is c.requires.size.1.1 in
    let low = slot_low c.args.b.now.generation in
    record {
      left = omega (arith, w.spent, c.requires.left);
      place = (omega (arith, c.slot_of-from.ensures, low.1, w.deaths.size, c.requires.size.0), omega (arith, l, w.deaths.size));
      employed = w.deaths.employed _ (c.requires.employed _ c.in-Some-rebuild.fill.place c.in-Some.r (inr (fills_by c.args.b.now.rebuild c.in-Some-rebuild.fill c.in-Some.r c.in-Some-rebuild.is c.if-r-fill.true)));
    }

pub returns-in_err-carry-clause-went : goal.returns-in_err-carry-clause-went
returns-in_err-carry-clause-went g c =
    across_then (says c.args.b.now) c.slot_of-from.ensures c.in-Some.is c.carry_all.ensures.went c.carry.ensures.went

pub returns-in_ok-carry : goal.returns-in_ok-carry
returns-in_ok-carry g c =
    let S = says c.args.b.now in
    record {
      went = across_then S c.slot_of-from.ensures c.in-Some.is c.carry_all.ensures.went c.carry.ensures.went;
      how = (
        λ _. c.in_ok-carry.ensures.how.0,
        brought_fill S c.slot_of-from.ensures c.in-Some.is c.in_ok-carry_all.ensures.how c.in-Some-rebuild.fill.disk
            (λ d p f. (fills_of c.args.b.now.rebuild c.in-Some-rebuild.fill d p c.in-Some.r c.in-Some-rebuild.is f).1) c.carry.ensures.went c.in_ok-carry.ensures.how.1,
      );
    }

pub returns-else-r-fill : goal.returns-else-r-fill
returns-else-r-fill g c =
    let S = says c.args.b.now in
    record {
      went = went_longer (omega arith) (level_across S c.slot_of-from.ensures c.in-Some.is c.carry_all.ensures.went);
      how = brought_members S c.slot_of-from.ensures c.in-Some.is c.in_ok-carry_all.ensures.how
          (λ d p f. let l = (fills_of S.rebuild c.in-Some-rebuild.fill d p c.in-Some.r c.in-Some-rebuild.is f).2 in omega (arith, l, c.if-r-fill.false));
    }

pub returns-in_default-rebuild : goal.returns-in_default-rebuild
returns-in_default-rebuild g c =
    let S = says c.args.b.now in
    record {
      went = went_longer (omega arith) (level_across S c.slot_of-from.ensures c.in-Some.is c.carry_all.ensures.went);
      how = brought_members S c.slot_of-from.ensures c.in-Some.is c.in_ok-carry_all.ensures.how (λ d p f. fills_none S.rebuild d p c.in-Some.r c.in_default-rebuild.is f);
    }
