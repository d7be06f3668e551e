use Rattle.std.proofs.Common.{ℕ, ◌+◌, length, refl, arith}
use Rattle.std.proofs.lemmas.Result.{MatchResult-from_err, MatchResult-weaker}
use Rattle.field.specs.Stripe.{held}
use Rattle.layout.specs.Super.{says}
use Rattle.layout.specs.Places.{index}
use Rattle.layout.proofs.Turning.{index_within}
use Rattle.store.specs.Keeping.{Holds}
use Rattle.store.proofs.Truths.{true-T}
use Rattle.store.specs.Stripes.{chosen}
use Rattle.store.proofs.Laws.{deaths_then}
use Rattle.store.proofs.Standing.{slot_low, member_holds, three_members}
use Rattle.store.proofs.Stores.{count_all}
use Rattle.store.proofs.Journalling.{serving_kept, unjournalled_first, unjournalled_later, journalled_now, holds_low, proper_journalling}
use Rattle.store.proofs.write.journal_stripe.Goals as goal

pub store-requires : goal.store-requires
store-requires g c =
    let k = c.requires.ready.1.sound.kept in
    let S = says c.args.b.now in
    let all = count_all (length S.members) (chosen c.all.result) in
    let low = slot_low (S.generation + 1) in
    record {
      left = omega (arith, all, c.requires.left);
      size = omega (arith, c.slot_of-slot.ensures, low.1, k.least);
      proper = k.proper;
      serving = serving_kept c.args.b.now.members.dead k c.requires.marks;
      employed = k.employed;
      lent = c.requires.lent;
    }

pub returns-in_err-store : goal.returns-in_err-store
returns-in_err-store g c =
    let S = says c.args.b.now in
    let w = c.store.ensures.went in
    let all = count_all (length S.members) (chosen c.all.result) in
    record {
      deaths = w.deaths;
      spent = omega (arith, w.spent, all);
      how = MatchResult-from_err c.from_residual.result _ _ c.from_residual.ensures.0
          (λ _. unjournalled_first S c.args.r (held c.args.stripe.now) (chosen c.all.result) c.slot_of-slot.ensures w c.in_err-store.ensures.how);
    }

pub commit-requires : goal.commit-requires
commit-requires g c =
    let S = says c.args.b.now in
    let k = c.requires.ready.1.sound.kept in
    let w = c.store.ensures.went in
    let all = count_all (length S.members) (chosen c.all.result) in
    record {
      left = omega (arith, w.spent, all, c.requires.left);
      heads = record {
        size = omega (arith, w.deaths.size, k.least);
        proper = proper_journalling S c.args.r k.proper (omega (arith, c.requires.place, k.most));
        employed = λ p l. w.deaths.employed _ (k.employed _ p 0 (member_holds S p 0 (three_members S p k.proper l)));
      };
    }

pub returns : goal.returns
returns g c =
    let S = says c.args.b.now in
    let r = c.args.r in
    let h = held c.args.stripe.now in
    let sel = chosen c.all.result in
    let k = c.requires.ready.1.sound.kept in
    let w = c.store.ensures.went in
    let v = c.commit.ensures.went in
    let all = count_all (length S.members) sel in
    let every = λ (d p : ℕ) (a : Holds S d p r). true-T (c.all.ensures (index p r) (index_within 12 p r (omega arith) (holds_low S k.proper d p r a))) in
    let st = c.in_ok-store.ensures.how.1 in
    record {
      deaths = deaths_then w.deaths v.deaths;
      spent = omega (arith, w.spent, v.spent, all);
      how = MatchResult-weaker c.commit.result c.commit.ensures.how
          (λ _ q. (refl, refl, journalled_now S r h sel c.slot_of-slot.ensures w every st c.requires.place v q))
          (λ _ q. unjournalled_later S r h sel c.slot_of-slot.ensures w every st c.requires.place q);
    }
