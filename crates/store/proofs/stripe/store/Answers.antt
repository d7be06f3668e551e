use Rattle.std.proofs.Common.{◌≡◌, ℕ, T, sym, ap, ◌∙◌, subst, inr, arith}
use Rattle.field.specs.Stripe.{held}
use Rattle.layout.specs.Super.{says}
use Rattle.layout.proofs.Turning.{index_within}
use Rattle.layout.specs.Places.{index}
use Rattle.store.specs.Keeping.{Fills}
use Rattle.store.specs.Stripes.{chosen}
use Rattle.store.proofs.Standing.{holds_once}
use Rattle.store.proofs.Laws.{went_longer}
use Rattle.store.proofs.Truths.{true-T}
use Rattle.store.proofs.Stores.{spread_held, spread_fill, stored_members, stored_fill}
use Rattle.store.proofs.stripe.store.Goals as goal

pub returns-in_err-store_members-clause-went : goal.returns-in_err-store_members-clause-went
returns-in_err-store_members-clause-went g c = went_longer (omega arith) (spread_held _ _ c.requires.proper c.store_members.ensures.went)

pub has-requires : goal.has-requires
has-requires g c =
    let f = c.in-Some.ensures in let l = index_within 12 f.0 c.args.row.stripe (omega arith) f.1.2 in omega (arith, l, f.1.1)

-- the column of the disk that is being filled
pub returns-in_err-write_column-clause-went : goal.returns-in_err-write_column-clause-went
returns-in_err-write_column-clause-went g c =
    let f = c.in-Some.ensures in
    spread_fill _ _ c.requires.proper f.0 f.1.0 c.write_column.ensures.went c.store_members.ensures.went (true-T (ap (chosen c.args.which.now) (sym f.1.1) ∙ sym c.if-has.ensures))

pub returns-in_ok-write_column : goal.returns-in_ok-write_column
returns-in_ok-write_column g c =
    let f = c.in-Some.ensures in
    let w = c.in_ok-write_column.ensures.how in
    record {
      went = spread_fill _ _ c.requires.proper f.0 f.1.0 c.write_column.ensures.went c.store_members.ensures.went (true-T (ap (chosen c.args.which.now) (sym f.1.1) ∙ sym c.if-has.ensures));
      how = (λ _. w.0, stored_fill _ _ c.requires.proper f.0 f.1.0 c.write_column.ensures.went c.in_ok-store_members.ensures.how f.1.3 (ap (held c.args.stripe.now) f.1.1) w.1);
    }

pub returns-else-has : goal.returns-else-has
returns-else-has g c =
    let S = says c.args.b.now in
    let sel = chosen c.args.which.now in
    let f = c.in-Some.ensures in
    let m = c.in_ok-store_members.ensures.how in
    record {
      went = went_longer (omega arith) (spread_held _ _ c.requires.proper c.store_members.ensures.went);
      how = (
        m.lit,
        stored_members _ _ c.requires.proper m
            (λ d p q t.
            let same : p ≡ f.0 = holds_once S c.requires.proper d p f.0 c.args.row.stripe c.args.row.stripe (inr q) (inr (subst (λ (e : ℕ). Fills c.args.b.now.rebuild e f.0 c.args.row.stripe) (sym (f.1.3 d p q)) f.1.0)) in
            subst T (ap sel (ap (λ (k : ℕ). index k c.args.row.stripe) same ∙ sym f.1.1) ∙ sym c.if-has.ensures) t),
      );
    }

pub returns-in_default : goal.returns-in_default
returns-in_default g c =
    let m = c.in_ok-store_members.ensures.how in
    record {
      went = went_longer (omega arith) (spread_held _ _ c.requires.proper c.store_members.ensures.went);
      how = (m.lit, stored_members _ _ c.requires.proper m (λ d p q t. c.in_default.ensures d p q));
    }
