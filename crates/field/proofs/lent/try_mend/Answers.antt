use Rattle.std.proofs.Common.{◌≡◌, length, sym, subst, rules, arith}
use Rattle.field.specs.Stripe.{Few}
use Rattle.field.proofs.Words.{chunks_cut, chunks_mend}
use Rattle.field.proofs.lent.try_mend.Goals as goal

pub mend_two-requires-clause-few : goal.mend_two-requires-clause-few
mend_two-requires-clause-few c =
    let f = c.fits.ensures.0 c.if-not-fits.false in
    subst Few (sym (chunks_cut c.args.k c.args.stripe.now f.0 f.1).long) f.0

pub mend_two-requires-clause-within : goal.mend_two-requires-clause-within
mend_two-requires-clause-within c =
    let f = c.fits.ensures.0 c.if-not-fits.false in
    let l = (chunks_cut c.args.k c.args.stripe.now f.0 f.1).long in
    (omega arith, omega (arith, l))

pub returns-clause-made : goal.returns-clause-made
returns-clause-made c =
    let f = c.fits.ensures.0 c.if-not-fits.false in
    let l : length c.mend_two.new.stripe ≡ length c.args.stripe.now = search rules in
    chunks_mend c.args.k c.args.stripe.now c.mend_two.new.stripe f.0 f.1 l c.args.a c.args.b c.mend_two.ensures.mended
