use Rattle.std.proofs.Common.{◌≡◌, length, sym, subst, rules}
use Rattle.field.specs.Stripe.{Few}
use Rattle.field.proofs.Words.{chunks_cut, chunks_anew}
use Rattle.field.proofs.lent.try_make_parity.Goals as goal

pub make_parity-requires : goal.make_parity-requires
make_parity-requires c =
    let f = c.fits.ensures.0 c.if-not-fits.false in
    subst Few (sym (chunks_cut c.args.k c.args.stripe.now f.0 f.1).long) f.0

pub returns-clause-made : goal.returns-clause-made
returns-clause-made c =
    let f = c.fits.ensures.0 c.if-not-fits.false in
    let l : length c.make_parity.new.stripe ≡ length c.args.stripe.now = search rules in
    chunks_anew c.args.k c.args.stripe.now c.make_parity.new.stripe f.0 f.1 l c.make_parity.ensures.anew
