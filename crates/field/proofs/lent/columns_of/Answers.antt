use Rattle.std.proofs.Common.{subst, sym}
use Rattle.field.specs.Stripe.{Cut}
use Rattle.field.proofs.Words.{chunks_cut}
use Rattle.field.proofs.lent.columns_of.Goals as goal

pub returns : goal.returns
returns c =
    let f = c.fits.ensures.0 c.if-not-fits.false in
    subst (Cut c.args.k c.args.stripe.now) (sym c.columns.ensures) (chunks_cut c.args.k c.args.stripe.now f.0 f.1)
