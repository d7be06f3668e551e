use Rattle.std.proofs.Common.{List, length, arith}
use Rattle.field.specs.Column.{Sector}
use Rattle.field.specs.Stripe.{held}
use Rattle.field.proofs.Mending.{anew_mends}
use Rattle.field.proofs.Missings.{mends_parity}
use Rattle.field.proofs.stripe.mend.Goals as goal

pub returns-then-a-lt2-clause-mended : goal.returns-then-a-lt2-clause-mended
returns-then-a-lt2-clause-mended g c =
    let s : List Sector = g.T.Part.cut c.args.stripe.now in
    let t : List Sector = g.T.Part.cut c.make_parity.new.stripe in
    mends_parity (length s) c.in-One.a c.args.missing (held s) (held t) c.in-One.is (omega arith) (anew_mends (length s) (held s) (held t) (omega arith) c.make_parity.ensures.anew)
