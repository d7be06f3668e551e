use Rattle.std.proofs.Common.{length, arith}
use Rattle.store.proofs.Journalling.{serving_kept}
use Rattle.store.proofs.Rewriting.{Home, at_stripe, at_column, fetched}
use Rattle.store.proofs.sectors.read.Given.{Over}
use Rattle.store.proofs.sectors.read.Goals.{After-locate-at}
use Rattle.store.proofs.sectors.read.Goals as goal

at_home : (g : Over) (c : After-locate-at g) → Home c.args.n (length c.args.b.now.members.list) c.args.s c.locate-at.result.stripe c.locate-at.result.column
at_home g c = record { size = c.requires.size.1; lies = c.locate-at.ensures }

pub overflow_add-row : goal.overflow_add-row
overflow_add-row g c =
    let k = c.requires.ready.1.sound.kept in
    omega (arith, at_stripe (at_home g (goal.at.overflow_add-row g c).After-locate-at), c.requires.size.0, k.most)

pub overflow_add-at : goal.overflow_add-at
overflow_add-at g c =
    let k = c.requires.ready.1.sound.kept in
    omega (arith, at_column (at_home g (goal.at.overflow_add-at g c).After-locate-at), k.proper.roster.most)

pub read_column-requires : goal.read_column-requires
read_column-requires g c =
    let at = at_home g (goal.at.read_column-requires g c).After-locate-at in
    record {
      left = c.requires.left;
      size = (omega (arith, at_stripe at, c.requires.size.0), at_column at);
      serving = serving_kept c.args.b.now.members.dead c.requires.ready.1.sound.kept c.requires.marks;
      lent = c.requires.lent;
    }

pub returns-clause-how : goal.returns-clause-how
returns-clause-how g c = fetched (at_home g (goal.at.returns-clause-how g c).After-locate-at) c.requires.size.0 c.in_ok-missing.ensures.how
