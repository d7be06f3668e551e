use Rattle.std.proofs.lemmas.Result.{MatchResult-weaker}
use Rattle.field.specs.Stripe.{held}
use Rattle.layout.specs.Super.{says}
use Rattle.store.specs.Stripes.{chosen}
use Rattle.store.proofs.Standing.{holds_once}
use Rattle.store.proofs.Journalling.{serving_kept, placing, unplaced}
use Rattle.store.proofs.write.place_stripe.Goals as goal

pub store-requires-clause-serving : goal.store-requires-clause-serving
store-requires-clause-serving g c =
    let k = c.requires.sound.1.kept in
    serving_kept c.args.b.now.members.dead k c.requires.marks

pub returns-clause-how : goal.returns-clause-how
returns-clause-how g c =
    let S = says c.args.b.now in
    let k = c.requires.sound.1.kept in
    let sel = chosen c.args.which.now in
    let h = held c.args.stripe.now in
    let w = c.store.ensures.went in
    MatchResult-weaker c.store.result c.store.ensures.how
    (λ _ v. placing S c.args.r h sel c.requires.place.1.1 w v.0 k.proper c.requires.place.0 (λ d p q a b. holds_once S k.proper d p q c.args.r c.args.r a b) v.1)
    (λ _ o. unplaced S c.args.r h sel c.requires.place.1.1 w o)
