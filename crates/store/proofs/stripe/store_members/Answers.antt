use Rattle.std.proofs.Common.{◌≡◌, ℕ, ◌+◌, ◌<◌, List, [], length, get_or, sym, subst, arith}
use Rattle.field.specs.Stripe.{held}
use Rattle.field.proofs.Slices.{held_at}
use Rattle.layout.proofs.Turning.{place_within}
use Rattle.store.specs.Durable.{Here, Went, Shows}
use Rattle.store.specs.Stripes.{chosen}
use Rattle.store.proofs.Laws.{went_longer}
use Rattle.store.proofs.Loads.{serving_went}
use Rattle.store.proofs.Stores.{count_more, count_below, storing_none, storing_skip, storing_more, storing_went}
use Rattle.store.proofs.stripe.store_members.Goals as goal
use Rattle.store.proofs.stripe.store_members.Goals.{then-has+in_ok-lay, else-has}

pub loop-i-init : goal.loop-i-init
loop-i-init g c = storing_none _ _ _ _ _ _ _

-- the words that are lent are the column
lent_is : (ds : List ℕ) (i : ℕ) (t : List (List ℕ)) → length t ≡ length ds → i < length ds → get_or t i [] ≡ held t i
lent_is ds i t e l = held_at t i [] (omega arith)

pub lay-requires : goal.lay-requires
lay-requires g c =
    let ds = c.args.members.now.list in
    let sel = chosen c.args.which.now in
    let w = c.loop-i.invariant.went in
    let l : c.loop-i.i < length ds = omega (arith, c.requires.lent) in
    let b = place_within (length ds) c.loop-i.i c.args.row.stripe c.requires.serving.roster.least l in
    let one = count_more c.loop-i.i sel (sym c.if-has.ensures) in
    let most = count_below (c.loop-i.i + 1) (length ds) sel (omega arith) in
    record {
      left = omega (arith, w.spent, c.requires.left, one, most);
      place = (omega (arith, b, c.place_of.ensures), omega (arith, w.deaths.size, c.requires.size));
      serving = serving_went w ds c.args.members.now.dead c.requires.serving;
    }

pub returns-in_err-lay-clause-went : goal.returns-in_err-lay-clause-went
returns-in_err-lay-clause-went g c =
    let ds = c.args.members.now.list in
    let sel = chosen c.args.which.now in
    let l : c.loop-i.i < length ds = omega (arith, c.requires.lent) in
    let most = count_below (c.loop-i.i + 1) (length ds) sel (omega arith) in
    let w = subst (λ (p : ℕ). Went 1 (Here (get_or ds p 0) c.args.row.sector (get_or c.args.stripe.now c.loop-i.i [])) (g.D.Disks.shelf c.loop-i.d) (g.D.Disks.seen c.loop-i.d) (g.D.Disks.shelf c.lay.new.d) (g.D.Disks.seen c.lay.new.d)) c.place_of.ensures c.lay.ensures.went in
    went_longer most (storing_went c.requires.serving.roster l c.loop-i.invariant _ (sym c.if-has.ensures) (lent_is ds c.loop-i.i c.args.stripe.now c.requires.lent l) w)

pub loop-i-preserved : goal.loop-i-preserved
loop-i-preserved g c =
    let ds = c.args.members.now.list in
    let l : c.loop-i.i < length ds = omega (arith, c.requires.lent) in
    elim c.if-has.branch [
      | then-has+in_ok-lay b ↦
          let w = subst (λ (p : ℕ). Went 1 (Here (get_or ds p 0) c.args.row.sector (get_or c.args.stripe.now c.loop-i.i [])) (g.D.Disks.shelf c.loop-i.d) (g.D.Disks.seen c.loop-i.d) (g.D.Disks.shelf b.lay.new.d) (g.D.Disks.seen b.lay.new.d)) b.place_of.ensures b.lay.ensures.went in
          let shows = subst (λ (p : ℕ). Shows (g.D.Disks.shelf b.lay.new.d) (get_or ds p 0) c.args.row.sector (get_or c.args.stripe.now c.loop-i.i [])) b.place_of.ensures b.in_ok-lay.ensures.how.1 in
          rw b.d-is
          (storing_more c.requires.serving.roster l c.loop-i.invariant _ (sym b.if-has.ensures) (lent_is ds c.loop-i.i c.args.stripe.now c.requires.lent l) w b.in_ok-lay.ensures.how.0 shows)
      | else-has b ↦ rw b.d-is (storing_skip c.requires.serving.roster l c.loop-i.invariant (sym b.if-has.ensures))
    ]
