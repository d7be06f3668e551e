use Rattle.std.proofs.Common.{◌≡◌, ℕ, ◌<◌, ◌≤◌, List, length, get_or, take, ap, ◌∙◌, arith}
use Rattle.std.proofs.lemmas.List.{get_or-take, length-take-le}
use Rattle.layout.specs.Super.{says}
use Rattle.store.specs.Durable.{Employed}
use Rattle.store.proofs.Laws.{went_longer}
use Rattle.store.proofs.Heads.{copying_none, copying_more, copying_went}
use Rattle.store.proofs.commit.write_copies.Goals as goal

-- the first three of four or more
three : (xs ds : List ℕ) → xs ≡ ds → 4 ≤ length ds → length (take 3 xs) ≡ 3
three xs ds e l = length-take-le 3 xs (omega (arith, ap length e))

three_at : (xs ds : List ℕ) → xs ≡ ds → (p : ℕ) → p < 3 → get_or (take 3 xs) p 0 ≡ get_or ds p 0
three_at xs ds e p l = get_or-take 3 xs p 0 l ∙ ap (λ (ys : List ℕ). get_or ys p 0) e

pub loop-at-init : goal.loop-at-init
loop-at-init g c = copying_none (says c.args.next.now) c.args.words.now (g.D.Disks.shelf c.args.d.now) (g.D.Disks.seen c.args.d.now)

pub write_sector-requires : goal.write_sector-requires
write_sector-requires g c =
    let w = c.loop-at.invariant.went in
    let ds = c.disks.ensures in
    let lt : c.loop-at.at-index < 3 = omega (arith, three _ _ ds.is ds.roster.least) in
    let e : Employed (g.D.Disks.shelf c.loop-at.d) (get_or (take 3 c.disks.result.now) c.loop-at.at-index 0) = rw (three_at _ _ ds.is c.loop-at.at-index lt) (w.deaths.employed _ (c.requires.heads.employed c.loop-at.at-index lt)) in
    ((omega (arith, w.spent, c.requires.left), e.there, omega (arith, w.deaths.size, c.requires.heads.size)), e.used)

pub returns-in_err-write_sector-clause-went : goal.returns-in_err-write_sector-clause-went
returns-in_err-write_sector-clause-went g c =
    let ds = c.disks.ensures in
    let lt : c.loop-at.at-index < 3 = omega (arith, three _ _ ds.is ds.roster.least) in
    went_longer (omega arith) (copying_went c.requires.lent lt (three_at _ _ ds.is _ lt) c.loop-at.invariant c.write_sector.ensures.went)

pub loop-at-preserved : goal.loop-at-preserved
loop-at-preserved g c =
    let ds = c.disks.ensures in
    let lt : c.loop-at.at-index < 3 = omega (arith, three _ _ ds.is ds.roster.least) in
    copying_more c.requires.lent lt (three_at _ _ ds.is _ lt) c.loop-at.invariant c.write_sector.ensures.went c.in_ok-write_sector.ensures.how.shows
