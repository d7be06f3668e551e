use Rattle.std.proofs.Common.{◌≡◌, ◌+◌, ◌*◌, ◌≤◌, Bool, true, List, length, set, Some, sym, ap, ◌∙◌, arith, rules}
use Rattle.std.proofs.lemmas.Result.{MatchResult-from_err, MatchResult-weaker}
use Rattle.layout.specs.Super.{says}
use Rattle.store.specs.Durable.{Deaths}
use Rattle.store.specs.Sectors.{Saved, Unsaved}
use Rattle.layout.specs.Super.{Super}
use Rattle.field.specs.Stripe.{held}
use Rattle.store.specs.Stripes.{extra, chosen}
use Rattle.store.specs.Shelf.{count}
use Rattle.store.specs.Writes.{MarksTrue, journalling, Journalled}
use Rattle.store.proofs.Laws.{deaths_then}
use Rattle.store.proofs.Standing.{ready_asked}
use Rattle.store.proofs.Loads.{marks_learned}
use Rattle.store.proofs.Journalling.{serving_kept}
use Rattle.store.proofs.Rewriting.{Home, at_stripe, at_column, Taken, unsaved_load, unsaved_journal, next, sound_journalled, unsaved_place, saved_place, few_touched, touching, marks_deaths}
use Rattle.store.proofs.sectors.write.Given.{Over}
use Rattle.store.proofs.sectors.write.Goals.{After-locate-at, After-take, In_ok-lasting}
use Rattle.store.proofs.sectors.write.Goals as goal

-- where the sector is
at_home : (g : Over) (c : After-locate-at g) → Home c.args.n (length c.args.b.now.members.list) c.args.s c.locate-at.result.stripe c.locate-at.result.column
at_home g c = record { size = c.requires.size.1; lies = c.locate-at.ensures }

pub load-requires : goal.load-requires
load-requires g c =
    let k = c.requires.ready.1.0.sound.kept in
    let l = at_stripe (at_home g (goal.at.load-requires g c).After-locate-at) in
    simp c.begin-change.ensures.1.0
    (record {
      left = omega (arith, c.requires.left);
      size = (omega (arith, l, c.begin-change.ensures.1.1.0, c.requires.size.0), k.most);
      serving = serving_kept c.args.b.now.members.dead k c.requires.marks;
      lent = c.requires.lent;
    })

pub returns-in_err-missing-clause-how : goal.returns-in_err-missing-clause-how
returns-in_err-missing-clause-how g c =
    let gone : Unsaved c.args.n c.args.s c.args.words.now (says c.args.b.now) (g.D.Disks.shelf c.args.d.now) (g.D.Disks.shelf c.load.new.self.disks.now) =
    rw (← c.begin-change.ensures.1.0) (unsaved_load c.load.ensures.went c.in_err-missing.ensures.how) in
    MatchResult-from_err c.from_residual.result _ _ c.from_residual.ensures.0 (λ _. search rules)

pub take-requires-clause-within : goal.take-requires-clause-within
take-requires-clause-within g c = omega (arith, c.load.auto.columns, c.requires.lent, at_column (at_home g (goal.at.take-requires-clause-within g c).After-locate-at))

-- ---- once the words are in the stripe

-- it is the stripe that was asked for
row_taken : (g : Over) (c : After-take g) → c.take.new.self.stripe ≡ c.locate-at.result.stripe
row_taken g c = c.take.ensures.same.1.1 ∙ (c.load.ensures.same.1.0 ∙ c.begin-change.ensures.1.1.0)

-- it was loaded, and the words were put in
taken : (g : Over) (c : After-take g) →
    Taken (says c.args.b.now) c.args.n c.args.s c.locate-at.result.stripe c.locate-at.result.column c.in_ok-missing.missing c.load.new.columns c.take.new.columns c.args.words.now
    (g.D.Disks.shelf c.args.d.now) (g.D.Disks.seen c.args.d.now) (g.D.Disks.shelf c.take.new.self.disks.now) (g.D.Disks.seen c.take.new.self.disks.now)
taken g c =
    record {
      home = record { size = c.requires.size.1; lies = c.locate-at.ensures };
      same = c.requires.size.0;
      long = omega (arith, c.load.auto.columns, c.requires.lent);
      went = rw (← c.begin-change.ensures.1.0, c.take.ensures.same.1.0) c.load.ensures.went;
      loaded = rw (← c.begin-change.ensures.1.0, c.take.ensures.same.1.0, ← c.begin-change.ensures.1.1.0) c.in_ok-missing.ensures.how;
      put = c.take.ensures.put;
    }

-- what was learned of the members is true
marks_taken : (g : Over) (c : After-take g) → MarksTrue (g.D.Disks.shelf c.take.new.self.disks.now) c.learn.new.members
marks_taken g c =
    let m = c.args.b.now.members in
    let v = taken g c in
    let y = g.D.Disks.shelf c.take.new.self.disks.now in
    rw (c.learn.ensures.list, c.learn.ensures.marks) (marks_learned y m.list m.dead c.in_ok-missing.missing c.locate-at.result.stripe (marks_deaths v.went.deaths m.list m.dead c.requires.marks) v.loaded.dead)

pub journal-requires : goal.journal-requires
journal-requires g c =
    let at = (goal.at.journal-requires g c).After-take in
    let v = taken g at in
    let list = c.learn.ensures.list in
    record {
      left = omega (arith, ap length list, v.went.spent, c.requires.left);
      place = omega (arith, row_taken g at, at_stripe v.home, v.went.deaths.size, c.requires.size.0);
      ready = (c.requires.ready.0, rw list (ready_asked v.went _ c.requires.ready.0 c.requires.ready.1.0));
      marks = marks_taken g at;
      few = c.requires.few;
      lent = omega (arith, ap length list, c.load.auto.columns, c.take.auto.columns, c.requires.lent);
    }

pub returns-in_err-lasting : goal.returns-in_err-lasting
returns-in_err-lasting g c =
    let at = (goal.at.returns-in_err-lasting g c).After-take in
    let v = taken g at in
    let S = says c.args.b.now in
    let x = c.args.d.now in
    let z = c.journal.new.self.disks.now in
    let list = c.learn.ensures.list in
    let died : Deaths (g.D.Disks.shelf x) (g.D.Disks.seen x) (g.D.Disks.shelf z) (g.D.Disks.seen z) = deaths_then v.went.deaths c.journal.ensures.deaths in
    let spent : (g.D.Disks.shelf x).left ≤ (g.D.Disks.shelf z).left + (2 * length S.members + 2 * extra S.rebuild + 8) = omega (arith, ap length list, v.went.spent, c.journal.ensures.spent) in
    let gone : Unsaved c.args.n c.args.s c.args.words.now S (g.D.Disks.shelf x) (g.D.Disks.shelf z) = unsaved_journal v (rw (← list, ← row_taken g at) c.in_err-lasting.ensures.how) in
    record { deaths = search rules; spent = search rules; how = MatchResult-from_err c.from_residual-in_err-lasting.result _ _ c.from_residual-in_err-lasting.ensures.0 (λ _. search rules) }

-- ---- once the stripe lasts in the journal

-- the next superblock says so, and little is left to write
record Lasts (g : Over) (c : In_ok-lasting g) : Type 0 where
  next : says c.journal.new.b ≡ journalling (says c.args.b.now) c.locate-at.result.stripe
  journalled : Journalled (says c.args.b.now) c.locate-at.result.stripe (held c.take.new.columns) (g.D.Disks.shelf c.take.new.self.disks.now) (g.D.Disks.shelf c.journal.new.self.disks.now)
  row : c.journal.new.self.stripe ≡ c.locate-at.result.stripe
  touched : c.journal.new.self.touched ≡ touching c.locate-at.result.column
  few : count (length c.journal.new.b.members.list) (chosen c.journal.new.self.touched) + extra c.journal.new.b.rebuild ≤ 3 + extra c.args.b.now.rebuild
  marks : MarksTrue (g.D.Disks.shelf c.journal.new.self.disks.now) c.journal.new.b.members

lasts : (g : Over) (c : In_ok-lasting g) → Lasts g c
lasts g c =
    let at = (goal.at.place-requires g c).After-take in
    let j = c.locate-at.result.column in
    let how = c.in_ok-lasting.ensures.how in
    let list = c.learn.ensures.list in
    let row = row_taken g at in
    let next : says c.journal.new.b ≡ journalling (says c.args.b.now) c.locate-at.result.stripe = rw (← list, ← row) how.1 in
    let touched : c.journal.new.self.touched ≡ touching j = c.journal.ensures.same.1.1 ∙ (c.take.ensures.touched ∙ ap (λ (v : List Bool). set v (2 + j) true) (c.load.ensures.same.1.1 ∙ c.begin-change.ensures.1.1.1)) in
    record {
      next = next;
      journalled = rw (← list, ← row) how.3;
      row = c.journal.ensures.same.1.0 ∙ row;
      touched = touched;
      few = rw touched (omega (arith, few_touched (length c.journal.new.b.members.list) j, ap (λ (Q : Super). extra Q.rebuild) next));
      marks = rw how.2 (marks_deaths c.journal.ensures.deaths c.learn.new.members.list c.learn.new.members.dead (marks_taken g at));
    }

pub place-requires : goal.place-requires
place-requires g c =
    let v = taken g (goal.at.place-requires g c).After-take in
    let l = lasts g c in
    let died = deaths_then v.went.deaths c.journal.ensures.deaths in
    record {
      left = omega (arith, l.few, ap length c.learn.ensures.list, v.went.spent, c.journal.ensures.spent, c.requires.left);
      place = (
        omega (arith, l.row, at_stripe v.home, died.size, c.requires.size.0),
        (omega (arith, died.size, c.requires.ready.1.0.sound.kept.most), (ap (λ (Q : Super). Q.journal) l.next ∙ ap Some (sym l.row), c.in_ok-lasting.ensures.how.0 ∙ sym c.journal.ensures.same.1.0)),
      );
      sound = (next v c.requires.ready.0, sound_journalled v l.next l.journalled c.requires.ready.0 c.requires.ready.1.0);
      marks = l.marks;
      lent = omega (arith, ap (λ (Q : Super). length Q.members) l.next, c.load.auto.columns, c.take.auto.columns, c.requires.lent);
    }

pub returns : goal.returns
returns g c =
    let v = taken g (goal.at.returns g c).After-take in
    let l = lasts g (goal.at.returns g c).In_ok-lasting in
    let S = says c.args.b.now in
    let x = c.args.d.now in
    let o = c.place.new.self.0 in
    let died : Deaths (g.D.Disks.shelf x) (g.D.Disks.seen x) (g.D.Disks.shelf o) (g.D.Disks.seen o) = deaths_then v.went.deaths (deaths_then c.journal.ensures.deaths c.place.ensures.deaths) in
    let spent : (g.D.Disks.shelf x).left ≤ (g.D.Disks.shelf o).left + (2 * length S.members + 2 * extra S.rebuild + 8) =
    omega (arith, l.few, ap length c.learn.ensures.list, v.went.spent, c.journal.ensures.spent, c.place.ensures.spent) in
    let marks : MarksTrue (g.D.Disks.shelf o) c.journal.new.b.members = marks_deaths c.place.ensures.deaths c.journal.new.b.members.list c.journal.new.b.members.dead l.marks in
    record {
      deaths = search rules;
      spent = search rules;
      how = MatchResult-weaker c.place.result c.place.ensures.how
          (λ _ p.
          let saved : Saved c.args.n c.args.s c.args.words.now S (g.D.Disks.shelf x) (g.D.Disks.shelf o) = saved_place v l.next l.journalled (rw (← l.touched, ← l.row) p) in
          (rw (← c.locate-at.ensures.1) l.next, search rules, search rules))
          (λ _ p. let unsaved : Unsaved c.args.n c.args.s c.args.words.now S (g.D.Disks.shelf x) (g.D.Disks.shelf o) = unsaved_place v l.next l.journalled p in search rules);
    }
