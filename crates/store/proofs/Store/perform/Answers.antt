use Rattle.std.proofs.Common.{◌≡◌, ℕ, ◌+◌, ◌-◌, ◌*◌, ◌/◌, [], get_or, take, drop, refl, ap, ◌∙◌, inl, inr, arith}
use Rattle.std.proofs.lemmas.Result.{MatchResult-from_err}
use Rattle.field.specs.Stripe.{column}
use Rattle.store.specs.Store.{core}
use Rattle.store.proofs.Laws.{deaths_none}
use Rattle.store.proofs.Performing.{asks_for, within, tags_kept, first_chunk, performed_read, performed_write, performed_flush, performed_size, lost_read, lost_write}
use Rattle.store.proofs.Store.perform.Given.{Over}
use Rattle.store.proofs.Store.perform.Goals.{After-as_chunks}
use Rattle.store.proofs.Store.perform.Goals as goal

-- the sector that is written: the words that were lent with the tag
lent_words : (g : Over) (c : After-as_chunks g) → get_or c.as_chunks.result.0.now 0 [] ≡ column c.args.tag.number c.args.room.now
lent_words g c =
    let i = c.index-at.result in
    let n : 64 * i + 64 - 64 * i ≡ 64 = omega arith in
    let words = c.copy_from_slice-in-Write.ensures.after ∙ (ap (λ (m : ℕ). take m (drop (64 * i) c.args.room.now)) n ∙ ap (λ (j : ℕ). column j c.args.room.now) c.index-at.ensures.0) in
    let l = c.copy_from_slice-in-Write.ensures.len ∙ c.requires.lent.1 in
    first_chunk c.copy_from_slice-in-Write.new.self c.as_chunks.result.0.now _ l (ap (λ (m : ℕ). m / 64) l) c.as_chunks.ensures.front ∙ words

pub read-requires-clause-size : goal.read-requires-clause-size
read-requires-clause-size g c =
    let v = c.requires.held in
    (v.stands.same, within v (asks_for v c.args.tag c.requires.taken c.in-Read.is))

pub returns-in_err-read-in-Read : goal.returns-in_err-read-in-Read
returns-in_err-read-in-Read g c =
    record {
      deaths = c.read.ensures.went.deaths;
      same = (refl, tags_kept _ c.args.room.now _ c.requires.lent.0);
      how = MatchResult-from_err c.from_residual.result _ _ c.from_residual.ensures.0 (λ _. lost_read c.requires.held c.read.ensures.went c.in_err-read-in-Read.ensures.how);
    }

pub returns-in_ok-read-in-Read : goal.returns-in_ok-read-in-Read
returns-in_ok-read-in-Read g c =
    record {
      deaths = c.read.ensures.went.deaths;
      same = (refl, tags_kept _ c.args.room.now _ c.requires.lent.0);
      how = λ v.
          rw (c.copy_from_slice.ensures.after, c.in-Read.is)
          (performed_read v c.read.ensures.went c.args.tag.eight (asks_for v c.args.tag c.requires.taken c.in-Read.is) c.read.new.b c.read.new.into c.read.ensures.same.0 c.read.ensures.same.1 c.in_ok-read-in-Read.ensures.how);
    }

pub write-requires-clause-size : goal.write-requires-clause-size
write-requires-clause-size g c =
    let v = c.requires.held in
    (v.stands.same, within v (asks_for v c.args.tag c.requires.taken c.in-Write.is))

pub returns-in_err-write-in-Write : goal.returns-in_err-write-in-Write
returns-in_err-write-in-Write g c =
    let v = c.requires.held in
    let words = lent_words g (goal.at.returns-in_err-write-in-Write g c).After-as_chunks in
    record {
      deaths = c.write.ensures.deaths;
      same = (refl, tags_kept _ c.args.room.now _ c.requires.lent.0);
      how = MatchResult-from_err c.from_residual-in_err-write-in-Write.result _ _ c.from_residual-in_err-write-in-Write.ensures.0
          (λ _. lost_write v c.write.ensures.deaths c.args.tag.eight (asks_for v c.args.tag c.requires.taken c.in-Write.is) (rw (← words) c.in_err-write-in-Write.ensures.how));
    }

pub returns-in_ok-write-in-Write : goal.returns-in_ok-write-in-Write
returns-in_ok-write-in-Write g c =
    let done = c.in_ok-write-in-Write.ensures.how in
    let words = lent_words g (goal.at.returns-in_ok-write-in-Write g c).After-as_chunks in
    record {
      deaths = c.write.ensures.deaths;
      same = (refl, tags_kept _ c.args.room.now _ c.requires.lent.0);
      how = λ v.
          rw c.in-Write.is
          (performed_write v c.write.ensures.deaths c.args.tag.eight (asks_for v c.args.tag c.requires.taken c.in-Write.is) c.write.new.b c.copy_from_slice-in-Write.new.self done.0 done.1 (rw (← words) done.2));
    }

pub returns-in-Flush : goal.returns-in-Flush
returns-in-Flush g c =
    record {
      deaths = deaths_none _ _;
      same = (refl, λ t l. refl);
      how = λ v. rw c.in-Flush.is (performed_flush v c.args.tag.eight c.args.words.now (asks_for v c.args.tag c.requires.taken c.in-Flush.is));
    }

pub returns-in-Size : goal.returns-in-Size
returns-in-Size g c =
    record {
      deaths = deaths_none _ _;
      same = (refl, λ t l. refl);
      how = λ v. rw c.in-Size.is (performed_size v c.args.tag.eight c.args.words.now c.size.result c.size.ensures (asks_for v c.args.tag c.requires.taken c.in-Size.is));
    }

pub returns-in-Add : goal.returns-in-Add
unfolding core
returns-in-Add g c = absurd (elim c.in-Add.is [
  | inl e ↦ (asks_for c.requires.held c.args.tag c.requires.taken e.1).built
  | inr e ↦ (asks_for c.requires.held c.args.tag c.requires.taken e.2).built
])
