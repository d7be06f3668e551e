use Rattle.std.proofs.Common.{◌≡◌, ℕ, length, set, None, sym, refl, ap, ◌∙◌, subst, arith}
use Rattle.store.specs.Between.{Telling}
use Rattle.store.specs.declared.tags.Tags.{Tags}
use Rattle.std.proofs.lemmas.Result.{err_from_is_err_and}
use Rattle.std.proofs.lemmas.Bool.{true≢false}
use Rattle.store.proofs.Histories.{ticks_deaths}
use Rattle.store.proofs.Turning.{rests, tells_one}
use Rattle.store.proofs.Store.turn.Goals as goal

pub returns-in_default-clause-after : goal.returns-in_default-clause-after
returns-in_default-clause-after g c = record { goes = rests c.requires.held c.in_default.ensures }

pub returns-in_err-reply-clause-ticked : goal.returns-in_err-reply-clause-ticked
returns-in_err-reply-clause-ticked g c =
    let p = err_from_is_err_and c.from_residual.result c.from_residual.ensures.1 in
    let lost = c.in_err-reply.ensures.how in
    ticks_deaths c.perform.ensures.deaths

pub returns : goal.returns
returns g c =
    let v = c.requires.held in
    let f = c.in-Some.ensures in
    let died = c.perform.ensures.deaths in
    let tags : c.perform.new.self.tags ≡ c.args.self.now.tags = c.perform.ensures.same.0 in
    record {
      only = λ e. absurd (true≢false e);
      after =
          subst (λ (n : ℕ). Telling (record { tag = n; ask = c.in-Some.ask; reply = c.in_ok-reply.reply }) c.perform.new.words (record { sectors = c.perform.new.self.sectors; superblock = c.perform.new.self.superblock; tags = c.close.new.self }) c.perform.new.room (g.D.Disks.shelf c.perform.new.d) (g.D.Disks.seen c.perform.new.d)) (sym c.into.ensures)
          (tells_one v.table c.perform.new.self c.perform.new.room c.in-Some.tag.number c.in-Some.tag.eight f (c.in_ok-reply.ensures.how v) died.size
          (record { sectors = c.perform.new.self.sectors; superblock = c.perform.new.self.superblock; tags = c.close.new.self }) refl refl (omega (arith, c.in-Some.tag.eight, c.close.ensures.1.1, ap (λ (ts : Tags). length ts.asked) tags))
          (c.close.ensures.0 ∙ ap (λ (ts : Tags). set ts.asked c.in-Some.tag.number None) tags) c.close.ensures.1.0 c.perform.ensures.same.1);
      ticked = ticks_deaths died;
    }
