use Rattle.std.proofs.Common.{◌≡◌, ℕ, ◌+◌, ◌-◌, ◌*◌, ◌<◌, ◌≤◌, Some, length, set, sym, refl, ap, ◌∙◌, subst, arith, lit<}
use borrow.Rule.Slice.PartMut.{put_mid}
use Rattle.field.specs.Stripe.{column, Written}
use Rattle.field.proofs.Words.{written}
use Rattle.store.specs.declared.refusal.Refusal.{Refusal}
use Rattle.store.specs.declared.refusal.Refusal.TheVariants.{Tag as BadTag, Sector, Unbuilt}
use Rattle.store.specs.Store.{wrong}
use Rattle.store.specs.Promise.{can}
use Rattle.store.specs.Tags.{Reaches, number_of, refusal_of}
use Rattle.store.proofs.Asking.{refusal_is, not_refused, reaches, refused_on, asked_on}
use Rattle.store.proofs.Performing.{size_is}
use Rattle.store.proofs.Store.ask.Goals as goal

-- no refusal is told by 0
told : (why : Refusal) → 0 < number_of why
told BadTag = lit< tt
told Sector = lit< tt
told Unbuilt = lit< tt

pub returns-in-Err-clause-goes : goal.returns-in-Err-clause-goes
returns-in-Err-clause-goes c = λ x es v.
    let t = c.args.tag in
    let a = c.args.a in
    let is : c.into.result ≡ wrong can x.sectors v.h t a
    = c.into.ensures ∙ c.in-Err.ensures.why ∙ (ap (λ (n : ℕ). refusal_of c.args.self.now.tags.asked n t a) (sym (size_is v)) ∙ refusal_is v.table t a) in
    refused_on v t a c.args.words.now c.into.result (let l = told c.in-Err.why in omega (arith, c.into.ensures)) is

pub returns-in-Ok-clause-goes : goal.returns-in-Ok-clause-goes
returns-in-Ok-clause-goes c = λ x es v.
    let t = c.args.tag in
    let a = c.args.a in
    let ts = c.args.self.now.tags.asked in
    let i = c.index-at.result in
    let n : c.in-Ok.t.number ≡ t = c.in-Ok.ensures.tag in
    let e : i ≡ t = c.index-at.ensures.0 ∙ n in
    let room' = put_mid (64 * i) (64 * i + 64 - 64 * i) c.args.room.now c.copy_from_slice.new.self in
    let none = not_refused ts _ t a (sym c.in-Ok.ensures.why) in
    let fits = reaches _ a none.2 in
    let long : 64 * i + 64 ≤ length c.args.room.now = omega (arith, e, none.0, c.requires.lent.0) in
    let whole : length c.copy_from_slice.new.self ≡ 64 = omega (arith, ap length c.copy_from_slice.ensures.after, c.requires.lent.1) in
    let put : Written t c.args.words.now (λ k. column k c.args.room.now) (λ k. column k room')
    = subst (λ (j : ℕ). Written j c.args.words.now (λ k. column k c.args.room.now) (λ k. column k room')) e
    (written i (64 * i + 64 - 64 * i) c.args.room.now c.copy_from_slice.new.self long whole (omega arith) c.args.words.now c.copy_from_slice.ensures.after) in
    let noted : c.note.new.self.asked ≡ set ts t (Some a) = c.note.ensures.0 ∙ ap (λ (j : ℕ). set ts j (Some a)) n in
    let is : 0 ≡ wrong can x.sectors v.h t a = c.in-Ok.ensures.why ∙ (ap (λ (m : ℕ). refusal_of ts m t a) (sym (size_is v)) ∙ refusal_is v.table t a) in
    asked_on v t a c.args.words.now (record { sectors = c.args.self.now.sectors; superblock = c.args.self.now.superblock; tags = c.note.new.self }) room' refl refl
    (omega (arith, c.note.ensures.1.1, none.0)) noted c.note.ensures.1.0 put.here (λ u l ne. put.others u ne) (subst (λ (m : ℕ). Reaches a m) (sym (size_is v)) fits.0) fits.1 is
