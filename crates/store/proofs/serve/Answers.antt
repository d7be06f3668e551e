use Rattle.std.proofs.Common.{◌≡◌, ◌∷◌, sym, refl, ap, ◌∙◌, arith, rules}
use Rattle.store.specs.Event.{Told}
use Rattle.store.specs.Shelf.{told_of}
use Rattle.store.specs.Between.{ticks, Serving}
use Rattle.store.proofs.Steps.{explained, explained_same, answered_sectors, told_sectors, serving_same, said_serving, after_some, after_none, ticks_said, ticks_told, ticks_turned}
use Rattle.store.proofs.Opening.{serving_allowed}
use Rattle.store.proofs.serve.Goals as goal
use Rattle.store.proofs.serve.Goals.{in-Some+else-not-said, in_default}

-- what is asked, said as `ask` has it, is explained
pub said-requires : goal.said-requires
said-requires g c = (
  explained_same (explained (c.ask-why.ensures.goes _ _ (serving_same c.loop-t.invariant.0 c.next.ensures.0 c.next.ensures.1)))
      (sym (answered_sectors c.ask-why.result c.in-Some.a (g.W.Disks.shelf c.next.new.self))) refl,
  search rules,
)

pub turn-requires : goal.turn-requires
turn-requires g c =
    let same : ticks (g.W.Disks.seen c.match-next.w) ≡ ticks (g.W.Disks.seen c.loop-t.w) =
    elim c.match-next.branch [
      | in-Some+else-not-said w ↦ ap (λ v. ticks (g.W.Disks.seen v)) w.w-is ∙ (ap ticks (w.if-not-said.ensures.0 tt) ∙ (ticks_said w.ask-why.result w.in-Some.tag w.in-Some.a c.next.new.words (g.W.Disks.seen c.next.new.self) ∙ ap ticks c.next.ensures.1))
      | in_default w ↦ ap (λ v. ticks (g.W.Disks.seen v)) w.w-is ∙ ap ticks c.next.ensures.1
    ] in
    let heard : Serving c.match-next.s c.match-next.room (g.W.Disks.shelf c.match-next.w) (g.W.Disks.seen c.match-next.w) =
    elim c.match-next.branch [
      | in-Some+else-not-said w ↦ simp (w.w-is, w.s-is, w.room-is) (said_serving w.ask-why.result w.in-Some.tag w.in-Some.a c.next.new.words
          (w.ask-why.ensures.goes _ _ (serving_same c.loop-t.invariant.0 c.next.ensures.0 c.next.ensures.1))
          (w.if-not-said.ensures.0 tt) (w.if-not-said.ensures.1.0 tt) (w.if-not-said.ensures.1.1 tt))
      | in_default w ↦ simp (w.w-is, w.s-is, w.room-is) (serving_same c.loop-t.invariant.0 c.next.ensures.0 c.next.ensures.1)
    ] in
    record {
      soon = simp c.allow.ensures.0 (omega arith);
      lent = search rules;
      held = serving_same (serving_allowed 256 heard) c.allow.ensures.0 c.allow.ensures.1;
      early = omega (arith, same, ap ticks c.allow.ensures.1, c.loop-t.invariant.1, c.requires.early, c.loop-t-test.true);
    }

pub returns-in-Err-clause-ticked : goal.returns-in-Err-clause-ticked
returns-in-Err-clause-ticked g c =
    let same : ticks (g.W.Disks.seen c.match-next.w) ≡ ticks (g.W.Disks.seen c.loop-t.w) =
    elim c.match-next.branch [
      | in-Some+else-not-said w ↦ ap (λ v. ticks (g.W.Disks.seen v)) w.w-is ∙ (ap ticks (w.if-not-said.ensures.0 tt) ∙ (ticks_said w.ask-why.result w.in-Some.tag w.in-Some.a c.next.new.words (g.W.Disks.seen c.next.new.self) ∙ ap ticks c.next.ensures.1))
      | in_default w ↦ ap (λ v. ticks (g.W.Disks.seen v)) w.w-is ∙ ap ticks c.next.ensures.1
    ] in
    λ _. omega (arith, same, c.in-Err.ensures.ticked, ap ticks c.allow.ensures.1, c.loop-t.invariant.1, c.loop-t-test.true)

pub told-requires : goal.told-requires
told-requires g c =
    let telling = after_some c.turn.new.words c.turn.new.self c.turn.new.room (g.W.Disks.shelf c.turn.new.d) (g.W.Disks.seen c.turn.new.d) c.in-Ok.e c.in-Some-e.field-0 c.in-Some-e.is c.in-Ok.ensures.after in (
      explained_same (explained telling.goes)
          (ap (λ y. y.sectors) c.turned.ensures.1 ∙ sym (told_sectors c.in-Some-e.field-0.ask c.in-Some-e.field-0.reply (g.W.Disks.shelf c.turn.new.d)))
          (ap (λ es. Told c.in-Some-e.field-0.tag c.in-Some-e.field-0.ask c.in-Some-e.field-0.reply c.turn.new.words ∷ es) (c.if-not-turned.ensures.0 tt)),
      search rules,
    )

pub loop-t-preserved-else-not-told : goal.loop-t-preserved-else-not-told
loop-t-preserved-else-not-told g c =
    let same : ticks (g.W.Disks.seen c.match-next.w) ≡ ticks (g.W.Disks.seen c.loop-t.w) =
    elim c.match-next.branch [
      | in-Some+else-not-said w ↦ ap (λ v. ticks (g.W.Disks.seen v)) w.w-is ∙ (ap ticks (w.if-not-said.ensures.0 tt) ∙ (ticks_said w.ask-why.result w.in-Some.tag w.in-Some.a c.next.new.words (g.W.Disks.seen c.next.new.self) ∙ ap ticks c.next.ensures.1))
      | in_default w ↦ ap (λ v. ticks (g.W.Disks.seen v)) w.w-is ∙ ap ticks c.next.ensures.1
    ] in
    let telling = after_some c.turn.new.words c.turn.new.self c.turn.new.room (g.W.Disks.shelf c.turn.new.d) (g.W.Disks.seen c.turn.new.d) c.in-Ok.e c.in-Some-e.field-0 c.in-Some-e.is c.in-Ok.ensures.after in
    let turned = c.if-not-turned.ensures.0 tt in
    let told = c.if-not-told.ensures.0 tt in
    let es : _ = told ∙ ap (λ es. Told c.in-Some-e.field-0.tag c.in-Some-e.field-0.ask c.in-Some-e.field-0.reply c.turn.new.words ∷ es) turned in (
      serving_same telling.goes
          (c.if-not-told.ensures.1 tt ∙ ap (λ y. told_of c.in-Some-e.field-0.ask c.in-Some-e.field-0.reply y) c.turned.ensures.1)
          es,
      omega (arith, same, ap ticks told ∙ ticks_told _ _ _ _ _, ap ticks turned ∙ ticks_turned _, c.in-Ok.ensures.ticked, ap ticks c.allow.ensures.1, c.loop-t.invariant.1),
      omega arith,
    )

pub loop-t-preserved : goal.loop-t-preserved
loop-t-preserved g c =
    let same : ticks (g.W.Disks.seen c.match-next.w) ≡ ticks (g.W.Disks.seen c.loop-t.w) =
    elim c.match-next.branch [
      | in-Some+else-not-said w ↦ ap (λ v. ticks (g.W.Disks.seen v)) w.w-is ∙ (ap ticks (w.if-not-said.ensures.0 tt) ∙ (ticks_said w.ask-why.result w.in-Some.tag w.in-Some.a c.next.new.words (g.W.Disks.seen c.next.new.self) ∙ ap ticks c.next.ensures.1))
      | in_default w ↦ ap (λ v. ticks (g.W.Disks.seen v)) w.w-is ∙ ap ticks c.next.ensures.1
    ] in
    let quiet = after_none c.turn.new.words c.turn.new.self c.turn.new.room (g.W.Disks.shelf c.turn.new.d) (g.W.Disks.seen c.turn.new.d) c.in-Ok.e c.in_default-e.is c.in-Ok.ensures.after in
    let turned = c.if-not-turned.ensures.0 tt in (
      serving_same quiet c.turned.ensures.1 turned,
      omega (arith, same, ap ticks turned ∙ ticks_turned _, c.in-Ok.ensures.ticked, ap ticks c.allow.ensures.1, c.loop-t.invariant.1),
      omega arith,
    )
