use Rattle.std.proofs.Common.{refl}
use Rattle.store.specs.Shelf.{Writing}
use Rattle.memory.proofs.Laws.{stood, truth}
use Rattle.memory.proofs.Holds.{writing_gone, writing_midst, writing_done, before_may}
use Rattle.memory.proofs.world.MemoryDisks.write.Goals as goal

pub returns-in-Gone : goal.returns-in-Gone
returns-in-Gone c = writing_gone _ _ _ _ _ _ _ (c.in-Gone.ensures.went c.args.self.now.platter)

pub returns-in-Goes : goal.returns-in-Goes
returns-in-Goes c =
    writing_midst c.args.self.now.platter c.tear.new.self c.args.d c.args.s c.place-at.result _ _ c.requires.0.0.1 c.requires.0.0.2 c.place-at.ensures.place c.tear.ensures c.args.self.now.diary c.asked.new.diary c.args.self.now.state c.asked.new.state _ _ c.args.words.now
    c.copy_from_slice.ensures.after refl (c.in-Goes.ensures.went c.args.self.now.platter)

pub returns-then-not-self-d : goal.returns-then-not-self-d
returns-then-not-self-d c =
    let w = stood _ _ (c.in-Stays.ensures.went c.args.self.now.platter) in
    Writing.dead _ _ w.0 w.1 c.if-not-self-d.true

pub returns-else-not-self-d : goal.returns-else-not-self-d
returns-else-not-self-d c =
    let w = stood _ _ (c.in-Stays.ensures.went c.args.self.now.platter) in
    writing_done c.args.self.now.platter c.overwrite.new.self c.args.d c.args.s c.place-at.result _ _ c.requires.0.0.1 c.requires.0.0.2 c.place-at.ensures.place c.overwrite.ensures c.args.self.now.diary c.asked.new.diary c.args.self.now.state c.asked.new.state _ _ c.args.words.now
    c.copy_from_slice.ensures.after (before_may c.args.self.now.platter _ _) w.0 w.1 (truth _ c.if-not-self-d.false)
