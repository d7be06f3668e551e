use Rattle.std.proofs.Common.{sym, ap, ◌∙◌, subst}
use Rattle.store.specs.Shelf.{Reading}
use Rattle.store.specs.declared.Answer.{Answer}
use Rattle.memory.specs.Held.{shelf_of, shelf_with, cell_at}
use Rattle.memory.specs.Words.{seen_of}
use Rattle.memory.proofs.Laws.{reading_dark, stood, truth, shown_in}
use Rattle.memory.proofs.world.MemoryDisks.read.Goals as goal

pub returns-in-Gone : goal.returns-in-Gone
returns-in-Gone c = reading_dark _ _ _ _ _ _ _ _ c.in-Gone.is (c.asked.ensures.went c.args.self.now.platter)

pub returns-then-not-self-d : goal.returns-then-not-self-d
returns-then-not-self-d c =
    let w = stood _ _ (c.in-Stays.ensures.went c.args.self.now.platter) in
    Reading.dead _ _ _ w.0 w.1 c.if-not-self-d.true

pub returns-else-not-self-d : goal.returns-else-not-self-d
returns-else-not-self-d c =
    let w = stood _ _ (c.in-Stays.ensures.went c.args.self.now.platter) in
    subst (λ b. Reading (shelf_of c.args.self.now) (seen_of c.args.self.now.diary) c.args.d c.args.s b Answer.Fine (shelf_with c.args.self.now.platter c.asked.new.diary c.asked.new.state) (seen_of c.asked.new.diary))
    (shown_in c.args.self.now.platter c.args.d c.args.s c.requires.0.1 c.requires.0.2 ∙ (sym (ap (λ k. (cell_at c.args.self.now.platter k).shown) c.place-at.ensures.place) ∙ (sym c.shown.ensures ∙ sym c.copy_from_slice.ensures.after)))
    (Reading.reads _ _ w.0 w.1 (truth _ c.if-not-self-d.false))
