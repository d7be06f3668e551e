use Rattle.std.proofs.Common.{sym, subst}
use Rattle.store.specs.Shelf.{Syncing}
use Rattle.store.specs.declared.Answer.{Answer}
use Rattle.memory.specs.Held.{shelf_of, shelf_with}
use Rattle.memory.specs.Words.{seen_of}
use Rattle.memory.specs.declared.platter.Platter.{Platter}
use Rattle.memory.proofs.Laws.{stood}
use Rattle.memory.proofs.Holds.{syncing_dark, syncing_done}
use Rattle.memory.proofs.world.MemoryDisks.sync.Goals as goal

pub returns-in-Gone : goal.returns-in-Gone
returns-in-Gone c = syncing_dark _ _ _ _ _ c.in-Gone.is (c.asked.ensures.went c.args.self.now.platter)

pub returns-in-Stays : goal.returns-in-Stays
returns-in-Stays c =
    let w = stood _ _ (c.in-Stays.ensures.went c.args.self.now.platter) in
    subst (λ (p : Platter). Syncing (shelf_of c.args.self.now) (seen_of c.args.self.now.diary) Answer.Fine (shelf_with p c.asked.new.diary c.asked.new.state) (seen_of c.asked.new.diary)) (sym c.set_listed.ensures)
    (syncing_done c.args.self.now.platter c.args.self.now.diary c.asked.new.diary c.args.self.now.state c.asked.new.state _ _ w.0 w.1)
