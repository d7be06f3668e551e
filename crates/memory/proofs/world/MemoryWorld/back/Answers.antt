use Rattle.memory.proofs.Backs.{back_to}
use Rattle.memory.proofs.world.MemoryWorld.back.Goals as goal

pub returns : goal.returns
returns c =
    back_to c.args.self.now.platter c.choose.new.self c.args.self.now.diary c.note_cut.new.self c.wake.new.diary c.args.self.now.state c.wake.new.state c.args.self.now.plan.seed
    c.choose.ensures.size c.choose.ensures.left c.choose.ensures.forgotten c.requires c.note_cut.ensures.seen (c.wake.ensures.died c.args.self.now.platter)
