use Rattle.std.proofs.Common.{refl}
use Rattle.memory.proofs.Logged.{death_head, on_ok_as}
use Rattle.memory.proofs.diary.Diary.note_death.Goals as goal

pub returns-clause-seen : goal.returns-clause-seen
returns-clause-seen c = on_ok_as c.note_word.result _ _ _ (death_head _ c.args.d (simp c.from.ensures refl) _) c.note_word.ensures.seen
