use Rattle.std.proofs.Common.{refl, arith}
use Rattle.memory.proofs.Logged.{one_turn_more, turn_head, on_ok_as}
use Rattle.memory.proofs.diary.Diary.note_turn.Goals as goal

pub returns-then-head-clause-seen : goal.returns-then-head-clause-seen
returns-then-head-clause-seen c = one_turn_more c.args.self.now.words.now c.args.self.now.noted _ (omega arith) (omega arith) refl (omega arith)

pub returns-clause-seen : goal.returns-clause-seen
returns-clause-seen c = on_ok_as c.note_word.result _ _ _ (turn_head _) c.note_word.ensures.seen
