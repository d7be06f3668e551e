use Rattle.std.proofs.Common.{◌∙◌}
use Rattle.memory.specs.Words.{event_of}
use Rattle.memory.proofs.Logged.{body_reads}
use Rattle.memory.proofs.diary.Diary.push_event.Goals as goal

pub returns-clause-seen : goal.returns-clause-seen
returns-clause-seen c =
    c.push_head.ensures.read _ _ c.push.ensures.words
    ∙ (body_reads c.args.what c.args.tag _ _ _ c.args.a _ c.from-ask.ensures.1 c.from-ask.ensures.0 ∙ c.push_words-width.ensures.read (event_of c.args.what c.args.tag c.args.a))
