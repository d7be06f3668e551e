use Rattle.std.proofs.Common.{◌∷◌, refl, ap, ◌∙◌}
use Rattle.memory.specs.Words.{events_of, Head}
use Rattle.memory.proofs.Logged.{stack, asked_head, refused_head, told_head}
use Rattle.memory.proofs.diary.Diary.push_head.Goals as goal

pub returns-in-Asked-clause-read : goal.returns-in-Asked-clause-read
returns-in-Asked-clause-read c = λ x l e. ap (events_of Head) (stack c.push.ensures.words e) ∙ asked_head _ c.args.body c.args.tag x l c.requires.1 c.args.what c.in-Asked.is (simp c.from-tag.ensures refl)

pub returns-in-Refused-clause-read : goal.returns-in-Refused-clause-read
returns-in-Refused-clause-read c = λ x l e.
    ap (events_of Head) (stack c.push-in-Refused-2.ensures.words (stack c.push-in-Refused.ensures.words e ∙ ap (λ w. w ∷ (x ∷ l)) c.from.ensures)) ∙ refused_head _ c.args.body c.args.tag x l c.requires.1 c.args.what c.in-Refused.why c.in-Refused.is (simp c.from-tag.ensures refl)

pub returns-in-Told-clause-read : goal.returns-in-Told-clause-read
returns-in-Told-clause-read c = λ x l e.
    ap (events_of Head) (stack c.push-in-Told-2.ensures.words (stack c.push-in-Told.ensures.words e))
    ∙ told_head _ c.args.body c.args.tag x l c.requires.1 c.args.what c.in-Told.r _ _ c.in-Told.is c.from-reply.ensures.1 c.from-reply.ensures.0 (simp c.from-tag.ensures refl)
