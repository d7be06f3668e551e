use Rattle.std.proofs.Common.{ap, ◌∙◌}
use Rattle.script.specs.Meaning.{command_of}
use Rattle.valley.proofs.Room.{command_kept}
use Rattle.valley.proofs.command.Goals as goal

pub returns : goal.returns
returns c whole h = c.parse.ensures ∙ (ap command_of (c.as_slice.ensures.value ∙ h) ∙ command_kept whole)
