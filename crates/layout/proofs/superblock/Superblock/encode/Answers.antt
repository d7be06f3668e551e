use Rattle.std.proofs.Common.{◌∙◌}
use Rattle.layout.specs.Super.{says}
use Rattle.layout.proofs.Coding.{encoded}
use Rattle.layout.proofs.superblock.Superblock.encode.Goals as goal

pub returns : goal.returns
returns c = c.write_members.ensures ∙ encoded (says c.args.self.now) c.write_heading.new.words c.write_heading.ensures
