use Rattle.std.proofs.Common.{rules}
use Rattle.script.proofs.Says.{no_two}
use Rattle.script.proofs.two_words.Goals as goal

pub returns-in_default-b : goal.returns-in_default-b
returns-in_default-b c = no_two c.args.a.now c.args.b.now (search rules) (search rules) (search rules) (search rules) (search rules)

pub returns-in_default-b-5 : goal.returns-in_default-b-5
returns-in_default-b-5 c = no_two c.args.a.now c.args.b.now (search rules) (search rules) (search rules) (search rules) (search rules)

pub returns-in_default-b-10 : goal.returns-in_default-b-10
returns-in_default-b-10 c = no_two c.args.a.now c.args.b.now (search rules) (search rules) (search rules) (search rules) (search rules)

pub returns-in_default-b-11 : goal.returns-in_default-b-11
returns-in_default-b-11 c = no_two c.args.a.now c.args.b.now (search rules) (search rules) (search rules) (search rules) (search rules)
