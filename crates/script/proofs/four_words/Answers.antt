use Rattle.std.proofs.Common.{◌≡◌, codes, rules}
use Rattle.script.proofs.Says.{is_replace}
use Rattle.script.proofs.four_words.Goals as goal

pub returns-in_ok-small-in-replace-3 : goal.returns-in_ok-small-in-replace-3
returns-in_ok-small-in-replace-3 c = let e : c.args.b.now ≡ codes "replace" = search (rules, is_replace) in rw e (search rules)
