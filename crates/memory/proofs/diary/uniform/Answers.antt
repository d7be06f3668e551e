use Rattle.std.proofs.Common.{◌≡◌, ℕ, ◌<◌, length, get_or, replicate, ap, ◌∙◌, rules}
use Rattle.memory.proofs.Logged.{all_same}
use Rattle.memory.proofs.diary.uniform.Goals as goal

pub returns-then-all : goal.returns-then-all
returns-then-all c =
    let h : (k : ℕ) → k < length c.args.words.now → get_or c.args.words.now k 0 ≡ get_or c.args.words.now 0 0 = search rules in
    all_same c.args.words.now (get_or c.args.words.now 0 0) h ∙ ap (λ n. replicate n (get_or c.args.words.now 0 0)) c.requires
