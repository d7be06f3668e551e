use Rattle.std.proofs.Common.{◌+◌, ◌≡◌, ◌++◌, length, take, refl, ap, ◌∙◌, arith}
use Rattle.std.proofs.lemmas.Slice.{take-put_mid}
use Rattle.memory.proofs.Logged.{same_reads, wide_reads}
use Rattle.memory.proofs.diary.Diary.push_words.Goals as goal

pub returns-in-Some-clause-read : goal.returns-in-Some-clause-read
returns-in-Some-clause-read c = λ f. same_reads 0 f _ _ _ _ refl c.push.ensures.words c.in-Some.ensures

pub returns-in-None-clause-read : goal.returns-in-None-clause-read
returns-in-None-clause-read c = λ f.
    let n = c.args.self.now.noted in
    let is : length c.copy_from_slice.new.self ≡ 64 = ap length c.copy_from_slice.ensures.after ∙ c.requires.1 in
    wide_reads _ c.args.self.now.words.now c.args.words.now n f c.requires.1 (omega arith)
    (take-put_mid n _ c.args.self.now.words.now c.copy_from_slice.new.self (n + 64) (omega (arith, is)) (omega arith) ∙ ap (λ ws. take n c.args.self.now.words.now ++ ws) c.copy_from_slice.ensures.after)
