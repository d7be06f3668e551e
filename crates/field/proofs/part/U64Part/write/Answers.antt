use Rattle.std.proofs.Common.{◌≡◌, ◌/◌, length, ap, ◌∙◌, arith}
use Rattle.field.proofs.Words.{chunks_many, chunks_set, rest_kept}
use Rattle.field.proofs.part.U64Part.write.Goals as goal

pub returns-clause-set : goal.returns-clause-set
returns-clause-set c =
    let e = c.copy_from_slice.ensures.after in
    let l : length c.copy_from_slice.new.self ≡ 64 = ap length e ∙ (omega arith) in
    let s = c.args.stripe.now in
    chunks_set c.args.i _ s c.copy_from_slice.new.self c.args.words.now (omega (arith, c.requires, chunks_many 64 (length s / 64) s)) l (omega arith) e

pub returns-clause-behind : goal.returns-clause-behind
returns-clause-behind c =
    let l : length c.copy_from_slice.new.self ≡ 64 = ap length c.copy_from_slice.ensures.after ∙ (omega arith) in
    let s = c.args.stripe.now in
    rest_kept c.args.i _ s c.copy_from_slice.new.self (omega (arith, c.requires, chunks_many 64 (length s / 64) s)) l (omega arith)
