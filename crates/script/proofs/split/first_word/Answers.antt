use Rattle.std.proofs.Common.{◌≡◌, ℕ, ◌<◌, length, get_or, take, drop, ◌-◌, MatchOption, add-zero, length-drop, sym, ap, ◌∙◌, rules, arith}
use Rattle.std.proofs.lemmas.List.{take_rest, get_or-drop}
use Rattle.script.specs.Words.{words}
use Rattle.script.proofs.Cuts.{words_past, words_spaces, words_cut}
use Rattle.script.proofs.split.first_word.Goals as goal

pub returns-in_err-start : goal.returns-in_err-start
returns-in_err-start c =
    let s : (k : ℕ) → k < length c.args.line.now → get_or c.args.line.now k 0 ≡ 32 = search rules in
    rw c.from_residual.ensures (words_spaces c.args.line.now s)

pub returns : goal.returns
returns c =
    let l = c.args.line.now in
    let i = c.in_ok-start.start in
    let u = take (length l - i) (drop i l) in
    let e : u ≡ drop i l = take_rest l i in
    let inside : i < length l = search rules in
    let s : (k : ℕ) → k < i → get_or l k 0 ≡ 32 = search rules in
    let f : get_or l i 0 ≡ 32 → ⊥ = search rules in
    let m : MatchOption c.position-2.result ((k : ℕ) → k < length u → get_or u k 0 ≡ 32 → ⊥) (λ j. (j < length u) × (get_or u j 0 ≡ 32) × ((k : ℕ) → k < j → get_or u k 0 ≡ 32 → ⊥)) = search rules in
    let first : get_or u 0 0 ≡ 32 → ⊥ = rw (e, get_or-drop, add-zero) f in
    let pos : 0 < length u = omega (arith, ap length e, length-drop i l) in
    let w = words_past l i (omega arith) s ∙ (ap words (sym e) ∙ words_cut u c.position-2.result first pos m) in
    rw (c.split_at.ensures.front, c.split_at.ensures.back, c.unwrap_or-end.ensures) w
