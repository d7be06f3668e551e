use Rattle.std.proofs.Common.{◌≡◌, ℕ, ◌+◌, ◌<◌, ◌∷◌, ◌++◌, length, get_or, take, drop, sym, ap, ◌∙◌, add-one, rules}
use Rattle.std.proofs.lemmas.List.{take_rest}
use Rattle.valley.specs.Lines.{line_of}
use Rattle.valley.proofs.Pieces.{line_whole, line_before}
use Rattle.valley.proofs.line.fill.Goals as goal

pub returns-in-Some-clause-after : goal.returns-in-Some-clause-after
returns-in-Some-clause-after c = λ begun b.
    let l = c.args.bytes.now in
    let n = c.in-Some.n in
    let h : n < length l = search rules in
    let e : get_or l n 0 ≡ 10 = search rules in
    let f : (i : ℕ) → i < n → get_or l i 0 ≡ 10 → ⊥ = search rules in
    c.keep.ensures begun b ∙ ap (λ s. take 256 (begun ++ s)) (line_before l n h e f).0

pub returns-in-Some-clause-behind : goal.returns-in-Some-clause-behind
returns-in-Some-clause-behind c =
    let l = c.args.bytes.now in
    let n = c.in-Some.n in
    let h : n < length l = search rules in
    let e : get_or l n 0 ≡ 10 = search rules in
    let f : (i : ℕ) → i < n → get_or l i 0 ≡ 10 → ⊥ = search rules in
    (line_before l n h e f).1 ∙ ap (λ s. line_of l ++ 10 ∷ s) (ap (λ m. drop m l) (sym (add-one n)) ∙ sym (take_rest l (n + 1)))

pub returns-in-None-clause-after : goal.returns-in-None-clause-after
returns-in-None-clause-after c = λ begun b.
    let l = c.args.bytes.now in
    let f : (i : ℕ) → i < length l → get_or l i 0 ≡ 10 → ⊥ = search rules in
    c.keep-in-None.ensures begun b ∙ ap (λ s. take 256 (begun ++ s)) (line_whole l f)

pub returns-in-None-clause-behind : goal.returns-in-None-clause-behind
returns-in-None-clause-behind c =
    let l = c.args.bytes.now in
    let f : (i : ℕ) → i < length l → get_or l i 0 ≡ 10 → ⊥ = search rules in
    line_whole l f
