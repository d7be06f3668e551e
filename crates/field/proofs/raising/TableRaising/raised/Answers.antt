use Rattle.std.proofs.Common.{◌≡◌, ℕ, zero, suc, ◌+◌, ◌-◌, ◌*◌, ◌/◌, ◌%◌, ◌^◌, ◌<◌, List, get_or, sym, refl, ap, ◌∙◌, subst, div-one, arith}
use mir.Syntax.{w64}
use Rattle.std.specs.Int.{to_be_bytes}
use Rattle.field.specs.Field.{double}
use Rattle.field.specs.Word.{double8}
use Rattle.field.proofs.Eight.{double8_lt, next_element, no_element}
use Rattle.field.proofs.raising.TableRaising.raised.Goals as goal

-- element 7 - j of a word, the highest first
byte_there : (j v : ℕ) → j < 8 → get_or (to_be_bytes w64 v) j 0 ≡ v / 2 ^ (56 - 8 * j) % 256
byte_there zero v h = refl
byte_there (suc zero) v h = refl
byte_there (suc (suc zero)) v h = refl
byte_there (suc (suc (suc zero))) v h = refl
byte_there (suc (suc (suc (suc zero)))) v h = refl
byte_there (suc (suc (suc (suc (suc zero))))) v h = refl
byte_there (suc (suc (suc (suc (suc (suc zero)))))) v h = refl
byte_there (suc (suc (suc (suc (suc (suc (suc zero))))))) v h = ap (λ (n : ℕ). n % 256) (sym (div-one v))
byte_there (suc (suc (suc (suc (suc (suc (suc (suc j)))))))) v h = absurd (omega arith)

next : (j v r d : ℕ) (s : List ℕ) → j < 8 → v < 2 ^ 64 → s ≡ to_be_bytes w64 v → r ≡ double8 (v / 2 ^ (64 - 8 * j)) → d ≡ double (get_or s j 0)
    → r * 256 + d ≡ double8 (v / 2 ^ (64 - 8 * (j + 1)))
next j v r d s hj hv es er ed = next_element j v r d hj hv er (ed ∙ ap double (ap (λ (t : List ℕ). get_or t j 0) es ∙ byte_there j v hj))

-- the sum of the next turn is a doubled word, so it fits
fits : (j v r d : ℕ) (s : List ℕ) → j < 8 → v < 2 ^ 64 → s ≡ to_be_bytes w64 v → r ≡ double8 (v / 2 ^ (64 - 8 * j)) → d ≡ double (get_or s j 0) → r * 256 + d < 2 ^ 64
fits j v r d s hj hv es er ed = subst (λ (x : ℕ). x < 2 ^ 64) (sym (next j v r d s hj hv es er ed)) (double8_lt (v / 2 ^ (64 - 8 * (j + 1))))

pub loop-byte-init : goal.loop-byte-init
loop-byte-init c = no_element c.args.v (omega arith)

pub overflow_mul-r : goal.overflow_mul-r
overflow_mul-r c =
    let s = c.to_be_bytes-byte-items.result in
    omega (arith, fits c.loop-byte.byte-index c.args.v c.loop-byte.r (double (get_or s c.loop-byte.byte-index 0)) s (omega arith) (omega arith) c.to_be_bytes-byte-items.ensures c.loop-byte.invariant refl)

pub overflow_add-r : goal.overflow_add-r
overflow_add-r c =
    let s = c.to_be_bytes-byte-items.result in
    let d : c.from-in-loop-byte-2.result ≡ double (get_or s c.loop-byte.byte-index 0) = c.from-in-loop-byte-2.ensures ∙ c.from-in-loop-byte.ensures ∙ c.twice.ensures ∙ ap double c.from.ensures in
    omega (arith, fits c.loop-byte.byte-index c.args.v c.loop-byte.r c.from-in-loop-byte-2.result s (omega arith) (omega arith) c.to_be_bytes-byte-items.ensures c.loop-byte.invariant d)

pub loop-byte-preserved : goal.loop-byte-preserved
loop-byte-preserved c =
    let s = c.to_be_bytes-byte-items.result in
    let d : c.from-in-loop-byte-2.result ≡ double (get_or s c.loop-byte.byte-index 0) = c.from-in-loop-byte-2.ensures ∙ c.from-in-loop-byte.ensures ∙ c.twice.ensures ∙ ap double c.from.ensures in
    next c.loop-byte.byte-index c.args.v c.loop-byte.r c.from-in-loop-byte-2.result s (omega arith) (omega arith) c.to_be_bytes-byte-items.ensures c.loop-byte.invariant d
