-- Where what a sector holds comes from: it is noughts, or somebody asked to write it there.
-- Assumes nothing.
use Rattle.std.proofs.Common.{◌≡◌, ℕ, ◌+◌, Bool, cond, ◌&&◌, eqb, ◌⊎◌, List, ◌∷◌, sym, refl, subst, inl, inr}
use mathlib.Core.List.{Memᴰ}
use Rattle.std.proofs.lemmas.Bool.{and_parts, eqb-true, cond_both}
use Rattle.store.specs.Event.{Event, Asked, Turned}
use Rattle.store.specs.declared.Ask.{Ask}
use Rattle.store.specs.declared.Ask.TheVariants.{Write}
use Rattle.store.specs.Store.{Seen, Way, Free, Under, Over, Run, new, asks, refuses, dies, reads, writes, flushes, sizes, finishes, done, gives_up, tells, drops, turns, cuts, noughts, older}

-- somebody asked for it, with these words
abbrev pub WasAsked : Ask → List ℕ → List Event → Type 0
WasAsked a w es = (t : ℕ) × Memᴰ (Asked t a w) es

-- a content of sector s that was not made up
abbrev pub Honest : List Event → ℕ → List ℕ → Type 0
Honest es s b = (b ≡ noughts) ⊎ WasAsked (Write s) b es

-- what is under way was asked for, with the words that it has
abbrev pub FromAsking : List Event → Way → Type 0
FromAsking es Free = Unit {0}
FromAsking es (Under a w m g) = WasAsked a w es
FromAsking es (Over a r w g) = Unit {0}

pub record Originates (es : List Event) (h : Seen) : Type 0 where
  pub content : (s k : ℕ) → Honest es s (h.content s k)
  pub way : (t : ℕ) → FromAsking es (h.way t)

-- ---- what each step keeps of it

-- one more event
honest_later : {es : List Event} {s : ℕ} {b : List ℕ} (e : Event) → Honest es s b → Honest (e ∷ es) s b
honest_later e (inl z) = inl z
honest_later e (inr m) = inr (m.0, Memᴰ.tail m.1)

from_later : (es : List Event) (e : Event) (w : Way) → FromAsking es w → FromAsking (e ∷ es) w
from_later es e Free f = tt
from_later es e (Under a w m g) f = (f.0, Memᴰ.tail f.1)
from_later es e (Over a r w g) f = tt

originates_later : {es : List Event} {h : Seen} (e : Event) → Originates es h → Originates (e ∷ es) h
originates_later {es} {h} e v = record { content = λ s k. honest_later e (v.content s k); way = λ t. from_later es e (h.way t) (v.way t) }

-- the way of one tag is another
from_set : (es : List Event) (h : Seen) (t : ℕ) (w : Way) → ((u : ℕ) → FromAsking es (h.way u)) → FromAsking es w → (u : ℕ) → FromAsking es (cond (eqb u t) w (h.way u))
from_set es h t w f g u = cond_both (eqb u t) w (h.way u) (λ (x : Way). FromAsking es x) (λ _. g) (λ _. f u)

-- of what is under way somebody asked
from_under : {es : List Event} {a : Ask} {w : List ℕ} {m : ℕ → ℕ} {g : ℕ} (x : Way) → x ≡ Under a w m g → FromAsking es x → WasAsked a w es
from_under {es} x e f = subst (λ (y : Way). FromAsking es y) e f

from_older : (es : List Event) (w : Way) → FromAsking es w → FromAsking es (older w)
unfolding older
from_older es Free f = f
from_older es (Under a w m g) f = f
from_older es (Over a r w g) f = f

-- a sector has one content more, which somebody asked for
honest_new : {es : List Event} (h : Seen) (s : ℕ) (b : List ℕ) → ((t k : ℕ) → Honest es t (h.content t k)) → WasAsked (Write s) b es → (t k : ℕ) →
    Honest es t (cond (eqb t s && eqb k (h.count s + 1)) b (h.content t k))
honest_new {es} h s b all asked t k =
    cond_both (eqb t s && eqb k (h.count s + 1)) b (h.content t k) (λ (x : List ℕ). Honest es t x)
    (λ e. inr (subst (λ (u : ℕ). WasAsked (Write u) b es) (sym (eqb-true t s (and_parts (eqb t s) (eqb k (h.count s + 1)) e).0)) asked)) (λ _. all t k)

-- every run keeps it
pub originates : {can : Ask → Bool} {n : ℕ} {es : List Event} {h : Seen} → Run can n es h → Originates es h
originates new = record { content = λ s k. inl refl; way = λ t. tt }
originates (asks {es = es} {h = h} t a w r e) =
    let v = originates_later (Asked t a w) (originates r) in record { content = v.content; way = from_set (Asked t a w ∷ es) h t (Under a w h.count 0) v.way (t, Memᴰ.head refl) }
originates (refuses t a w r e) = originates_later _ (originates r)
originates (dies d r) = let v = originates_later _ (originates r) in record { content = v.content; way = v.way }
originates {es = es} (reads {h = h} t r e) = let v = originates r in record { content = v.content; way = from_set es h t _ v.way tt }
originates {es = es} (writes {h = h} {s = s} {w = w} t r e) =
    let v = originates r in record { content = honest_new h s w v.content (from_under (h.way t) e (v.way t)); way = from_set es h t _ v.way tt }
originates {es = es} (flushes {h = h} t r e) = let v = originates r in record { content = v.content; way = from_set es h t _ v.way tt }
originates {es = es} (sizes {h = h} t r e) = let v = originates r in record { content = v.content; way = from_set es h t _ v.way tt }
originates (finishes r e) = let v = originates r in record { content = v.content; way = v.way }
originates {es = es} (done {h = h} t r e c i) = let v = originates r in record { content = v.content; way = from_set es h t _ v.way tt }
originates {es = es} (gives_up {h = h} t r e c i d) = let v = originates r in record { content = v.content; way = from_set es h t _ v.way tt }
originates {es = es} (tells {h = h} t r e b) = let v = originates_later _ (originates r) in record { content = v.content; way = from_set es h t Free v.way tt }
originates (drops r e d) = let v = originates r in record { content = v.content; way = v.way }
originates (turns {es = es} {h = h} r y a) = let v = originates_later _ (originates r) in record { content = v.content; way = λ t. from_older (Turned ∷ es) (h.way t) (v.way t) }
originates (cuts pick c r p e) = let v = originates_later _ (originates r) in record { content = λ s k. v.content s (pick s); way = λ t. tt }
