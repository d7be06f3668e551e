-- What the log stands for: the events that were seen, as words.
-- An event is a few words, of which the last is its head, so the log is read from its end. A head h says by h % 8 what it is, and by h / 8 more:
-- 0: so many turns; 1: that disk died; 2: a cut. 3, 4, 5: something was asked, refused or told. The word before such a head is, for 4 and 5,
-- why or what was told; the word before that, what was asked; and before that stands the one word that all 64 are, or all 64.
use Rattle.std.specs.Prelude.{◌≡◌, ℕ, zero, suc, ◌+◌, ◌≤◌, ◌/◌, ◌%◌, ◌^◌, List, [], ◌∷◌, length, replicate, slice_index}
use Rattle.store.specs.Event.{Event}
use Rattle.store.specs.declared.Ask.{Ask}
use Rattle.store.specs.declared.Ask.TheVariants.{Read, Write, Flush, Size, Add, Replace}
use Rattle.store.specs.declared.Reply.{Reply}
use Rattle.store.specs.declared.Reply.TheVariants.{Done, Bytes, Many, No}
use Rattle.memory.specs.declared.diary.Diary.{Diary}
use Rattle.memory.specs.declared.diary.What.{What}
use Rattle.memory.specs.declared.diary.What.TheVariants.{Asked, Refused, Told}

-- what was asked, by its kind and a number; what was told, likewise
unfoldable pub ask_of : ℕ → ℕ → Ask
ask_of zero x = Read x
ask_of (suc zero) x = Write x
ask_of (suc (suc zero)) x = Flush
ask_of (suc (suc (suc zero))) x = Size
ask_of (suc (suc (suc (suc zero)))) x = Add x
ask_of (suc (suc (suc (suc (suc k))))) x = Replace (x % 2 ^ 32) (x / 2 ^ 32)

unfoldable pub reply_of : ℕ → ℕ → Reply
reply_of zero x = Done
reply_of (suc zero) x = Bytes
reply_of (suc (suc zero)) x = Many x
reply_of (suc (suc (suc k))) x = No x

-- What the reader waits for: a head, a number, one word that stands for 64, or so many words and one before those that it has.
pub data Await : Type 0 where
  Head : Await
  Number : (ℕ → Await) → Await
  Same : (List ℕ → Event) → Await
  Each : ℕ → List ℕ → (List ℕ → Event) → Await

-- the 64 words: one word for all of them, or each
unfoldable pub words : ℕ → (List ℕ → Event) → Await
words zero f = Same f
words (suc k) f = Each 63 [] f

-- what is waited for behind a head of some kind
unfoldable pub awaits : ℕ → ℕ → Await
awaits zero n = Head
awaits (suc zero) n = Head
awaits (suc (suc zero)) n = Head
awaits (suc (suc (suc zero))) n = Number (λ x. words (n / 8 % 2) (Event.Asked (n / 16) (ask_of (n % 8) x)))
awaits (suc (suc (suc (suc zero)))) n = Number (λ y. Number (λ x. words (n / 8 % 2) (λ w. Event.Refused (n / 16) (ask_of (n % 8) x) w y)))
awaits (suc (suc (suc (suc (suc zero))))) n = Number (λ y. Number (λ x. words (n / 8 % 2) (Event.Told (n / 64) (ask_of (n % 8) x) (reply_of (n / 16 % 4) y))))
awaits (suc (suc (suc (suc (suc (suc k)))))) n = Head

unfoldable pub turns_on : ℕ → List Event → List Event
turns_on zero es = es
turns_on (suc n) es = Event.Turned ∷ turns_on n es

-- what a head says by itself
unfoldable pub fronts : ℕ → ℕ → List Event → List Event
fronts zero n es = turns_on n es
fronts (suc zero) n es = Event.Died n ∷ es
fronts (suc (suc zero)) n es = Event.Cut ∷ es
fronts (suc (suc (suc k))) n es = es

-- the events, the latest first, of words, the latest first
unfoldable pub events_of : Await → List ℕ → List Event
events_of a [] = []
events_of Head (h ∷ ws) = fronts (h % 8) (h / 8) (events_of (awaits (h % 8) (h / 8)) ws)
events_of (Number f) (x ∷ ws) = events_of (f x) ws
events_of (Same f) (v ∷ ws) = f (replicate 64 v) ∷ events_of Head ws
events_of (Each zero b f) (v ∷ ws) = f (v ∷ b) ∷ events_of Head ws
events_of (Each (suc n) b f) (v ∷ ws) = events_of (Each n (v ∷ b) f) ws

-- the first n words of the log, the latest first
unfoldable pub latest : List ℕ → ℕ → List ℕ
latest log zero = []
latest log (suc k) = slice_index log k ∷ latest log k

-- the words that are noted, the latest first
abbrev pub noted_in : Diary → List ℕ
noted_in d = latest d.words.now d.noted

-- what was seen
abbrev pub seen_of : Diary → List Event
seen_of d = events_of Head (noted_in d)

-- at most k words more are noted, in a log of the same length
pub record Grown (d : Diary) (k : ℕ) (e : Diary) : Type 0 where
  pub most : e.noted ≤ d.noted + k
  pub long : length e.words.now ≡ length d.words.now

-- something was asked, refused or told
abbrev pub event_of : What → ℕ → Ask → List ℕ → Event
event_of Asked t a w = Event.Asked t a w
event_of (Refused k) t a w = Event.Refused t a w k
event_of (Told r) t a w = Event.Told t a r w
