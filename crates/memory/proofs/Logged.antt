-- The words of the log, and the events that they are.
use Rattle.std.proofs.Common.{◌≡◌, ℕ, zero, suc, ◌+◌, ◌-◌, ◌*◌, ◌/◌, ◌%◌, ◌<◌, ◌≤◌, ◌≢◌, List, [], ◌∷◌, ◌++◌, length, get_or, take, set, replicate, length-take, Result, OnOk, sym, refl, ap, ◌∙◌, subst, add-zero, add-suc, add-one, arith, get_or-set_other, get_or-set_same}
use Rattle.std.proofs.Math.ListN.{get_or-append}
use Rattle.std.proofs.lemmas.List.{append_assoc, append-nil, take_more, take_all, get_or-take, get_or-append_right}
use Rattle.store.specs.Event.{Event}
use Rattle.store.specs.declared.Ask.{Ask}
use Rattle.store.specs.declared.Reply.{Reply}
use Rattle.memory.specs.Words.{ask_of, reply_of, Head, Same, Each, words, awaits, turns_on, fronts, events_of, latest, event_of}
use Rattle.memory.specs.declared.diary.What.{What}
use Rattle.memory.specs.declared.diary.What.TheVariants.{Asked, Refused, Told}

-- what is put at k changes nothing before it
latest_before : (log : List ℕ) (k w j : ℕ) → j ≤ k → latest (set log k w) j ≡ latest log j
unfolding latest
latest_before log k w zero h = refl
latest_before log k w (suc j) h =
    let ne : j ≢ k = omega arith in let le : j ≤ k = omega arith in
    ap (λ x. x ∷ latest (set log k w) j) (get_or-set_other log k j w 0 ne) ∙ ap (λ l. get_or log j 0 ∷ l) (latest_before log k w j le)

pub latest_suc : (log : List ℕ) (k w : ℕ) → k < length log → latest (set log k w) (suc k) ≡ w ∷ latest log k
unfolding latest
latest_suc log k w h =
    let le : k ≤ k = omega arith in
    ap (λ x. x ∷ latest (set log k w) k) (get_or-set_same log k w 0 h) ∙ ap (λ l. w ∷ l) (latest_before log k w k le)

pub latest_more : (log : List ℕ) (k w : ℕ) → k < length log → latest (set log k w) (k + 1) ≡ w ∷ latest log k
latest_more log k w h = ap (latest (set log k w)) (add-one k) ∙ latest_suc log k w h

pub latest_agree : (a b : List ℕ) (n : ℕ) → ((i : ℕ) → i < n → get_or a i 0 ≡ get_or b i 0) → latest a n ≡ latest b n
unfolding latest
latest_agree a b zero h = refl
latest_agree a b (suc n) h = ap (λ x. x ∷ latest a n) (h n (omega arith)) ∙ ap (λ l. get_or b n 0 ∷ l) (latest_agree a b n (λ i l. h i (omega arith)))

-- Words in their order.
unfoldable run : List ℕ → ℕ → ℕ → List ℕ
run log n zero = []
run log n (suc c) = run log n c ++ (get_or log (n + c) 0 ∷ [])

run_take : (log ws : List ℕ) (n c : ℕ) → c ≤ length ws → ((i : ℕ) → i < c → get_or log (n + i) 0 ≡ get_or ws i 0) → run log n c ≡ take c ws
unfolding run
run_take log ws n zero l h = refl
run_take log ws n (suc c) l h =
    let k : c < length ws = omega arith in
    ap (λ x. x ++ (get_or log (n + c) 0 ∷ [])) (run_take log ws n c (omega arith) (λ i m. h i (omega arith)))
    ∙ (ap (λ v. take c ws ++ (v ∷ [])) (h c (omega arith)) ∙ (sym (take_more ws c 0 k) ∙ ap (λ m. take m ws) (add-one c)))

each_reads : (log : List ℕ) (n m : ℕ) (b : List ℕ) (f : List ℕ → Event) → events_of (Each m b f) (latest log (n + suc m)) ≡ f (run log n (suc m) ++ b) ∷ events_of Head (latest log n)
unfolding events_of latest run
each_reads log n zero b f =
    ap (λ k. events_of (Each 0 b f) (latest log k)) (add-one n) ∙ ap (λ k. f (get_or log k 0 ∷ b) ∷ events_of Head (latest log n)) (sym (add-zero n))
each_reads log n (suc m) b f =
    ap (λ k. events_of (Each (suc m) b f) (latest log k)) (add-suc n (suc m))
    ∙ (each_reads log n m (get_or log (n + suc m) 0 ∷ b) f
    ∙ ap (λ l. f l ∷ events_of Head (latest log n)) (sym (append_assoc (run log n (suc m)) (get_or log (n + suc m) 0 ∷ []) b)))

-- words that are put behind the first n: they stand there, and those before them are as they were
put_there : (log old ws : List ℕ) (n : ℕ) → length ws ≡ 64 → n ≤ length old → take (n + 64) log ≡ take n old ++ ws → (i : ℕ) → i < 64 → get_or log (n + i) 0 ≡ get_or ws i 0
put_there log old ws n l m e i h =
    let q : n + i - n ≡ i = omega arith in
    sym (get_or-take (n + 64) log (n + i) 0 (omega arith))
    ∙ (ap (λ x. get_or x (n + i) 0) e ∙ (get_or-append_right (take n old) ws n (n + i) 0 (omega (arith, length-take n old)) (omega arith) ∙ ap (λ k. get_or ws k 0) q))

put_before : (log old ws : List ℕ) (n : ℕ) → length ws ≡ 64 → n ≤ length old → take (n + 64) log ≡ take n old ++ ws → (i : ℕ) → i < n → get_or log i 0 ≡ get_or old i 0
put_before log old ws n l m e i h =
    sym (get_or-take (n + 64) log i 0 (omega arith)) ∙ (ap (λ x. get_or x i 0) e ∙ (get_or-append (take n old) ws 0 i (omega (arith, length-take n old)) ∙ get_or-take n old i 0 h))

-- the 64 words of an event, each of them
pub wide_reads : (log old ws : List ℕ) (n : ℕ) (f : List ℕ → Event) → length ws ≡ 64 → n ≤ length old → take (n + 64) log ≡ take n old ++ ws →
    events_of (words 1 f) (latest log (n + 64)) ≡ f ws ∷ events_of Head (latest old n)
unfolding words
wide_reads log old ws n f l m e =
    each_reads log n 63 [] f
    ∙ (ap (λ v. f v ∷ events_of Head (latest log n)) (append-nil (run log n 64) ∙ (run_take log ws n 64 (omega arith) (put_there log old ws n l m e) ∙ take_all 64 ws (omega arith)))
    ∙ ap (λ v. f ws ∷ events_of Head v) (latest_agree log old n (put_before log old ws n l m e)))

-- all of them one
pub same_reads : (w : ℕ) (f : List ℕ → Event) (l ws b : List ℕ) (v : ℕ) → w ≡ 0 → l ≡ v ∷ ws → b ≡ replicate 64 v → events_of (words w f) l ≡ f b ∷ events_of Head ws
unfolding events_of words
same_reads zero f l ws b v z e r = ap (events_of (Same f)) e ∙ ap (λ x. f x ∷ events_of Head ws) (sym r)
same_reads (suc w) f l ws b v z e r = absurd (omega arith)

-- what is on top of what
pub stack : {w : ℕ} {a b l : List ℕ} → a ≡ w ∷ b → b ≡ l → a ≡ w ∷ l
stack {w} p q = p ∙ ap (λ v. w ∷ v) q

fourth : (k t : ℕ) → k < 4 → (k + 4 * t) % 4 ≡ k
fourth k t h = omega arith

pub all_same : (ws : List ℕ) (v : ℕ) → ((k : ℕ) → k < length ws → get_or ws k 0 ≡ v) → ws ≡ replicate (length ws) v
all_same [] v h = refl
all_same (w ∷ ws) v h = ap (λ x. x ∷ ws) (h 0 (omega arith)) ∙ ap (λ l. v ∷ l) (all_same ws v (λ k l. h (suc k) (omega arith)))

-- Heads. Each is of its kind k, and says n.
headed : (h k n : ℕ) → h % 8 ≡ k → h / 8 ≡ n → (l : List ℕ) → events_of Head (h ∷ l) ≡ fronts k n (events_of (awaits k n) l)
unfolding events_of
headed h k n p q l = ap (λ j. fronts j (h / 8) (events_of (awaits j (h / 8)) l)) p ∙ ap (λ m. fronts k m (events_of (awaits k m) l)) q

pub turns_head : (h n : ℕ) → h % 8 ≡ 0 → h / 8 ≡ n → (l : List ℕ) → events_of Head (h ∷ l) ≡ turns_on n (events_of Head l)
unfolding fronts awaits
turns_head h n p q l = headed h 0 n p q l

pub death_head : (h d : ℕ) → h ≡ 1 + 8 * d → (l : List ℕ) → events_of Head (h ∷ l) ≡ Event.Died d ∷ events_of Head l
unfolding fronts awaits
death_head h d e l = headed h 1 d (omega arith) (omega arith) l

pub cut_head : (l : List ℕ) → events_of Head (2 ∷ l) ≡ Event.Cut ∷ events_of Head l
unfolding fronts awaits
cut_head l = headed 2 2 0 refl refl l

pub turn_head : (l : List ℕ) → events_of Head (8 ∷ l) ≡ Event.Turned ∷ events_of Head l
unfolding turns_on
turn_head l = turns_head 8 1 refl refl l

module _ (h body tag x : ℕ) (l : List ℕ) (small : body < 16) (what : What) where
  pub asked_head : what ≡ Asked → h ≡ 3 + 8 * (body + 16 * tag) → events_of Head (h ∷ (x ∷ l)) ≡ events_of (words (body / 8) (event_of what tag (ask_of (body % 8) x))) l
  unfolding events_of fronts awaits
  asked_head is e =
      let n = body + 16 * tag in
      let a : n / 8 % 2 ≡ body / 8 = omega arith in
      let b : n / 16 ≡ tag = omega arith in
      let c : n % 8 ≡ body % 8 = omega arith in
      headed h 3 n (omega arith) (omega arith) (x ∷ l)
      ∙ (ap (λ i. events_of (words i (Event.Asked (n / 16) (ask_of (n % 8) x))) l) a
      ∙ (ap (λ i. events_of (words (body / 8) (Event.Asked i (ask_of (n % 8) x))) l) b
      ∙ (ap (λ i. events_of (words (body / 8) (Event.Asked tag (ask_of i x))) l) c
      ∙ ap (λ w. events_of (words (body / 8) (event_of w tag (ask_of (body % 8) x))) l) (sym is))))

  pub refused_head : (why : ℕ) → what ≡ Refused why → h ≡ 4 + 8 * (body + 16 * tag) → events_of Head (h ∷ (why ∷ (x ∷ l))) ≡ events_of (words (body / 8) (event_of what tag (ask_of (body % 8) x))) l
  unfolding events_of fronts awaits
  refused_head why is e =
      let n = body + 16 * tag in
      let a : n / 8 % 2 ≡ body / 8 = omega arith in
      let b : n / 16 ≡ tag = omega arith in
      let c : n % 8 ≡ body % 8 = omega arith in
      headed h 4 n (omega arith) (omega arith) (why ∷ (x ∷ l))
      ∙ (ap (λ i. events_of (words i (λ w. Event.Refused (n / 16) (ask_of (n % 8) x) w why)) l) a
      ∙ (ap (λ i. events_of (words (body / 8) (λ w. Event.Refused i (ask_of (n % 8) x) w why)) l) b
      ∙ (ap (λ i. events_of (words (body / 8) (λ w. Event.Refused tag (ask_of i x) w why)) l) c
      ∙ ap (λ w. events_of (words (body / 8) (event_of w tag (ask_of (body % 8) x))) l) (sym is))))

  pub told_head : (r : Reply) (k y : ℕ) → what ≡ Told r → k < 4 → reply_of k y ≡ r → h ≡ 5 + 8 * (body + 16 * (k + 4 * tag)) → events_of Head (h ∷ (y ∷ (x ∷ l))) ≡ events_of (words (body / 8) (event_of what tag (ask_of (body % 8) x))) l
  unfolding events_of fronts awaits
  told_head r k y is few means e =
      let n = body + 16 * (k + 4 * tag) in
      let a : n / 8 % 2 ≡ body / 8 = omega arith in
      let b : n / 64 ≡ tag = omega arith in
      let c : n % 8 ≡ body % 8 = omega arith in
      let q : n / 16 ≡ k + 4 * tag = omega arith in
      let d : n / 16 % 4 ≡ k = ap (λ i. i % 4) q ∙ fourth k tag few in
      headed h 5 n (omega arith) (omega arith) (y ∷ (x ∷ l))
      ∙ (ap (λ i. events_of (words i (Event.Told (n / 64) (ask_of (n % 8) x) (reply_of (n / 16 % 4) y))) l) a
      ∙ (ap (λ i. events_of (words (body / 8) (Event.Told i (ask_of (n % 8) x) (reply_of (n / 16 % 4) y))) l) b
      ∙ (ap (λ i. events_of (words (body / 8) (Event.Told tag (ask_of i x) (reply_of (n / 16 % 4) y))) l) c
      ∙ (ap (λ i. events_of (words (body / 8) (Event.Told tag (ask_of (body % 8) x) i)) l) (ap (λ i. reply_of i y) d ∙ means)
      ∙ ap (λ w. events_of (words (body / 8) (event_of w tag (ask_of (body % 8) x))) l) (sym is)))))

-- what was asked, and how its words stand there, in one number
pub body_reads : (what : What) (tag x kind width : ℕ) (a : Ask) (l : List ℕ) → kind < 8 → ask_of kind x ≡ a →
    events_of (words ((kind + 8 * width) / 8) (event_of what tag (ask_of ((kind + 8 * width) % 8) x))) l ≡ events_of (words width (event_of what tag a)) l
body_reads what tag x kind width a l few means =
    let p : (kind + 8 * width) / 8 ≡ width = omega arith in
    let q : (kind + 8 * width) % 8 ≡ kind = omega arith in
    ap (λ i. events_of (words i (event_of what tag (ask_of ((kind + 8 * width) % 8) x))) l) p
    ∙ (ap (λ i. events_of (words width (event_of what tag (ask_of i x))) l) q ∙ ap (λ b. events_of (words width (event_of what tag b)) l) means)

-- one more of the turns in a row
pub one_turn_more : (log : List ℕ) (k h : ℕ) → 0 < k → k ≤ length log → get_or log (k - 1) 0 ≡ h → h % 8 ≡ 0 → events_of Head (latest (set log (k - 1) (h + 8)) k) ≡ Event.Turned ∷ events_of Head (latest log k)
unfolding latest turns_on
one_turn_more log zero h p l e z = absurd (omega arith)
one_turn_more log (suc j) h p l e z =
    let q : suc j - 1 ≡ j = omega arith in
    let m : j < length log = omega arith in
    let g : get_or log j 0 ≡ h = ap (λ i. get_or log i 0) (sym q) ∙ e in
    ap (λ i. events_of Head (latest (set log i (h + 8)) (suc j))) q
    ∙ (ap (events_of Head) (latest_suc log j (h + 8) m)
    ∙ (turns_head (h + 8) (suc (h / 8)) (omega arith) (omega arith) (latest log j)
    ∙ ap (λ es. Event.Turned ∷ es) (sym (ap (λ v. events_of Head (v ∷ latest log j)) g ∙ turns_head h (h / 8) z refl (latest log j)))))

-- what was noted is also this
pub on_ok_as : {E : Type 0} (r : Result (Unit {0}) E) (a b d : List Event) → b ≡ d → OnOk r (a ≡ b) → OnOk r (a ≡ d)
on_ok_as r a b d e h = subst (λ x. OnOk r (a ≡ x)) e h
