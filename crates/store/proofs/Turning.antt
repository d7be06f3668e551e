-- The end of a turn: who isn't told waits one turn less, and none waits longer than eight.
-- Assumes nothing.
use Rattle.std.proofs.Common.{◌≡◌, ℕ, zero, suc, ◌+◌, ◌-◌, ◌*◌, ◌%◌, ◌<◌, ◌≤◌, Bool, true, false, cond, ◌&&◌, T, eqb, List, ◌∷◌, length, set, None, Option, sym, refl, ap, ◌∙◌, subst, inl, inr, arith, lt→ltb, get_or-set_other, get_or-set_same}
use Rattle.std.proofs.lemmas.Bool.{cases_eq, cases_lt, eq-eqb, ne_eqb, cond-true, cond-false}
use Rattle.field.specs.Stripe.{column}
use Rattle.store.specs.Event.{Event, Turned, Told}
use Rattle.store.specs.Shelf.{Shelf}
use Rattle.store.specs.Store.{Seen, Way, Free, Under, Over, Run, turns, tells, aged, older, young, every, limit, age_of, grown, set_way, size_of}
use Rattle.store.specs.Promise.{can}
use Rattle.store.specs.Tags.{at, Entry, Waits, First}
use Rattle.store.specs.Between.{ticks, Table, Serving, Performed, Telling}
use Rattle.store.specs.declared.Ask.{Ask}
use Rattle.store.specs.declared.Ask.TheVariants.{Read, Write, Flush, Size, Add, Replace}
use Rattle.store.specs.declared.Reply.{Reply}
use Rattle.store.specs.declared.Store.{Store}
use Rattle.store.proofs.Histories.{still, stands_like}
use Rattle.store.proofs.Asking.{tells_nothing}

pub both : (x y : Bool) → T x → T y → T (x && y)
both true y p q = q
both false y p q = p

every_one : (n : ℕ) (f : ℕ → Bool) → ((u : ℕ) → u < n → T (f u)) → T (every n f)
unfolding every
every_one zero f h = tt
every_one (suc n) f h = both (every n f) (f n) (every_one n f (λ u l. h u (omega arith))) (h n (omega arith))

limit_least : (n : ℕ) (a : Ask) → 8 ≤ limit n a
unfolding limit
limit_least n (Read s) = omega arith
limit_least n (Write s) = omega arith
limit_least n Flush = omega arith
limit_least n Size = omega arith
limit_least n (Add e) = omega arith
limit_least n (Replace d e) = omega arith

waits_young : (n j : ℕ) (v : Way) → Waits v j → T (young n v)
unfolding young
waits_young n j Free k = tt
waits_young n j (Under a w m g) k = lt→ltb g (limit n a) (omega (arith, limit_least n a))
waits_young n j (Over a r w g) k = lt→ltb g (limit n a) (omega (arith, limit_least n a))

entry_older : (o : Option Ask) (w : List ℕ) (n : ℕ) (v : Way) → Entry o w n v → Entry o w n (older v)
unfolding older
entry_older o w n Free e = e
entry_older o w n (Under a u m g) e = e
entry_older o w n (Over a r u g) e = e

entry_open : (o : Option Ask) (w : List ℕ) (n : ℕ) (v : Way) → Entry o w n v → o ≡ None → v ≡ Free
entry_open o w n Free e q = refl
entry_open o w n (Under a u m g) e q = cc
entry_open o w n (Over a r u g) e q = absurd e

waits_older : (j k : ℕ) (v : Way) → j < k → Waits v k → Waits (older v) j
unfolding older
waits_older j k Free l w = tt
waits_older j k (Under a u m g) l w = omega arith
waits_older j k (Over a r u g) l w = omega arith

waits_free : (j : ℕ) → Waits (older Free) j
unfolding older
waits_free j = tt

-- each tag is some way from the cursor
module _ {s : Store} {room : List ℕ} {n : ℕ} {h : Seen} (v : Table s room n h) where
  near : (t : ℕ) → t < 8 → (j : ℕ) × ((j < 8) × ((s.tags.cursor.number + j) % 8 ≡ t))
  near t l = let c = v.in_turn in ((t + 8 - s.tags.cursor.number) % 8, (omega arith, omega arith))

  youth_of : (m t : ℕ) → t < 8 → T (young m (h.way t))
  youth_of m t l = let j = near t l in subst (λ q. T (young m (h.way q))) j.1.1 (waits_young m j.0 (h.way ((s.tags.cursor.number + j.0) % 8)) (v.waits j.0 j.1.0))

  pub young_way : (t : ℕ) {a : Ask} {w : List ℕ} {m : ℕ → ℕ} {g : ℕ} → t < 8 → h.way t ≡ Under a w m g → g ≤ 7
  young_way t {a} {w} {m} {g} l e =
      let j = near t l in
      let k : g + j.0 ≤ 7 = subst (λ (q : Way). Waits q j.0) (ap h.way j.1.1 ∙ e) (v.waits j.0 j.1.0) in omega arith

  -- whoever isn't told waits one turn less
  waits_next : {t : ℕ} {a : Ask} (f : First t a s.tags.asked s.tags.cursor.number) (j : ℕ) → j < 8 → (((t + 1) % 8 + j) % 8 ≡ t → ⊥) → Waits (older (h.way (((t + 1) % 8 + j) % 8))) j
  waits_next {t} f j lj ne =
      let c = v.in_turn in let at = f.here in let k = f.near in
      elim (cases_lt (f.k + 1 + j) 8) [
        | inl p ↦ (let same : (s.tags.cursor.number + (f.k + 1 + j)) % 8 ≡ ((t + 1) % 8 + j) % 8 = omega arith in
            subst (λ q. Waits (older (h.way q)) j) same (waits_older j (f.k + 1 + j) (h.way ((s.tags.cursor.number + (f.k + 1 + j)) % 8)) (omega arith) (v.waits (f.k + 1 + j) p)))
        | inr p ↦ (let i : ℕ = f.k + 1 + j - 8 in let same : (s.tags.cursor.number + i) % 8 ≡ ((t + 1) % 8 + j) % 8 = omega arith in
            let less : i < f.k = elim (cases_lt i f.k) [ inl q ↦ q | inr q ↦ absurd (ne (omega arith)) ] in
            let free = entry_open _ _ _ (h.way ((s.tags.cursor.number + i) % 8)) (v.entries ((s.tags.cursor.number + i) % 8) (omega arith)) (f.before i less) in
            subst (λ q. Waits (older (h.way q)) j) same (subst (λ z. Waits (older z) j) (sym free) (waits_free j)))
      ]

-- nothing is under way
pub rests : {s : Store} {room : List ℕ} {x : Shelf} {es : List Event} → Serving s room x es → ((j : ℕ) → j < 8 → at s.tags.asked ((s.tags.cursor.number + j) % 8) ≡ None) → Serving s room x (Turned ∷ es)
unfolding age_of grown older ticks
rests {s} {room} {x} v none =
    let b = v.table in
    let ex = v.stands.explains in
    let idle : (t : ℕ) → t < 8 → v.h.way t ≡ Free = λ t l.
    let j = near b t l in entry_open _ _ _ (v.h.way t) (b.entries t l) (subst (λ q. at s.tags.asked q ≡ None) j.1.1 (none j.0 j.1.0)) in
    record {
      c = v.c;
      h = aged v.h;
      stands = stands_like v.stands refl refl (omega arith) (turns ex.run (every_one 8 (λ t. young x.sectors (v.h.way t)) (youth_of b x.sectors)) (omega (arith, ap age_of (still ex.run))));
      table = record {
        in_turn = b.in_turn;
        entries = λ t l. entry_older _ _ _ (v.h.way t) (b.entries t l);
        waits = λ j l. subst (λ z. Waits (older z) j) (sym (idle ((s.tags.cursor.number + j) % 8) (omega arith))) tt;
      };
    }

-- one is told
module _ {s : Store} {room : List ℕ} {n : ℕ} {h : Seen} (b : Table s room n h) (s' : Store) (room' : List ℕ) {a : Ask} {r : Reply} (t : ℕ) {words : List ℕ} {y : Shelf} {fs : List Event}
    (l : t < 8) (f : First t a s.tags.asked s.tags.cursor.number) (p : Performed a r t words s' h y fs) (size : y.sectors ≡ n) where
  youth : T (every 8 (λ (u : ℕ). young y.sectors (p.h'.way u)))
  youth = every_one 8 (λ u. young y.sectors (p.h'.way u)) (λ u lu. elim (cases_eq u t) [
    | inl e ↦ subst (λ z. T (young y.sectors z)) (sym (ap p.h'.way e ∙ p.way)) (waits_young y.sectors 0 (Over a r p.back p.age) (omega (arith, p.young)))
    | inr e ↦ subst (λ z. T (young y.sectors z)) (sym (p.others u e)) (youth_of b y.sectors u lu)
  ])

  turned : Run can y.sectors (Turned ∷ fs) (aged p.h')
  unfolding age_of
  turned = turns p.stands.explains.run youth (omega (arith, ap age_of (still p.stands.explains.run)))

  pub tells_one : (s'' : Store) → s''.sectors ≡ s'.sectors → s''.superblock ≡ s'.superblock → t < length s.tags.asked → s''.tags.asked ≡ set s.tags.asked t None → s''.tags.cursor.number ≡ (t + 1) % 8 →
      ((u : ℕ) → u < 8 → column u room' ≡ column u room) → Telling (record { tag = t; ask = a; reply = r }) words s'' room' y fs
  unfolding older ticks
  tells_one s'' sectors super long closed cursor words-kept =
      let size_same : size_of y.sectors p.h' ≡ size_of n h = ap (λ (z : ℕ). size_of z p.h') size ∙ ap (λ (ds : List ℕ). (length ds - 2) * (n - 64)) p.disks in
      record {
        turned = (aged p.h', turned);
        goes = subst (λ (z : Shelf). Serving s'' room' z (Told t a r words ∷ Turned ∷ fs)) (sym (tells_nothing a r y p.built))
            (record {
              c = p.c;
              h = set_way t Free (aged p.h');
              stands = stands_like p.stands sectors super (omega arith) (tells t turned (ap older p.way) p.starts);
              table = record {
                in_turn = omega (arith, cursor);
                entries = λ u lu. elim (cases_eq u t) [
                  | inl e ↦ subst (λ (z : Way). Entry (at s''.tags.asked u) (column u room') (size_of y.sectors p.h') z) (sym (cond-true (eqb u t) Free (older (p.h'.way u)) (eq-eqb u t e)))
                      (ap (at s''.tags.asked) e ∙ (ap (λ (ts : List (Option Ask)). at ts t) closed ∙ get_or-set_same s.tags.asked t None None long))
                  | inr e ↦ subst (λ (z : Way). Entry (at s''.tags.asked u) (column u room') (size_of y.sectors p.h') z) (sym (cond-false (eqb u t) Free (older (p.h'.way u)) (ne_eqb u t e) ∙ ap older (p.others u e)))
                      (subst (λ (o : Option Ask). Entry o (column u room') (size_of y.sectors p.h') (older (h.way u))) (sym (ap (λ (ts : List (Option Ask)). at ts u) closed ∙ get_or-set_other s.tags.asked t u None None e))
                      (subst (λ (z : List ℕ). Entry (at s.tags.asked u) z (size_of y.sectors p.h') (older (h.way u))) (sym (words-kept u lu))
                      (subst (λ (z : ℕ). Entry (at s.tags.asked u) (column u room) z (older (h.way u))) (sym size_same) (entry_older _ _ _ (h.way u) (b.entries u lu)))))
                ];
                waits = λ j lj. subst (λ (k : ℕ). Waits (cond (eqb ((k + j) % 8) t) Free (older (p.h'.way ((k + j) % 8)))) j) (sym cursor)
                    (let u : ℕ = ((t + 1) % 8 + j) % 8 in elim (cases_eq u t) [
                      | inl e ↦ subst (λ (z : Way). Waits z j) (sym (cond-true (eqb u t) Free (older (p.h'.way u)) (eq-eqb u t e))) tt
                      | inr e ↦ subst (λ (z : Way). Waits z j) (sym (cond-false (eqb u t) Free (older (p.h'.way u)) (ne_eqb u t e) ∙ ap older (p.others u e))) (waits_next b f j lj e)
                    ]);
              };
            });
      }
