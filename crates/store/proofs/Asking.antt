-- What `ask` answers, and what it leaves.
-- Assumes nothing.
use Rattle.std.proofs.Common.{◌≡◌, ℕ, zero, suc, ◌+◌, ◌%◌, ◌<◌, ◌≤◌, Bool, true, false, cond, not, ◌||◌, T, eqb, ltb, leb, List, ◌∷◌, length, set, Some, None, Option, sym, refl, ap, ◌∙◌, subst, inl, inr, arith, get_or-set_other, get_or-set_same}
use Rattle.std.proofs.lemmas.Bool.{cases_Bool, cases_eq, cases_lt, eq-eqb, ne_eqb, cond-true, cond-false, le-leb, lt-leb, le-ltb, or_left, or_from}
use Rattle.field.specs.Stripe.{column}
use Rattle.store.specs.Event.{Event, Asked, Refused}
use Rattle.store.specs.Shelf.{Shelf, takes_in, told_of}
use Rattle.store.specs.Store.{Seen, Way, Free, Under, Over, free, why, wrong, size_of, core, begins, set_way, set_disks, Run, asks, refuses}
use Rattle.store.specs.Promise.{can, said}
use Rattle.store.specs.Tags.{at, is_open, Entry, Waits, Reaches, beyond, refusal_of}
use Rattle.store.specs.Between.{ticks, Table, Serving, answered}
use Rattle.store.specs.declared.Ask.{Ask}
use Rattle.store.specs.declared.Ask.TheVariants.{Read, Write, Flush, Size, Add, Replace}
use Rattle.store.specs.declared.Reply.{Reply}
use Rattle.store.specs.declared.Store.{Store}
use Rattle.store.proofs.Histories.{stands_like}

-- ---- what reads, writes, flushes and sizes take in, and leave: nothing

pub takes_nothing : (a : Ask) (x : Shelf) → T (core a) → takes_in a x ≡ x
unfolding core takes_in
takes_nothing (Read s) x k = refl
takes_nothing (Write s) x k = refl
takes_nothing Flush x k = refl
takes_nothing Size x k = refl
takes_nothing (Add e) x k = elim k [ ]
takes_nothing (Replace d e) x k = elim k [ ]

pub tells_nothing : (a : Ask) (r : Reply) (x : Shelf) → T (core a) → told_of a r x ≡ x
unfolding core told_of
tells_nothing (Read s) r x k = refl
tells_nothing (Write s) r x k = refl
tells_nothing Flush r x k = refl
tells_nothing Size r x k = refl
tells_nothing (Add e) r x k = elim k [ ]
tells_nothing (Replace d e) r x k = elim k [ ]

-- ---- why it is turned away

same_open : (o : Option Ask) (w : List ℕ) (n : ℕ) (v : Way) → Entry o w n v → is_open o ≡ free v
unfolding free
same_open o w n Free e = ap is_open e
same_open o w n (Under a u m g) e = ap is_open e.0
same_open o w n (Over a r u g) e = absurd e

same_why : (n : ℕ) (h : Seen) (a : Ask) → beyond (size_of n h) a ≡ cond (not (can a)) 9 (why n h a)
unfolding core why
same_why n h (Read s) = refl
same_why n h (Write s) = refl
same_why n h Flush = refl
same_why n h Size = refl
same_why n h (Add e) = refl
same_why n h (Replace d e) = refl

cond_same : (b d : Bool) (j k : ℕ) → b ≡ d → j ≡ k → cond b 1 j ≡ cond d 1 k
cond_same b d j k p q = ap (λ (z : Bool). cond z 1 j) p ∙ ap (λ (z : ℕ). cond d 1 z) q

pub refusal_is : {s : Store} {room : List ℕ} {n : ℕ} {h : Seen} → Table s room n h → (t : ℕ) (a : Ask) → refusal_of s.tags.asked (size_of n h) t a ≡ wrong can n h t a
refusal_is {s} {room} {n} {h} v t a =
    cond_same (leb 8 t || not (is_open (at s.tags.asked t))) (leb 8 t || not (free (h.way t))) _ _
    (elim (cases_lt t 8) [
      | inl l ↦ ap (λ (z : Bool). leb 8 t || not z) (same_open _ _ _ (h.way t) (v.entries t l))
      | inr l ↦ or_left (leb 8 t) (not (is_open (at s.tags.asked t))) (le-leb 8 t l) ∙ sym (or_left (leb 8 t) (not (free (h.way t))) (le-leb 8 t l))
    ])
    (same_why n h a)

-- the number of each refusal
module _ (ts : List (Option Ask)) (n t : ℕ) (a : Ask) where
  pub refused_tag : 8 ≤ t → refusal_of ts n t a ≡ 1
  refused_tag l = cond-true (leb 8 t || not (is_open (at ts t))) 1 (beyond n a) (or_left (leb 8 t) (not (is_open (at ts t))) (le-leb 8 t l))

  not-true : (b : Bool) → b ≡ false → not b ≡ true
  not-true b e = ap not e

  or_second : (a b : Bool) → b ≡ true → (a || b) ≡ true
  or_second true b e = refl
  or_second false b e = e

  pub refused_taken : is_open (at ts t) ≡ false → refusal_of ts n t a ≡ 1
  refused_taken e = cond-true (leb 8 t || not (is_open (at ts t))) 1 (beyond n a) (or_second (leb 8 t) (not (is_open (at ts t))) (ap not e))

  pub refused_else : t < 8 → is_open (at ts t) ≡ true → refusal_of ts n t a ≡ beyond n a
  refused_else l e = cond-false (leb 8 t || not (is_open (at ts t))) 1 (beyond n a) (or_from (leb 8 t) (not (is_open (at ts t))) (lt-leb 8 t l) (ap not e))

  -- what is not refused
  pub not_refused : refusal_of ts n t a ≡ 0 → (t < 8) × (is_open (at ts t) ≡ true) × (beyond n a ≡ 0)
  not_refused e =
      elim (cases_lt t 8) [
        | inr l ↦ absurd (omega (arith, sym e ∙ refused_tag l))
        | inl l ↦ elim (cases_Bool (is_open (at ts t))) [ inl o ↦ (l, o, sym (refused_else l o) ∙ e) | inr o ↦ absurd (omega (arith, sym e ∙ refused_taken o)) ]
      ]

pub reaches : (n : ℕ) (a : Ask) → beyond n a ≡ 0 → Reaches a n × T (core a)
unfolding core
reaches n (Read s) e = elim (cases_lt s n) [ inl l ↦ (l, tt) | inr g ↦ absurd (omega (arith, sym e ∙ cond-false (ltb s n) 0 3 (le-ltb s n g))) ]
reaches n (Write s) e = elim (cases_lt s n) [ inl l ↦ (l, tt) | inr g ↦ absurd (omega (arith, sym e ∙ cond-false (ltb s n) 0 3 (le-ltb s n g))) ]
reaches n Flush e = (tt, tt)
reaches n Size e = (tt, tt)
reaches n (Add d) e = absurd (omega (arith, e))
reaches n (Replace d f) e = absurd (omega (arith, e))

-- ---- what it leaves

-- one that isn't under way takes its place among the others
module _ {s : Store} {room : List ℕ} {n : ℕ} {h : Seen} (v : Table s room n h) (s' : Store) (room' : List ℕ) (t : ℕ) (a : Ask) (w : List ℕ) (m : ℕ → ℕ)
    (long : t < length s.tags.asked) (noted : s'.tags.asked ≡ set s.tags.asked t (Some a)) (cursor : s'.tags.cursor.number ≡ s.tags.cursor.number)
    (here : column t room' ≡ w) (others : (u : ℕ) → u < 8 → (u ≡ t → ⊥) → column u room' ≡ column u room) (built : T (core a)) (fits : Reaches a (size_of n h)) where
  abbrev way : ℕ → Way
  way u = cond (eqb u t) (Under a w m 0) (h.way u)

  at_here : at s'.tags.asked t ≡ Some a
  at_here = ap (λ (ts : List (Option Ask)). at ts t) noted ∙ get_or-set_same s.tags.asked t (Some a) None long

  at_other : (u : ℕ) → (u ≡ t → ⊥) → at s'.tags.asked u ≡ at s.tags.asked u
  at_other u ne = ap (λ (ts : List (Option Ask)). at ts u) noted ∙ get_or-set_other s.tags.asked t u (Some a) None ne

  pub entries_asked : (u : ℕ) → u < 8 → Entry (at s'.tags.asked u) (column u room') (size_of n h) (way u)
  entries_asked u l =
      elim (cases_eq u t) [
        | inl e ↦
            subst (λ (q : Way). Entry (at s'.tags.asked u) (column u room') (size_of n h) q) (sym (cond-true (eqb u t) (Under a w m 0) (h.way u) (eq-eqb u t e)))
            (ap (at s'.tags.asked) e ∙ at_here, sym (ap (λ (z : ℕ). column z room') e ∙ here), built, fits)
        | inr ne ↦
            subst (λ (q : Way). Entry (at s'.tags.asked u) (column u room') (size_of n h) q) (sym (cond-false (eqb u t) (Under a w m 0) (h.way u) (ne_eqb u t ne)))
            (subst (λ (o : Option Ask). Entry o (column u room') (size_of n h) (h.way u)) (sym (at_other u ne))
            (subst (λ (z : List ℕ). Entry (at s.tags.asked u) z (size_of n h) (h.way u)) (sym (others u l ne)) (v.entries u l)))
      ]

  pub waits_asked : (j : ℕ) → j < 8 → Waits (way ((s'.tags.cursor.number + j) % 8)) j
  waits_asked j l =
      subst (λ (k : ℕ). Waits (way ((k + j) % 8)) j) (sym cursor)
      (elim (cases_eq ((s.tags.cursor.number + j) % 8) t) [
        | inl e ↦ subst (λ (q : Way). Waits q j) (sym (cond-true (eqb ((s.tags.cursor.number + j) % 8) t) (Under a w m 0) (h.way ((s.tags.cursor.number + j) % 8)) (eq-eqb _ t e))) (omega arith)
        | inr ne ↦ subst (λ (q : Way). Waits q j) (sym (cond-false (eqb ((s.tags.cursor.number + j) % 8) t) (Under a w m 0) (h.way ((s.tags.cursor.number + j) % 8)) (ne_eqb _ t ne))) (v.waits j l)
      ])

module _ {s : Store} {room : List ℕ} {x : Shelf} {es : List Event} (v : Serving s room x es) (t : ℕ) (a : Ask) (w : List ℕ) where
  pub refused_on : (k : ℕ) → 0 < k → k ≡ wrong can x.sectors v.h t a → Serving s room (answered k a x) (said k t a w ∷ es)
  unfolding ticks
  refused_on zero l e = absurd (omega arith)
  refused_on (suc k) l e =
      record {
        c = v.c;
        h = v.h;
        stands = stands_like v.stands refl refl (omega arith) (subst (λ (z : ℕ). Run can x.sectors (Refused t a w z ∷ es) v.h) (sym e) (refuses t a w v.stands.explains.run (subst (λ (z : ℕ). 0 < z) e l)));
        table = v.table;
      }

  pub asked_on : (s' : Store) (room' : List ℕ) → s'.sectors ≡ s.sectors → s'.superblock ≡ s.superblock → t < length s.tags.asked → s'.tags.asked ≡ set s.tags.asked t (Some a) → s'.tags.cursor.number ≡ s.tags.cursor.number →
      column t room' ≡ w → ((u : ℕ) → u < 8 → (u ≡ t → ⊥) → column u room' ≡ column u room) → Reaches a (size_of x.sectors v.h) → T (core a) → 0 ≡ wrong can x.sectors v.h t a →
      Serving s' room' (takes_in a x) (Asked t a w ∷ es)
  unfolding ticks
  asked_on s' room' size super long noted cursor here others fits built e =
      subst (λ (z : Shelf). Serving s' room' z (Asked t a w ∷ es)) (sym (takes_nothing a x built))
      (record {
        c = v.c;
        h = set_disks v.h.disks (begins a v.h.change) (set_way t (Under a w v.h.count 0) v.h);
        stands = stands_like v.stands size super (omega arith) (asks t a w v.stands.explains.run (sym e));
        table = record {
          in_turn = omega (arith, cursor, v.table.in_turn);
          entries = entries_asked v.table s' room' t a w v.h.count long noted cursor here others built fits;
          waits = waits_asked v.table s' room' t a w v.h.count long noted cursor here others built fits;
        };
      })
