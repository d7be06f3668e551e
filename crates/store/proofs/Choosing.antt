-- Which of two candidates is found among the disks, and that it is right.
-- Assumes nothing.
use Rattle.std.proofs.Common.{◌≡◌, ℕ, ◌+◌, ◌<◌, ◌≤◌, true, false, T, leb, ◌≢◌, ◌⊎◌, List, get_or, sym, refl, ap, ◌∙◌, subst, inl, inr, ⊎_elim, arith, below_more}
use mathlib.Core.List.Memᴰ
use Rattle.std.proofs.lemmas.Bool.{cases_Bool, cases_eq, leb-true, leb-false}
use Rattle.layout.specs.Super.{Super, super_of, Proper}
use Rattle.store.specs.Event.{Event}
use Rattle.store.specs.Shelf.{Shelf}
use Rattle.store.specs.Durable.{Among, Employed, Nowhere, Went}
use Rattle.store.specs.Keeping.{Columns, Kept, UpTo, Sound, Torn}
use Rattle.store.specs.Commits.{Heading, Headed}
use Rattle.store.specs.Recovers.{newer, Looked, Recovered, Lapsed}
use Rattle.store.proofs.Truths.{true-T}
use Rattle.store.proofs.Counting.{no_third}
use Rattle.store.proofs.Laws.{went_none, went_then, among_settled, among_weaker, dead_stays}
use Rattle.store.proofs.Standing.{member_holds, three_members, members_apart, torn_went, torn_new, torn_old}

-- ---- of the three that say the superblock one is alive

module _ (x : Shelf) (S : Super) (c : Columns) (k : Kept x S c) where
  pub first_employed : (p : ℕ) → p < 3 → Employed x (get_or S.members p 0)
  first_employed p l = k.employed (get_or S.members p 0) p 0 (member_holds S p 0 (three_members S p k.proper l))

  distinct : (p q : ℕ) → p < 3 → q < 3 → p ≢ q → get_or S.members p 0 ≢ get_or S.members q 0
  distinct p q l m n = members_apart S.members k.proper.roster p q (three_members S p k.proper l) (three_members S q k.proper m) n

  pub some_alive : (p : ℕ) × (p < 3) × T (x.alive (get_or S.members p 0))
  some_alive =
      elim (cases_Bool (x.alive (get_or S.members 0 0))) [
        | inl a ↦ (0, omega arith, true-T a)
        | inr a ↦
            elim (cases_Bool (x.alive (get_or S.members 1 0))) [
              | inl b ↦ (1, omega arith, true-T b)
              | inr b ↦
                  elim (cases_Bool (x.alive (get_or S.members 2 0))) [
                    | inl e ↦ (2, omega arith, true-T e)
                    | inr e ↦
                        absurd (no_third x k.steady (get_or S.members 0 0) (get_or S.members 1 0) (get_or S.members 2 0)
                        (first_employed 0 (omega arith)) (first_employed 1 (omega arith)) (first_employed 2 (omega arith))
                        (distinct 0 1 (omega arith) (omega arith) (λ z. omega arith)) (distinct 0 2 (omega arith) (omega arith) (λ z. omega arith)) (distinct 1 2 (omega arith) (omega arith) (λ z. omega arith))
                        a b e)
                  ]
            ]
      ]

-- ---- the newest that is found is one of the two

module _ (x : Shelf) (S : Super) (c : Columns) (S' : Super) (c' : Columns) (k : Torn x S c S' c') (b : List ℕ) (from : UpTo S b ⊎ (super_of b ≡ S'))
    (most : (d : ℕ) → d < 16 → T (x.alive d) → (super_of (x.shown d 0)).generation ≤ (super_of b).generation) where
  at_least : S.generation ≤ (super_of b).generation
  at_least =
      let a = some_alive x S c k.old in
      let d : ℕ = get_or S.members a.0 0 in
      let m = most d (first_employed x S c k.old a.0 a.1).there a.2 in
      let number = λ (P Q : Super) (e : P ≡ Q). ap (λ (R : Super). R.generation) e in
      ⊎_elim (λ e. omega (arith, m, number _ _ e)) (λ e. ⊎_elim (λ l. omega (arith, m, number _ _ e)) (λ q. omega (arith, m, number _ _ e, number _ _ q)) k.later)
      (k.three a.0 a.1 a.2 (x.shown d 0) (Memᴰ.head refl))

  pub one_of_two : (super_of b ≡ S) ⊎ (super_of b ≡ S')
  one_of_two = ⊎_elim (λ u. ⊎_elim (λ l. absurd (omega (arith, at_least))) inl u) inr from

-- ---- and it is in force when it was written again: nobody shows a newer one then, and a sync leaves what is shown

module _ {n : ℕ} {x y : Shelf} {es fs : List Event} (S : Super) (m : (d : ℕ) → d < 16 → T (x.alive d) → (super_of (x.shown d 0)).generation ≤ S.generation) (w : Went n (Heading S) x es y fs) (h : Headed S y) where
  written_most : (p d : ℕ) → p < 3 → d ≡ get_or S.members p 0 → Among y d 0 (λ a. (super_of a).generation ≤ S.generation)
  written_most p d l e =
      subst (λ (i : ℕ). Among y i 0 (λ a. (super_of a).generation ≤ S.generation)) (sym e)
      (among_weaker y (get_or S.members p 0) 0 (λ a q. omega (arith, ap (λ (R : Super). R.generation) q)) (h.three p l))

  unwritten_most : (d : ℕ) → d < 16 → ((p : ℕ) → p < 3 → d ≢ get_or S.members p 0) → Among y d 0 (λ a. (super_of a).generation ≤ S.generation)
  unwritten_most d l none t a u =
      rw (among_settled y h.settled d 0 (y.shown d 0) (λ v. refl) t a u ∙ w.stays d 0 (λ c v. none v.2.0 v.2.1.0 v.2.1.1)) (m d l (w.deaths.falls d t))

  three_only : (d : ℕ) → d ≢ get_or S.members 0 0 → d ≢ get_or S.members 1 0 → d ≢ get_or S.members 2 0 → (p : ℕ) → p < 3 → d ≢ get_or S.members p 0
  three_only d i j k p l =
      elim (cases_eq p 0) [
        | inl e ↦ rw e i
        | inr a ↦ elim (cases_eq p 1) [ inl e ↦ rw e j | inr b ↦ let e : p ≡ 2 = omega arith in rw e k ]
      ]

  pub most_now : (d : ℕ) → d < 16 → Among y d 0 (λ a. (super_of a).generation ≤ S.generation)
  most_now d l =
      elim (cases_eq d (get_or S.members 0 0)) [
        | inl e ↦ written_most 0 d (omega arith) e
        | inr i ↦
            elim (cases_eq d (get_or S.members 1 0)) [
              | inl e ↦ written_most 1 d (omega arith) e
              | inr j ↦ elim (cases_eq d (get_or S.members 2 0)) [ inl e ↦ written_most 2 d (omega arith) e | inr k ↦ unwritten_most d l (three_only d i j k) ]
            ]
      ]

pub chosen : {n : ℕ} {x y : Shelf} {es fs : List Event} (S : Super) (c : Columns) (S' : Super) (c' : Columns) (F : Super) → Torn x S c S' c' →
    ((d : ℕ) → d < 16 → T (x.alive d) → (super_of (x.shown d 0)).generation ≤ F.generation) → (F ≡ S) ⊎ (F ≡ S') → Went n (Heading F) x es y fs → Headed F y → ((F ≡ S) × Sound y S c) ⊎ ((F ≡ S') × Sound y S' c')
chosen {n} {x} {y} S c S' c' F k m (inl e) w h =
    inl (
      e,
      torn_old y S c S' c' (subst (λ (Q : Super). (p : ℕ) → p < 3 → Among y (get_or Q.members p 0) 0 (λ a. super_of a ≡ Q)) e h.three)
          (λ d l. subst (λ (Q : Super). Among y d 0 (λ a. (super_of a).generation ≤ Q.generation)) e (most_now F m w h d l)) (torn_went w S c S' c' (λ d s a v. (v.0, inl (v.1 ∙ e))) k),
    )
chosen {n} {x} {y} S c S' c' F k m (inr e) w h =
    inr (
      e,
      torn_new y S c S' c' (subst (λ (Q : Super). (p : ℕ) → p < 3 → Among y (get_or Q.members p 0) 0 (λ a. super_of a ≡ Q)) e h.three)
          (torn_went w S c S' c' (λ d s a v. (v.0, inr (v.1 ∙ e))) k),
    )

-- ---- looking for it, disk by disk

pub look_none : (b : List ℕ) (x : Shelf) (es : List Event) → (super_of b).generation ≡ 0 → Looked 0 b x es x es
look_none b x es z = record { went = went_none Nowhere x es; newest = record { most = λ e l. absurd (omega arith); from = inl (z, λ e l. absurd (omega arith)) } }

module _ {n : ℕ} {b : List ℕ} {x y z : Shelf} {es fs gs : List Event} (p : Looked n b x es y fs) (w : Went 1 Nowhere y fs z gs) where
  still_most : (e : ℕ) → e < n → T (z.alive e) → (super_of (z.shown e 0)).generation ≤ (super_of b).generation
  still_most e l t = rw (w.stays e 0 (λ a v. v)) (p.newest.most e l (w.deaths.falls e t))

  pub look_dead : z.alive n ≡ false → Looked (n + 1) b x es z gs
  look_dead h =
      record {
        went = went_then p.went w;
        newest = record {
          most = below_more (λ e. T (z.alive e) → (super_of (z.shown e 0)).generation ≤ (super_of b).generation) n still_most (λ t. absurd (subst T h t));
          from = ⊎_elim (λ u. inl (u.0, below_more (λ e. z.alive e ≡ false) n (λ e l. dead_stays w e (u.1 e l)) h)) inr p.newest.from;
        };
      }

  pub look_alive : (a : List ℕ) → n < 16 → z.alive n ≡ true → a ≡ z.shown n 0 → Looked (n + 1) (newer b a) x es z gs
  look_alive a m t q =
      elim (cases_Bool (leb (super_of b).generation (super_of a).generation)) [
        | inl h ↦
            let le = leb-true (super_of b).generation (super_of a).generation h in
            rw h (record {
              went = went_then p.went w;
              newest = record {
                most = below_more (λ e. T (z.alive e) → (super_of (z.shown e 0)).generation ≤ (super_of a).generation) n (λ e l u. omega (arith, still_most e l u)) (λ u. rw q (omega arith));
                from = inr (n, m, p.went.deaths.falls n (w.deaths.falls n (true-T t)), q ∙ (w.stays n 0 (λ c v. v) ∙ p.went.stays n 0 (λ c v. v)));
              };
            })
        | inr h ↦
            let le = leb-false (super_of b).generation (super_of a).generation h in
            rw h (record {
              went = went_then p.went w;
              newest = record {
                most = below_more (λ e. T (z.alive e) → (super_of (z.shown e 0)).generation ≤ (super_of b).generation) n still_most (λ u. let f = ap (λ (l : List ℕ). (super_of l).generation) q in omega arith);
                from = ⊎_elim (λ u. absurd (omega arith)) inr p.newest.from;
              };
            })
      ]

-- ---- what is found by it

module _ {b : List ℕ} {x y : Shelf} {es fs : List Event} (p : Looked 16 b x es y fs) (S : Super) (c : Columns) (S' : Super) (c' : Columns) (k : Torn x S c S' c') where
  pub torn_looked : Torn y S c S' c'
  torn_looked = torn_went p.went S c S' c' (λ d s a v. absurd v) k

  found_of : UpTo S b ⊎ (super_of b ≡ S')
  found_of =
      ⊎_elim
      (λ u. let a = some_alive y S c torn_looked.old in absurd (subst T (u.1 (get_or S.members a.0 0) (first_employed y S c torn_looked.old a.0 a.1).there) a.2))
      (λ u. rw u.3 (k.all u.0 u.1 u.2 (x.shown u.0 0) (Memᴰ.head refl))) p.newest.from

  pub found_right : (super_of b ≡ S) ⊎ (super_of b ≡ S')
  found_right = one_of_two y S c S' c' torn_looked b found_of p.newest.most

  pub found_proper : Proper (super_of b)
  found_proper = ⊎_elim (λ e. subst Proper (sym e) torn_looked.old.proper) (λ e. subst Proper (sym e) torn_looked.new.proper) found_right

  pub found_employed : (i : ℕ) → i < 3 → Employed y (get_or (super_of b).members i 0)
  found_employed i l =
      ⊎_elim (λ e. subst (λ (Q : Super). Employed y (get_or Q.members i 0)) (sym e) (first_employed y S c torn_looked.old i l))
      (λ e. subst (λ (Q : Super). Employed y (get_or Q.members i 0)) (sym e) (first_employed y S' c' torn_looked.new i l)) found_right

-- F is what the words b say
module _ {b : List ℕ} {x y z : Shelf} {es fs gs : List Event} (F : Super) (says : F ≡ super_of b) (p : Looked 16 b x es y fs) (w : Went 4 (Heading F) y fs z gs) where
  right : (S : Super) (c : Columns) (S' : Super) (c' : Columns) → Torn x S c S' c' → (F ≡ S) ⊎ (F ≡ S')
  right S c S' c' k = ⊎_elim (λ e. inl (says ∙ e)) (λ e. inr (says ∙ e)) (found_right p S c S' c' k)

  pub recovered : Headed F z → Recovered F x z
  recovered h =
      record {
        lit = h.lit;
        settled = h.settled;
        right = λ S c S' c' k.
            chosen S c S' c' F (torn_looked p S c S' c' k) (λ d l t. subst (λ (Q : Super). (super_of (y.shown d 0)).generation ≤ Q.generation) (sym says) (p.newest.most d l t)) (right S c S' c' k) w h;
      }

  pub lapsed_later : z.on ≡ false → Lapsed x z
  lapsed_later o =
      record {
        off = o;
        torn = λ S c S' c' k.
            torn_went w S c S' c' (λ d s a v. (v.0, ⊎_elim (λ e. inl (v.1 ∙ e)) (λ e. inr (v.1 ∙ e)) (right S c S' c' k))) (torn_looked p S c S' c' k);
      }

pub lapsed_first : {n : ℕ} {x y : Shelf} {es fs : List Event} → Went n Nowhere x es y fs → y.on ≡ false → Lapsed x y
lapsed_first w o = record { off = o; torn = λ S c S' c' k. torn_went w S c S' c' (λ d s a v. absurd v) k }
