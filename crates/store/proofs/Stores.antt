-- A stripe, written column by column, all of them or some.
-- Assumes nothing.
use Rattle.std.proofs.Common.{◌≡◌, ℕ, zero, suc, ◌+◌, ◌<◌, ◌≤◌, Bool, true, false, cond, T, List, length, get_or, Some, None, Option, sym, refl, ap, ◌∙◌, subst, inl, inr, add-one, arith, below_more}
use Rattle.std.proofs.lemmas.Bool.{cases_eq}
use Rattle.layout.specs.Places.{place, index}
use Rattle.layout.specs.Members.{Roster}
use Rattle.layout.specs.Super.{Super, Proper}
use Rattle.layout.proofs.Turning.{place_within, index_within, index-place, place-index}
use Rattle.store.specs.Event.{Event}
use Rattle.store.specs.Shelf.{Shelf, count}
use Rattle.store.specs.Durable.{Here, Went, Shows}
use Rattle.store.specs.Keeping.{Fills, Holds}
use Rattle.layout.specs.declared.superblock.Rebuild.{Rebuild}
use Rattle.store.specs.Stripes.{disk_of, Spread, Storing, Held, Stored, extra}
use Rattle.store.proofs.Laws.{went_none, went_then, went_wider, went_longer, shows_went}
use Rattle.store.proofs.Standing.{holds_once}
use Rattle.store.proofs.Loads.{disks_apart}

-- ---- how many are selected

pub count_more : (n : ℕ) (f : ℕ → Bool) → f n ≡ true → count n f + 1 ≡ count (n + 1) f
unfolding count
count_more n f e = rw (add-one n, e)

pub count_skip : (n : ℕ) (f : ℕ → Bool) → f n ≡ false → count n f ≡ count (n + 1) f
unfolding count
count_skip n f e = rw (add-one n, e) (omega arith)

pub count_below : (m n : ℕ) (f : ℕ → Bool) → m ≤ n → count m f ≤ count n f
unfolding count
count_below m zero f l = let e : m ≡ 0 = omega arith in rw e (omega arith)
count_below m (suc n) f l = elim (cases_eq m (suc n)) [ inl e ↦ rw e (omega arith) | inr e ↦ let h = count_below m n f (omega arith) in omega arith ]

at_most_one : (b : Bool) → cond b 1 0 ≤ 1
at_most_one true = omega arith
at_most_one false = omega arith

pub count_all : (n : ℕ) (f : ℕ → Bool) → count n f ≤ n
unfolding count
count_all zero f = omega arith
count_all (suc n) f = let h = count_all n f in let k = at_most_one (f n) in omega arith

-- ---- one column more

pub storing_none : (sel : ℕ → Bool) (ds : List ℕ) (s r : ℕ) (h : ℕ → List ℕ) (x : Shelf) (es : List Event) → Storing 0 sel ds s r h x es x es
unfolding count
storing_none sel ds s r h x es = record { went = went_none _ x es; lit = λ on. on; shows = λ i l. absurd (omega arith) }

pub storing_is : {sel : ℕ → Bool} {ds : List ℕ} {s r m n : ℕ} {h : ℕ → List ℕ} {x y : Shelf} {es fs : List Event} → m ≡ n → Storing m sel ds s r h x es y fs → Storing n sel ds s r h x es y fs
storing_is {sel} {ds} {s} {r} {h = h} {x} {y} {es} {fs} e p = subst (λ (z : ℕ). Storing z sel ds s r h x es y fs) e p

module _ {sel : ℕ → Bool} {ds : List ℕ} {s r n : ℕ} {h : ℕ → List ℕ} {x y : Shelf} {es fs : List Event} (k : Roster ds) (nk : n < length ds) (p : Storing n sel ds s r h x es y fs) where
  pub storing_skip : sel n ≡ false → Storing (n + 1) sel ds s r h x es y fs
  storing_skip o =
      record {
        went = went_longer (let e = count_skip n sel o in omega arith) p.went;
        lit = p.lit;
        shows = below_more (λ i. T (sel i) → Shows y (disk_of ds r i) s (h i)) n p.shows (λ t. absurd (subst T o t));
      }

  module _ {z : Shelf} {gs : List Event} (b : List ℕ) (o : sel n ≡ true) (words : b ≡ h n) (w : Went 1 (Here (disk_of ds r n) s b) y fs z gs) where
    here_spread : (d u : ℕ) (v : List ℕ) → Here (disk_of ds r n) s b d u v → Spread sel ds s r h d u v
    here_spread d u v q = (q.1, (n, (nk, subst T (sym o) tt, q.0, q.2 ∙ words)))

    pub storing_went : Went (count (n + 1) sel) (Spread sel ds s r h) x es z gs
    storing_went = went_longer (let e = count_more n sel o in omega arith) (went_then p.went (went_wider {n = 1} (omega arith) here_spread w))

    pub storing_more : (y.on ≡ true → z.on ≡ true) → Shows z (disk_of ds r n) s b → Storing (n + 1) sel ds s r h x es z gs
    storing_more on q =
        record {
          went = storing_went;
          lit = λ l. on (p.lit l);
          shows = below_more (λ i. T (sel i) → Shows z (disk_of ds r i) s (h i)) n
              (λ i l t. shows_went w (disk_of ds r i) s (h i) (λ c v. disks_apart ds k r i n (omega arith) nk (λ e. omega arith) v.0) (p.shows i l t))
              (λ t. subst (λ (v : List ℕ). Shows z (disk_of ds r n) s v) words q);
        }

-- ---- whoever holds it

-- a disk that is being filled costs one ask
fills_extra : (R : Option Rebuild) (d p r : ℕ) → Fills R d p r → extra R ≡ 1
fills_extra None d p r f = absurd f
fills_extra (Some b) d p r f = refl

module _ (sel : ℕ → Bool) (r : ℕ) {S : Super} {s : ℕ} {h : ℕ → List ℕ} {x y : Shelf} {es fs : List Event} (o : Proper S) where
  pub spread_held : {n : ℕ} → Went n (Spread sel S.members s r h) x es y fs → Went n (Held sel S s r) x es y fs
  spread_held w =
      went_wider (omega arith)
      (λ d t b v.
      let i = v.1.0 in
      let l = v.1.1 in
      (v.0, (place i r, (inl (place_within (length S.members) i r o.roster.least l.0, sym l.2), subst (λ (j : ℕ). T (sel j)) (sym (index-place i r)) l.1)))) w

  members_stored : Storing (length S.members) sel S.members s r h x es y fs → (d p : ℕ) → p < length S.members → get_or S.members p 0 ≡ d → T (sel (index p r)) → Shows y d s (h (index p r))
  members_stored m d p l e t =
      let i = index_within (length S.members) p r o.roster.least l in
      subst (λ (f : ℕ). Shows y f s (h (index p r))) (ap (λ (q : ℕ). get_or S.members q 0) (place-index p r) ∙ e) (m.shows (index p r) i t)

  -- nobody is being filled so far, or its column isn't selected
  pub stored_members : Storing (length S.members) sel S.members s r h x es y fs → ((d p : ℕ) → Fills S.rebuild d p r → T (sel (index p r)) → ⊥) → Stored sel S s r h y
  stored_members m none d p g t = elim g [ inl u ↦ members_stored m d p u.0 u.1 t | inr u ↦ absurd (none d p u t) ]

  -- or it was written too
  module _ {z : Shelf} {gs : List Event} {at : ℕ} (q : ℕ) {b : List ℕ} (f : Fills S.rebuild at q r) (w : Went 1 (Here at s b) y fs z gs) where
    pub spread_fill : {n : ℕ} → Went n (Spread sel S.members s r h) x es y fs → T (sel (index q r)) → Went (n + extra S.rebuild) (Held sel S s r) x es z gs
    spread_fill m t =
        went_longer (omega (arith, fills_extra S.rebuild at q r f))
        (went_then (spread_held m) (went_wider {n = 1} (omega arith) (λ d u c v. (v.1, (q, (inr (subst (λ (e : ℕ). Fills S.rebuild e q r) (sym v.0) f), t)))) w))

    pub stored_fill : Storing (length S.members) sel S.members s r h x es y fs → ((d p : ℕ) → Fills S.rebuild d p r → d ≡ at) → b ≡ h (index q r) → Shows z at s b → Stored sel S s r h z
    stored_fill m one e a d p g t =
        elim (cases_eq d at) [
          | inl i ↦
              let same : p ≡ q = holds_once S o at p q r r (subst (λ (j : ℕ). Holds S j p r) i g) (inr f) in
              subst (λ (j : ℕ). Shows z j s (h (index p r))) (sym i) (subst (λ (v : List ℕ). Shows z at s v) (e ∙ ap (λ (j : ℕ). h (index j r)) (sym same)) a)
          | inr i ↦
              elim g [
                | inl u ↦ shows_went w d s (h (index p r)) (λ c v. i v.0) (members_stored m d p u.0 u.1 t)
                | inr u ↦ absurd (i (one d p u))
              ]
        ]
