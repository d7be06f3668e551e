-- A stripe, read column by column, of which no three can be missing.
-- Assumes nothing.
use Rattle.std.proofs.Common.{◌≡◌, ℕ, ◌+◌, ◌<◌, Bool, true, false, T, ◌≢◌, List, length, get_or, set, sym, ap, ◌∙◌, subst, inl, inr, arith}
use Rattle.field.specs.Stripe.{held}
use Rattle.field.specs.Missing.{and_also, Known, Mends}
use Rattle.field.specs.declared.missing.Missing.{Missing}
use Rattle.field.specs.declared.missing.Missing.TheVariants.{Nothing, One, Two}
use Rattle.field.proofs.Slices.{written}
use Rattle.field.proofs.Missings.{known_here, known_missing, known_weaker}
use Rattle.layout.specs.Places.{place, index}
use Rattle.layout.specs.Members.{Roster, with_mark}
use Rattle.layout.specs.declared.members.Marks.{Marks}
use Rattle.layout.proofs.Turning.{place_within, index-place, place_apart}
use Rattle.layout.proofs.Marking.{marked_more}
use Rattle.store.specs.Event.{Event}
use Rattle.store.specs.Shelf.{Shelf}
use Rattle.store.specs.Durable.{Nowhere, Went, Heard}
use Rattle.store.specs.Stripes.{Serving, Shown, disk_of, Answered, Each, Loading, Loaded, Read, learned}
use Rattle.store.specs.Writes.{MarksTrue}
use Rattle.store.proofs.Truths.{true-T, with_marks}
use Rattle.store.proofs.Counting.{no_third}
use Rattle.store.proofs.Laws.{went_none, went_then, shows_went, dead_stays}
use Rattle.store.proofs.Standing.{members_apart}

-- whoever serves goes on to, while nothing but deaths happens
pub serving_went : {n : ℕ} {W : (d s : ℕ) → List ℕ → Type 0} {x y : Shelf} {es fs : List Event} → Went n W x es y fs → (ds : List ℕ) (m : Marks) → Serving x (with_marks ds m) → Serving y (with_marks ds m)
serving_went w ds m v =
    record {
      roster = v.roster;
      steady = w.deaths.steady v.steady;
      employed = λ p l. w.deaths.employed (get_or ds p 0) (v.employed p l);
      marks = λ p l t. dead_stays w (get_or ds p 0) (v.marks p l t);
    }

-- ---- one member

pub answered_heard : {d s : ℕ} {b : List ℕ} {lives : Bool} {x y : Shelf} → Heard d s b lives y → Answered d s b lives x y
answered_heard h = record { lit = λ _. h.lit; alive = h.alive; shows = h.shows }

pub answered_marked : (d s : ℕ) (b : List ℕ) (x : Shelf) → x.alive d ≡ false → Answered d s b false x x
answered_marked d s b x h = record { lit = λ on. on; alive = h; shows = λ t. absurd t }

-- ---- no two columns are on one disk

module _ (ds : List ℕ) (k : Roster ds) where
  pub disks_apart : (r i j : ℕ) → i < length ds → j < length ds → i ≢ j → disk_of ds r i ≢ disk_of ds r j
  disks_apart r i j hi hj n =
      members_apart ds k (place i r) (place j r) (place_within (length ds) i r k.least hi) (place_within (length ds) j r k.least hj) (place_apart i j r n)

  -- of a stripe's columns no three are on dead disks
  pub no_third_column : (z : Shelf) (m : Marks) → Serving z (with_marks ds m) → (r a b n : ℕ) → a < b → b < n → n < length ds →
      z.alive (disk_of ds r a) ≡ false → z.alive (disk_of ds r b) ≡ false → z.alive (disk_of ds r n) ≡ false → ⊥
  no_third_column z m v r a b n ab bn nk da db dn =
      let ha : a < length ds = omega arith in
      let hb : b < length ds = omega arith in
      let asked = λ (i : ℕ) (h : i < length ds). v.employed (place i r) (place_within (length ds) i r k.least h) in
      no_third z v.steady (disk_of ds r a) (disk_of ds r b) (disk_of ds r n) (asked a ha) (asked b hb) (asked n nk)
      (disks_apart r a b ha hb (λ e. omega arith)) (disks_apart r a n ha nk (λ e. omega arith)) (disks_apart r b n hb nk (λ e. omega arith)) da db dn

-- ---- one more column

pub loading_none : (ds : List ℕ) (s r : ℕ) (t : List (List ℕ)) (x : Shelf) (es : List Event) → Loading 0 Nothing ds s r t x es x es
loading_none ds s r t x es = record { went = went_none Nowhere x es; lit = λ on. on; known = λ e l. absurd (omega arith) }

module _ {n : ℕ} {m : Missing} {ds : List ℕ} {s r : ℕ} {t : List (List ℕ)} {x y z : Shelf} {es fs gs : List Event} (ys : List ℕ) (lt : n < length t)
    (p : Loading n m ds s r t x es y fs) (w : Went 1 Nowhere y fs z gs) where
  There : List (List ℕ) → ℕ → Type 0
  There u e = T (x.alive (disk_of ds r e)) × (held u e ≡ x.shown (disk_of ds r e) s)

  Lost : Shelf → ℕ → Type 0
  Lost v e = v.alive (disk_of ds r e) ≡ false

  still : (e : ℕ) → e < n → There t e → There (set t n ys) e
  unfolding There
  still e h a = (a.0, (written n ys t lt).others e (λ q. omega arith) ∙ a.1)

  pub loading_alive : Answered (disk_of ds r n) s ys true y z → Loading (n + 1) m ds s r (set t n ys) x es z gs
  unfolding There Lost
  loading_alive a =
      record {
        went = went_then p.went w;
        lit = λ on. a.lit (p.lit on);
        known = known_here n (There t) (Lost y) (There (set t n ys)) (Lost z) still (λ e h. dead_stays w (disk_of ds r e) h) m (
          p.went.deaths.falls (disk_of ds r n) (w.deaths.falls (disk_of ds r n) (true-T a.alive)),
          (written n ys t lt).here ∙ (a.shows tt ∙ (w.stays (disk_of ds r n) s (λ b v. v) ∙ p.went.stays (disk_of ds r n) s (λ b v. v))),
        ) p.known;
      }

  pub loading_dead : (lives : Bool) → lives ≡ false → Answered (disk_of ds r n) s ys lives y z → ((a b : ℕ) → a < b → b < n → z.alive (disk_of ds r a) ≡ false → z.alive (disk_of ds r b) ≡ false → z.alive (disk_of ds r n) ≡ false → ⊥) →
      Loading (n + 1) (and_also m n) ds s r (set t n ys) x es z gs
  unfolding There Lost
  loading_dead lives o a third =
      record {
        went = went_then p.went w;
        lit = λ on. a.lit (p.lit on);
        known = known_missing n (There t) (Lost y) (There (set t n ys)) (Lost z) still (λ e h. dead_stays w (disk_of ds r e) h) m (a.alive ∙ o) (λ i j ij jn di dj. third i j ij jn di dj (a.alive ∙ o)) p.known;
      }

-- ---- all were asked for, and what was missing is mended

each_known : (k : ℕ) (m : Missing) (P D : ℕ → Type 0) → Known k m P D → Each m (λ i. (i < k) × D i)
each_known k Nothing P D h = tt
each_known k (One a) P D h = (h.0, h.1)
each_known k (Two a b) P D h = ((omega (arith, h.0, h.1), h.2), (h.1, h.3))

pub loaded : {m : Missing} {ds : List ℕ} {s r : ℕ} {t u : List (List ℕ)} {x y : Shelf} {es fs : List Event} → Roster ds → Loading (length ds) m ds s r t x es y fs → Mends (length ds) m (held t) (held u) → Loaded m ds s r u x y
loaded {m} {ds} {s} {r} {t} {u} {x} {y} few p f =
    record {
      lit = p.lit;
      dead = each_known (length ds) m _ _ p.known;
      whole = λ c w h.
          f c w
          (known_weaker (length ds) m (λ e. T (x.alive (disk_of ds r e)) × (held t e ≡ x.shown (disk_of ds r e) s)) (λ e. held t e ≡ c e) (λ e. y.alive (disk_of ds r e) ≡ false) (λ _. Unit {0})
          (λ e b q. q.1 ∙ (h (place e r) (place_within (length ds) e r few.least b) q.0 ∙ ap c (index-place e r))) (λ e _. tt) p.known);
    }

pub loading_is : {ds : List ℕ} {m : Missing} {s r i n : ℕ} {t : List (List ℕ)} {x y : Shelf} {es fs : List Event} → i ≡ n → Loading i m ds s r t x es y fs → Loading n m ds s r t x es y fs
loading_is {ds} {m} {s} {r} {t = t} {x} {y} {es} {fs} e p = subst (λ (z : ℕ). Loading z m ds s r t x es y fs) e p

-- ---- one column

shown_went : {n : ℕ} {x y : Shelf} {es fs : List Event} → Went n Nowhere x es y fs → (ds : List ℕ) (s r : ℕ) (c : ℕ → List ℕ) → Shown x ds s r c → Shown y ds s r c
shown_went w ds s r c h p b = shows_went w (get_or ds p 0) s (c (index p r)) (λ _ v. v) (h p b)

pub read_one : {n : ℕ} {ds : List ℕ} {s r i : ℕ} {b : List ℕ} {x y : Shelf} {es fs : List Event} (lives : Bool) → Roster ds → i < length ds → lives ≡ true → Went n Nowhere x es y fs → Answered (disk_of ds r i) s b lives x y →
    Read Nothing ds s r i b x y
read_one {ds = ds} {s} {r} {i} lives few h o w a =
    record {
      lit = a.lit;
      dead = tt;
      column_is = λ c _ l.
          a.shows (true-T o) ∙ (w.stays (disk_of ds r i) s (λ b v. v) ∙
          (l (place i r) (place_within (length ds) i r few.least h) (w.deaths.falls (disk_of ds r i) (true-T (a.alive ∙ o))) ∙ ap c (index-place i r)));
    }

pub read_all : {n : ℕ} {m : Missing} {ds : List ℕ} {s r i : ℕ} {b : List ℕ} {t : List (List ℕ)} {x y z : Shelf} {es fs : List Event} (d : ℕ) (v : List ℕ) (lives : Bool) → i < length ds → b ≡ held t i → Went n Nowhere x es y fs → Answered d s v lives x y →
    Loaded m ds s r t y z → Read m ds s r i b x z
read_all {ds = ds} {s} {r} {i} d v lives h e w a p =
    record { lit = λ on. p.lit (a.lit on); dead = p.dead; column_is = λ c k l. e ∙ p.whole c k (shown_went w ds s r c l) i h }

-- ---- what is learned of the members

-- one member more is known to be dead
marks_more : (x : Shelf) (ds : List ℕ) (m : Marks) (p : ℕ) → MarksTrue x (with_marks ds m) → x.alive (get_or ds p 0) ≡ false → MarksTrue x (with_marks ds (with_mark m p))
marks_more x ds m p v d q l t = elim (marked_more m p q t) [ inl a ↦ v q l a | inr e ↦ subst (λ (z : ℕ). x.alive (get_or ds z 0) ≡ false) (sym e) d ]

pub marks_learned : (x : Shelf) (ds : List ℕ) (m : Marks) (missing : Missing) (r : ℕ) → MarksTrue x (with_marks ds m) → Each missing (λ i. (i < length ds) × (x.alive (disk_of ds r i) ≡ false)) → MarksTrue x (with_marks ds (learned m missing r))
marks_learned x ds m Nothing r v d = v
marks_learned x ds m (One a) r v d = marks_more x ds m (place a r) v d.1
marks_learned x ds m (Two a b) r v d = marks_more x ds (with_mark m (place a r)) (place b r) (marks_more x ds m (place a r) v d.0.1) d.1.1
