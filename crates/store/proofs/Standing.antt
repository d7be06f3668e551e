-- Laws of what the disks keep under a superblock: where a stripe is, who holds it, and what keeps all that.
-- Assumes nothing.
use Rattle.std.proofs.Common.{◌≡◌, ℕ, ◌+◌, ◌<◌, ◌≤◌, true, false, T, ◌≢◌, ◌⊎◌, List, length, get_or, Some, None, Option, sym, refl, ap, ◌∙◌, subst, inl, inr, ⊎_elim, arith}
use Rattle.std.proofs.lemmas.Bool.{cases_eq, cases_lt, eq-eqb, ne_eqb}
use Rattle.layout.specs.Places.{index}
use Rattle.layout.specs.Members.{Roster, Absent}
use Rattle.layout.specs.Super.{Super, super_of, Proper, Joins}
use Rattle.layout.specs.declared.superblock.Rebuild.{Rebuild}
use Rattle.store.specs.Event.{Event}
use Rattle.store.specs.Shelf.{Shelf}
use Rattle.store.specs.Durable.{Among, Shows, Settled, Employed, Nowhere, Went, Returned}
use Rattle.store.specs.Keeping.{Columns, slot, is_journalled, home, Fills, Holds, Inside, Kept, UpTo, Sound, Torn, Placed, Ready, Left}
use Rattle.store.specs.Writes.{InPlace, journalling}
use Rattle.store.proofs.Laws.{among_went, shows_went, among_back, shows_among, among_synced, among_weaker}

-- ---- where a stripe is

pub slots_differ : (g : ℕ) → slot g ≡ slot (g + 1) → ⊥
unfolding slot
slots_differ g e = omega arith

pub slot_low : (g : ℕ) → (0 < slot g) × (slot g < 3)
unfolding slot
slot_low g = (omega arith, omega arith)

journalled_cases : (j : Option ℕ) (r : ℕ) → (j ≡ Some r) ⊎ (is_journalled j r ≡ false)
journalled_cases None r = inr refl
journalled_cases (Some q) r = elim (cases_eq q r) [ inl e ↦ inl (ap Some e) | inr n ↦ inr (ne_eqb q r n) ]

journalled_some : (j : Option ℕ) (r : ℕ) → j ≡ Some r → is_journalled j r ≡ true
journalled_some j r e = subst (λ (i : Option ℕ). is_journalled i r ≡ true) (sym e) (eq-eqb r r refl)

pub home_journal : (S : Super) (r : ℕ) → S.journal ≡ Some r → home S r ≡ slot S.generation
unfolding home
home_journal S r e = rw (journalled_some S.journal r e)

pub home_else : (S : Super) (r : ℕ) → is_journalled S.journal r ≡ false → home S r ≡ 64 + r
unfolding home
home_else S r n = rw n

-- the stripe is in the journal, or in its place
pub home_cases : (S : Super) (r : ℕ) → ((S.journal ≡ Some r) × (home S r ≡ slot S.generation)) ⊎ (home S r ≡ 64 + r)
home_cases S r = ⊎_elim (λ e. inl (e, home_journal S r e)) (λ n. inr (home_else S r n)) (journalled_cases S.journal r)

pub home_within : (S : Super) (r n : ℕ) → 128 ≤ n → 64 + r < n → home S r < n
home_within S r n h k = ⊎_elim (λ u. rw u.1 (omega (arith, slot_low S.generation))) (λ e. rw e k) (home_cases S r)

pub home_above : (S : Super) (r : ℕ) → 0 < home S r
home_above S r = ⊎_elim (λ u. rw u.1 (slot_low S.generation).0) (λ e. rw e (omega arith)) (home_cases S r)

-- the other slot is nobody's home
pub home_staged : (S : Super) (r : ℕ) → home S r ≡ slot (S.generation + 1) → ⊥
home_staged S r q = ⊎_elim (λ u. slots_differ S.generation (sym u.1 ∙ q)) (λ e. omega (arith, sym e ∙ q, slot_low (S.generation + 1))) (home_cases S r)

-- nor is the place of the journalled stripe
pub home_placed : (S : Super) (r t : ℕ) → S.journal ≡ Some t → home S r ≡ 64 + t → ⊥
unfolding home
home_placed S r t j q =
    elim (journalled_cases S.journal r) [
      | inl e ↦ omega (arith, sym (home_journal S r e) ∙ q, slot_low S.generation)
      | inr n ↦
          let h : 64 + r ≡ 64 + t = sym (home_else S r n) ∙ q in
          let same : t ≡ r = omega arith in
          let on = journalled_some S.journal r (j ∙ ap Some same) in
          let z : true ≡ false = sym on ∙ n in
          absurd (subst T z tt)
    ]

-- ---- who holds it

pub member_holds : (S : Super) (p r : ℕ) → p < length S.members → Holds S (get_or S.members p 0) p r
member_holds S p r l = inl (l, refl)

pub three_members : (S : Super) (p : ℕ) → Proper S → p < 3 → p < length S.members
three_members S p k l = omega (arith, k.roster.least)

pub members_apart : (ds : List ℕ) → Roster ds → (p q : ℕ) → p < length ds → q < length ds → p ≢ q → get_or ds p 0 ≢ get_or ds q 0
members_apart ds k p q hp hq n e = elim (cases_lt p q) [ inl lt ↦ k.apart q p hq lt e | inr ge ↦ k.apart p q hp (omega arith) (sym e) ]

members_same : (ds : List ℕ) → Roster ds → (p q : ℕ) → p < length ds → q < length ds → get_or ds p 0 ≡ get_or ds q 0 → p ≡ q
members_same ds k p q hp hq e = elim (cases_eq p q) [ inl same ↦ same | inr n ↦ absurd (members_apart ds k p q hp hq n e) ]

fills_absent : (b : Option Rebuild) (ds : List ℕ) (d p r : ℕ) → Joins b ds → Fills b d p r → Absent d ds
fills_absent None ds d p r j f = absurd f
fills_absent (Some b) ds d p r j f = λ q l e. j.3 q l (e ∙ f.1)

fills_place : (b : Option Rebuild) (d p q r t : ℕ) → Fills b d p r → Fills b d q t → p ≡ q
fills_place None d p q r t f g = absurd f
fills_place (Some b) d p q r t f g = f.0 ∙ sym g.0

-- no disk holds two places
pub holds_once : (S : Super) → Proper S → (d p q r t : ℕ) → Holds S d p r → Holds S d q t → p ≡ q
holds_once S k d p q r t (inl a) (inl b) = members_same S.members k.roster p q a.0 b.0 (a.1 ∙ sym b.1)
holds_once S k d p q r t (inl a) (inr f) = absurd (fills_absent S.rebuild S.members d q t k.joins f p a.0 a.1)
holds_once S k d p q r t (inr f) (inl b) = absurd (fills_absent S.rebuild S.members d p r k.joins f q b.0 b.1)
holds_once S k d p q r t (inr f) (inr g) = fills_place S.rebuild d p q r t f g

-- ---- what keeps it

inside_same : (j : Option ℕ) {m n : ℕ} → n ≡ m → Inside j m → Inside j n
inside_same None e h = h
inside_same (Some r) e h = subst (λ (k : ℕ). 64 + r < k) (sym e) h

module _ {x y : Shelf} {es fs : List Event} {n : ℕ} {W : (d s : ℕ) → List ℕ → Type 0} (w : Went n W x es y fs) where
  smaller : (r : ℕ) → 64 + r < y.sectors → 64 + r < x.sectors
  smaller r l = subst (λ (m : ℕ). 64 + r < m) w.deaths.size l

  -- what is written where a stripe is may be all that is right there anyway
  pub kept_went : (S : Super) (c : Columns) → ((d p r : ℕ) (b : List ℕ) → Holds S d p r → W d (home S r) b → b ≡ c r (index p r)) → Kept x S c → Kept y S c
  kept_went S c f k =
      record {
        steady = w.deaths.steady k.steady;
        least = rw w.deaths.size k.least;
        most = rw w.deaths.size k.most;
        inside = inside_same S.journal w.deaths.size k.inside;
        proper = k.proper;
        employed = λ d p r h. w.deaths.employed d (k.employed d p r h);
        stripes = λ d p r h l. among_went w d (home S r) (λ b. b ≡ c r (index p r)) (λ b v. f d p r b h v) (k.stripes d p r h (smaller r l));
      }

  pub sound_went : (S : Super) (c : Columns) → ((d p r : ℕ) (b : List ℕ) → Holds S d p r → W d (home S r) b → b ≡ c r (index p r)) → ((d : ℕ) (b : List ℕ) → W d 0 b → super_of b ≡ S) → Sound x S c →
      Sound y S c
  sound_went S c f g k =
      record {
        kept = kept_went S c f k.kept;
        three = λ p l. among_went w (get_or S.members p 0) 0 (λ b. super_of b ≡ S) (λ b v. g (get_or S.members p 0) b v) (k.three p l);
        all = λ d l. among_went w d 0 (UpTo S) (λ b v. inr (g d b v)) (k.all d l);
      }

  pub torn_went : (S : Super) (c : Columns) (S' : Super) (c' : Columns) → ((d s : ℕ) (b : List ℕ) → W d s b → (s ≡ 0) × ((super_of b ≡ S) ⊎ (super_of b ≡ S'))) → Torn x S c S' c' → Torn y S c S' c'
  torn_went S c S' c' f k =
      record {
        old = kept_went S c (λ d p r b h v. let z = (f d (home S r) b v).0 in absurd (omega (arith, home_above S r))) k.old;
        new = kept_went S' c' (λ d p r b h v. let z = (f d (home S' r) b v).0 in absurd (omega (arith, home_above S' r))) k.new;
        later = k.later;
        three = λ p l. among_went w (get_or S.members p 0) 0 (λ b. (super_of b ≡ S) ⊎ (super_of b ≡ S')) (λ b v. (f (get_or S.members p 0) 0 b v).1) (k.three p l);
        all = λ d l. among_went w d 0 (λ b. UpTo S b ⊎ (super_of b ≡ S')) (λ b v. ⊎_elim (λ e. inl (inr e)) inr (f d 0 b v).1) (k.all d l);
      }

  pub placed_went : (S : Super) (c : Columns) → ((d p r : ℕ) (b : List ℕ) → Holds S d p r → S.journal ≡ Some r → W d (64 + r) b → ⊥) → Placed x S c → Placed y S c
  placed_went S c f k d p r h j = shows_went w d (64 + r) (c r (index p r)) (λ b v. f d p r b h j v) (k d p r h j)

-- where nothing is written all stays
pub ready_asked : {x y : Shelf} {es fs : List Event} {n : ℕ} → Went n Nowhere x es y fs → (S : Super) (c : Columns) → Ready x S c → Ready y S c
ready_asked w S c k =
    record { sound = sound_went w S c (λ d p r b h v. absurd v) (λ d b v. absurd v) k.sound; placed = placed_went w S c (λ d p r b h j v. v) k.placed }

-- ---- a cut

pub kept_back : {x z : Shelf} {es fs : List Event} → Returned x es z fs → (S : Super) (c : Columns) → Kept x S c → Kept z S c
kept_back {x} {z} b S c k =
    let least : 128 ≤ z.sectors = rw b.deaths.size k.least in
    record {
      steady = b.deaths.steady k.steady;
      least = least;
      most = rw b.deaths.size k.most;
      inside = inside_same S.journal b.deaths.size k.inside;
      proper = k.proper;
      employed = λ d p r h. b.deaths.employed d (k.employed d p r h);
      stripes = λ d p r h l.
          among_back b d (home S r) (λ e. e ≡ c r (index p r)) (k.employed d p r h).there (home_within S r z.sectors least l)
          (k.stripes d p r h (subst (λ (m : ℕ). 64 + r < m) b.deaths.size l));
    }

pub sound_back : {x z : Shelf} {es fs : List Event} → Returned x es z fs → (S : Super) (c : Columns) → Sound x S c → Sound z S c
sound_back {x} {z} b S c k =
    let some : 0 < z.sectors = rw b.deaths.size (omega (arith, k.kept.least)) in
    record {
      kept = kept_back b S c k.kept;
      three = λ p l.
          among_back b (get_or S.members p 0) 0 (λ e. super_of e ≡ S) (k.kept.employed _ p 0 (member_holds S p 0 (three_members S p k.kept.proper l))).there some (k.three p l);
      all = λ d l. among_back b d 0 (UpTo S) l some (k.all d l);
    }

pub torn_back : {x z : Shelf} {es fs : List Event} → Returned x es z fs → (S : Super) (c : Columns) (S' : Super) (c' : Columns) → Torn x S c S' c' → Torn z S c S' c'
torn_back {x} {z} b S c S' c' k =
    let some : 0 < z.sectors = rw b.deaths.size (omega (arith, k.old.least)) in
    record {
      old = kept_back b S c k.old;
      new = kept_back b S' c' k.new;
      later = k.later;
      three = λ p l.
          among_back b (get_or S.members p 0) 0 (λ e. (super_of e ≡ S) ⊎ (super_of e ≡ S')) (k.old.employed _ p 0 (member_holds S p 0 (three_members S p k.old.proper l))).there some (k.three p l);
      all = λ d l. among_back b d 0 (λ e. UpTo S e ⊎ (super_of e ≡ S')) l some (k.all d l);
    }

pub left_back : {x z : Shelf} {es fs : List Event} → Returned x es z fs → (S : Super) (c : Columns) (S' : Super) (c' : Columns) → Left x S c S' c' → Left z S c S' c'
left_back b S c S' c' (inl k) = inl (torn_back b S c S' c' k)
left_back b S c S' c' (inr (inl k)) = inr (inl (sound_back b S c k))
left_back b S c S' c' (inr (inr k)) = inr (inr (sound_back b S' c' k))

-- ---- one candidate, or two

pub sound_torn : (x : Shelf) (S : Super) (c : Columns) (S' : Super) (c' : Columns) → (S.generation < S'.generation) ⊎ (S ≡ S') → Sound x S c → Kept x S' c' → Torn x S c S' c'
sound_torn x S c S' c' l k n =
    record {
      old = k.kept;
      new = n;
      later = l;
      three = λ p h. among_weaker x (get_or S.members p 0) 0 (λ b e. inl e) (k.three p h);
      all = λ d h. among_weaker x d 0 (λ b e. inl e) (k.all d h);
    }

-- one in force is both candidates
pub sound_twice : (x : Shelf) (S : Super) (c : Columns) → Sound x S c → Torn x S c S c
sound_twice x S c k = sound_torn x S c S c (inr refl) k k.kept

up_to_later : (S S' : Super) (b : List ℕ) → (S.generation < S'.generation) ⊎ (S ≡ S') → UpTo S b ⊎ (super_of b ≡ S') → UpTo S' b
up_to_later S S' b l (inr e) = inr e
up_to_later S S' b (inl l) (inl (inl h)) = inl (omega arith)
up_to_later S S' b (inl l) (inl (inr e)) = inl (rw e l)
up_to_later S S' b (inr e) (inl h) = subst (λ (Q : Super). UpTo Q b) e h

-- the later one is in force where its three members say it
pub torn_new : (x : Shelf) (S : Super) (c : Columns) (S' : Super) (c' : Columns) → ((p : ℕ) → p < 3 → Among x (get_or S'.members p 0) 0 (λ b. super_of b ≡ S')) → Torn x S c S' c' → Sound x S' c'
torn_new x S c S' c' f k = record { kept = k.new; three = f; all = λ d h. among_weaker x d 0 (λ b e. up_to_later S S' b k.later e) (k.all d h) }

-- the earlier one is where its members say it, and nobody says the later
pub torn_old : (x : Shelf) (S : Super) (c : Columns) (S' : Super) (c' : Columns) → ((p : ℕ) → p < 3 → Among x (get_or S.members p 0) 0 (λ b. super_of b ≡ S)) →
    ((d : ℕ) → d < 16 → Among x d 0 (λ b. (super_of b).generation ≤ S.generation)) → Torn x S c S' c' → Sound x S c
torn_old x S c S' c' f g k =
    record {
      kept = k.old;
      three = f;
      all = λ d h t b m.
          ⊎_elim (λ u. u) (λ e. ⊎_elim (λ l. absurd (omega (arith, g d h t b m, ap (λ (Q : Super). Q.generation) e))) (λ q. inr (e ∙ sym q)) k.later) (k.all d h t b m);
    }

-- ---- before the next

-- under a superblock that is in force, with its journal in place, every stripe is shown in its place
pub all_shown : (x : Shelf) (S : Super) (c : Columns) → Kept x S c → Placed x S c → (d p r : ℕ) → Holds S d p r → 64 + r < x.sectors → Shows x d (64 + r) (c r (index p r))
all_shown x S c k q d p r h l =
    ⊎_elim (λ u. q d p r h u.0) (λ e. shows_among x d (64 + r) (c r (index p r)) (subst (λ (s : ℕ). Among x d s (λ b. b ≡ c r (index p r))) e (k.stripes d p r h l))) (home_cases S r)

-- a sync after that
pub in_place_synced : {x y : Shelf} {es fs : List Event} → Went 1 Nowhere x es y fs → Settled y → (S : Super) (c : Columns) → Kept x S c → Placed x S c → InPlace y S c
in_place_synced {x} w z S c k q d p r h l = among_synced w z d (64 + r) (c r (index p r)) (all_shown x S c k q d p r h (subst (λ (m : ℕ). 64 + r < m) w.deaths.size l))

-- It is kept where the stripe is in the other slot of all that hold it.
pub kept_journalling : (x : Shelf) (S : Super) (c c' : Columns) (r : ℕ) → Kept x S c → InPlace x S c → 64 + r < x.sectors → ((t i : ℕ) → (t ≡ r → ⊥) → c' t i ≡ c t i) →
    ((d p : ℕ) → Holds S d p r → Among x d (slot (S.generation + 1)) (λ b. b ≡ c' r (index p r))) → Kept x (journalling S r) c'
kept_journalling x S c c' r k q l f g =
    record {
      steady = k.steady;
      least = k.least;
      most = k.most;
      inside = l;
      proper = record { roster = k.proper.roster; joins = k.proper.joins; numbered = omega (arith, k.most) };
      employed = k.employed;
      stripes = λ d p t h m.
          elim (cases_eq t r) [
            | inl u ↦ rw u (rw (home_journal (journalling S r) r refl) (g d p (subst (λ (z : ℕ). Holds S d p z) u h)))
            | inr u ↦ rw (home_else (journalling S r) t (ne_eqb r t (λ z. u (sym z))), f t (index p t) u) (q d p t h m)
          ];
    }

-- A superblock without a journal is kept where all that anyone holds is in its place.
pub kept_plain : (x : Shelf) (S : Super) (c : Columns) (S' : Super) → Kept x S c → S'.journal ≡ None → Proper S' → ((d p r : ℕ) → Holds S' d p r → Employed x d) → InPlace x S' c → Kept x S' c
kept_plain x S c S' k j o m q =
    record {
      steady = k.steady;
      least = k.least;
      most = k.most;
      inside = subst (λ (i : Option ℕ). Inside i x.sectors) (sym j) tt;
      proper = o;
      employed = m;
      stripes = λ d p r h l. rw (home_else S' r (ap (λ (i : Option ℕ). is_journalled i r) j)) (q d p r h l);
    }
