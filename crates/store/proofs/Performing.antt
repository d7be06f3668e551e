-- What a turn does for a tag, against what is seen: a read, a write, a flush, a size, and the power going meanwhile.
-- Assumes nothing.
use Rattle.std.proofs.Common.{◌≡◌, ℕ, ◌+◌, ◌-◌, ◌*◌, ◌/◌, ◌<◌, ◌≤◌, true, false, T, eqb, List, [], ◌∷◌, length, get_or, take, drop, Some, Option, sym, refl, ap, ◌∙◌, subst, inl, inr, arith, length-drop, length-take-le}
use lib.Dec.{eqb_refl}
use borrow.Rule.Slice.PartMut.{put_mid}
use Rattle.std.specs.Simd.{first_chunks}
use Rattle.std.proofs.lemmas.List.{take_all}
use Rattle.std.proofs.lemmas.Slice.{between_is, take-put_mid_below}
use Rattle.std.proofs.lemmas.Bool.{cases_eq, eq-eqb, ne_eqb, cond-true, cond-false}
use Rattle.field.specs.Stripe.{column}
use Rattle.layout.specs.Super.{Super, says}
use Rattle.layout.specs.Places.{stripe_of}
use Rattle.layout.specs.declared.superblock.Superblock.{Superblock}
use Rattle.store.specs.Event.{Event}
use Rattle.store.specs.Shelf.{Shelf}
use Rattle.store.specs.Store.{Seen, Way, Free, Under, Over, Run, reads, writes, flushes, sizes, set_way, new_content, lasting, size_of, starts_with, core}
use Rattle.store.specs.Promise.{can}
use Rattle.store.specs.Durable.{Deaths, Went, Nowhere}
use Rattle.store.specs.Keeping.{Columns, Sound, Ready}
use Rattle.store.specs.Writes.{MarksTrue, journalling}
use Rattle.store.specs.Sectors.{sector_of, Rewrites, Fetched, Saved, Unsaved}
use Rattle.store.specs.Tags.{at, Entry, Reaches}
use Rattle.store.specs.Between.{Explains, Standing, Lost, Serving, Performed}
use Rattle.store.specs.declared.Ask.{Ask}
use Rattle.store.specs.declared.Reply.{Reply}
use Rattle.store.specs.declared.tags.Tag.{Tag}
use Rattle.store.specs.declared.Ask.TheVariants.{Read, Write, Flush, Size}
use Rattle.store.specs.declared.Reply.TheVariants.{Done, Bytes, Many}
use Rattle.store.specs.declared.Store.{Store}
use Rattle.store.proofs.Standing.{sound_twice, ready_asked}
use Rattle.store.proofs.Histories.{mourned, explains_like, stands_like, explains_deaths, explains_later}
use Rattle.store.proofs.Opening.{left_lost}
use Rattle.store.proofs.Turning.{both, young_way}

starts_self : (w : List ℕ) → T (starts_with w w)
unfolding starts_with
starts_self [] = tt
starts_self (x ∷ xs) = both (eqb x x) (starts_with xs xs) (eqb_refl x) (starts_self xs)

-- what is under way under a tag whose entry is taken
pub record Asks (a : Ask) (w : List ℕ) (n : ℕ) (v : Way) : Type 0 where
  pub m : ℕ → ℕ
  pub g : ℕ
  pub is : v ≡ Under a w m g
  pub built : T (core a)
  pub fits : Reaches a n

asks_of : (o : Option Ask) (a : Ask) (w : List ℕ) (n : ℕ) (v : Way) → o ≡ Some a → Entry o w n v → Asks a w n v
asks_of o a w n Free p e = cc
asks_of o a w n (Under b u m g) p e =
    let same : b ≡ a = cc in
    subst (λ (c : Ask). Asks c w n (Under b u m g)) same (record { m = m; g = g; is = ap (λ (z : List ℕ). Under b z m g) e.1; built = e.2; fits = e.3 })
asks_of o a w n (Over b r u g) p e = absurd e

-- the store with another superblock in memory
abbrev pub under : Store → Superblock → Store
under s b = record { sectors = s.sectors; superblock = b; tags = s.tags }

module _ {s : Store} {room : List ℕ} {x : Shelf} {es : List Event} (v : Serving s room x es) where
  -- how many sectors there are
  pub size_is : size_of x.sectors v.h ≡ (length s.superblock.members.list - 2) * (s.sectors - 64)
  size_is = ap (λ (ds : List ℕ). (length ds - 2) * (x.sectors - 64)) v.stands.explains.matches.disks ∙ ap (λ (n : ℕ). (length s.superblock.members.list - 2) * (n - 64)) (sym v.stands.same)

  pub asks_for : {a b : Ask} (t : Tag) → at s.tags.asked t.number ≡ Some a → a ≡ b → Asks b (column t.number room) (size_of x.sectors v.h) (v.h.way t.number)
  asks_for t e i = asks_of _ _ _ _ (v.h.way t.number) (e ∙ ap Some i) (v.table.entries t.number t.eight)

  -- a sector that is asked for is there
  pub within : {a : Ask} {w : List ℕ} {u : Way} → Asks a w (size_of x.sectors v.h) u → Reaches a ((length s.superblock.members.list - 2) * (s.sectors - 64))
  within {a} k = subst (λ (n : ℕ). Reaches a n) size_is k.fits

  module _ {t : ℕ} (l : t < 8) {a : Ask} {w : List ℕ} (k : Asks a w (size_of x.sectors v.h) (v.h.way t)) where
    -- it is done with this reply, and is to be told with these words
    abbrev over : Reply → List ℕ → Seen → Seen
    over r back h = set_way t (Over a r back k.g) h

    performed : (r : Reply) (back words : List ℕ) {s' : Store} {y : Shelf} {fs : List Event} {c : Columns} (h : Seen) → h.way ≡ v.h.way → h.disks ≡ v.h.disks → Standing s' y 2 fs c (over r back h) → T (starts_with back words) → Performed a r t words s' v.h y fs
    performed r back words {c = c} h ways disks stands starts =
        record {
          c = c;
          h' = over r back h;
          stands = stands;
          back = back;
          age = k.g;
          young = young_way v.table t l k.is;
          built = k.built;
          way = cond-true (eqb t t) _ _ (eq-eqb t t refl);
          starts = starts;
          others = λ u ne. cond-false (eqb u t) _ _ (ne_eqb u t ne) ∙ ap (λ (f : ℕ → Way). f u) ways;
          disks = disks;
        }

-- ---- the same, with the disks that died since
module _ {s : Store} {room : List ℕ} {x y : Shelf} {es fs : List Event} (v : Serving s room x es) (died : Deaths x es y fs) where
  abbrev S : Super
  S = says s.superblock

  abbrev since : Seen
  since = mourned died.more v.h

  explained : Explains y.sectors 0 fs S v.c since
  explained = explains_deaths died v.stands.explains

  stands_under : {N : Super} {c : Columns} {h : Seen} (b : Superblock) → says b ≡ N → y.on ≡ true → Ready y N c → MarksTrue y b.members → Explains y.sectors 2 fs N c h → Standing (under s b) y 2 fs c h
  stands_under b e lit ready marks explains = record { lit = lit; ready = rw e ready; marks = marks; same = v.stands.same ∙ sym died.size; explains = rw e explains }

  lost_sound : y.on ≡ false → Sound y S v.c → Lost y fs
  lost_sound off k =
      record { off = off; S = S; c = v.c; h = since; S' = S; c' = v.c; h' = since; torn = sound_twice y S v.c k; one = explains_later explained; two = explains_later explained }

  module _ {t : ℕ} (l : t < 8) {i : ℕ} {w : List ℕ} (k : Asks (Write i) w (size_of x.sectors v.h) (v.h.way t)) where
    abbrev wrote : Seen
    wrote = over v l k Done [] (new_content i w since)

    wrote_content : (c' : Columns) {n : ℕ} → Rewrites y.sectors i w n v.c c' → (j : ℕ) → wrote.content j (wrote.count j) ≡ sector_of y.sectors j c'
    wrote_content c' o j =
        elim (cases_eq j i) [
          | inl p ↦
              let e = eq-eqb j i p in
              let f = eq-eqb (v.h.count i + 1) (v.h.count i + 1) refl in
              let this : sector_of y.sectors j c' ≡ w = ap (λ (z : ℕ). sector_of y.sectors z c') p ∙ o.this in
              simp (e, f) (sym this)
          | inr p ↦
              let e = ne_eqb j i p in
              let this : sector_of y.sectors j c' ≡ v.h.content j (v.h.count j) = o.others j p ∙ sym (explained.matches.content j) in
              simp e (sym this)
        ]

    wrote_explains : (r : ℕ) (c' : Columns) → Rewrites y.sectors i w (length S.members) v.c c' → Explains y.sectors 2 fs (journalling S r) c' wrote
    wrote_explains r c' o =
        record {
          run = writes t explained.run k.is;
          matches = record { disks = explained.matches.disks; content = wrote_content c' o };
          coded = o.code;
          idle = explained.idle;
          early = omega (arith, explained.early);
        }

    size : s.sectors ≡ y.sectors
    size = v.stands.same ∙ sym died.size

    pub performed_write : (b : Superblock) (words : List ℕ) → says b ≡ journalling S (stripe_of (s.sectors - 64) i) → MarksTrue y b.members → Saved s.sectors i w S x y → Performed (Write i) Done t words (under s b) v.h y fs
    unfolding starts_with
    performed_write b words same marks saved =
        let done : Saved y.sectors i w S x y = subst (λ (n : ℕ). Saved n i w S x y) size saved in
        let put = done.ready v.c v.stands.ready v.stands.explains.coded in
        performed v l k Done [] words (new_content i w since) refl refl (stands_under b (rw (← size) same) done.lit put.1.0 marks (wrote_explains _ put.0 put.1.1)) tt

    pub lost_write : Unsaved s.sectors i w S x y → Lost y fs
    lost_write unsaved =
        let gone : Unsaved y.sectors i w S x y = subst (λ (n : ℕ). Unsaved n i w S x y) size unsaved in
        elim (gone.left v.c v.stands.ready v.stands.explains.coded) [
          | inl k ↦ lost_sound gone.off k
          | inr k ↦ left_lost gone.off (explains_later explained) (wrote_explains _ k.0 k.1.1) k.1.0
        ]

-- ---- a read writes nothing
module _ {s : Store} {room : List ℕ} {x y : Shelf} {es fs : List Event} (v : Serving s room x es) {n : ℕ} (went : Went n Nowhere x es y fs) where
  ready : Ready y (says s.superblock) v.c
  ready = ready_asked went (says s.superblock) v.c v.stands.ready

  pub performed_read : {t : ℕ} (l : t < 8) {i : ℕ} {w : List ℕ} (k : Asks (Read i) w (size_of x.sectors v.h) (v.h.way t)) (b : Superblock) (into : List ℕ) → says b ≡ says s.superblock → MarksTrue y b.members →
      Fetched s.sectors i into (says s.superblock) x y → Performed (Read i) Bytes t into (under s b) v.h y fs
  performed_read {t} l {i} k b into same marks got =
      let seen = v.h.content i (v.h.count i) in
      let words : into ≡ sector_of x.sectors i v.c = rw (← v.stands.same) (got.words_are v.c v.stands.ready v.stands.explains.coded) in
      let ex = explained v went.deaths in
      performed v l k Bytes seen into (since v went.deaths) refl refl (stands_under v went.deaths b same (got.lit v.stands.lit) ready marks (explains_like ex (omega arith) (reads t ex.run k.is)))
      (subst (λ (q : List ℕ). T (starts_with seen q)) (v.stands.explains.matches.content i ∙ sym words) (starts_self seen))

  pub lost_read : y.on ≡ false → Lost y fs
  lost_read off = lost_sound v went.deaths off ready.sound

-- ---- what asks no disk
module _ {s : Store} {room : List ℕ} {x : Shelf} {es : List Event} (v : Serving s room x es) {t : ℕ} (l : t < 8) (words : List ℕ) {w : List ℕ} where
  pub performed_flush : Asks Flush w (size_of x.sectors v.h) (v.h.way t) → Performed Flush Done t words s v.h x es
  unfolding starts_with
  performed_flush k = performed v l k Done [] words (lasting k.m v.h) refl refl (stands_like v.stands refl refl (omega arith) (flushes t v.stands.explains.run k.is)) tt

  pub performed_size : (k : ℕ) → k ≡ (length s.superblock.members.list - 2) * (s.sectors - 64) → Asks Size w (size_of x.sectors v.h) (v.h.way t) → Performed Size (Many k) t words s v.h x es
  unfolding starts_with
  performed_size k e q =
      let run = subst (λ (z : ℕ). Run can x.sectors es (set_way t (Over Size (Many z) [] q.g) v.h)) (size_is v ∙ sym e) (sizes t v.stands.explains.run q.is) in
      performed v l q (Many k) [] words v.h refl refl (stands_like v.stands refl refl (omega arith) run) tt

-- the words of the tags lie below 512, and what is behind them does not touch them
pub tags_kept : (m : ℕ) (room ys : List ℕ) → length room ≡ 65536 → (t : ℕ) → t < 8 → column t (put_mid 512 m room ys) ≡ column t room
tags_kept m room ys h t l =
    let j : (64 * t + 64) - 64 * t ≡ 64 = omega arith in
    let below = take-put_mid_below 512 m room ys (64 * t + 64) (omega arith) (omega arith) in
    subst (λ (z : ℕ). take z (drop (64 * t) (put_mid 512 m room ys)) ≡ take z (drop (64 * t) room)) j
    (between_is (put_mid 512 m room ys) (64 * t) (64 * t + 64) ∙ (ap (drop (64 * t)) below ∙ sym (between_is room (64 * t) (64 * t + 64))))

-- The first chunk of the words of a sector is all of them.
pub first_chunk : (words : List ℕ) (chunks : List (List ℕ)) (n : ℕ) → length words ≡ 64 → n ≡ 1 → chunks ≡ first_chunks 64 n words → get_or chunks 0 [] ≡ words
first_chunk words chunks n l e is = ap (λ (x : List (List ℕ)). get_or x 0 []) (is ∙ ap (λ (m : ℕ). first_chunks 64 m words) e) ∙ take_all 64 words (omega arith)

-- the part of the room behind them that a stripe of k columns has
stripe_room : (k m : ℕ) (room : List ℕ) → k ≡ m → m ≤ 12 → length room ≡ 65536 → length (take (512 + 64 * k - 512) (drop 512 room)) ≡ 64 * m
stripe_room k m room e l r =
    let e' : 512 + 64 * k - 512 ≡ 64 * m = omega arith in
    ap (λ (n : ℕ). length (take n (drop 512 room))) e' ∙ length-take-le (64 * m) (drop 512 room) (let d : length (drop 512 room) ≡ 65024 = length-drop 512 room ∙ (omega arith) in omega arith)

-- and the columns that it is
pub chunk_room : (k m : ℕ) (room : List ℕ) (columns : List (List ℕ)) → k ≡ m → m ≤ 12 → length room ≡ 65536
    → length columns ≡ length (take (512 + 64 * k - 512) (drop 512 room)) / 64 → length columns ≡ m
chunk_room k m room columns e l r c = let n = stripe_room k m room e l r in omega (arith, n)
