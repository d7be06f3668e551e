-- The list of what was written since the last sync, and what is laid down beside it.
use Rattle.std.proofs.Common.{◌≡◌, ℕ, ◌+◌, ◌^◌, ◌<◌, ◌≤◌, Bool, true, false, cond, ◌&&◌, eqb, ltb, leb, ◌⊎◌, List, [], ◌∷◌, length, get_or, set, sym, refl, ap, ◌∙◌, subst, inl, inr, arith, length-set, get_or-set_other, get_or-set_same}
use mathlib.Core.List.{Memᴰ}
use Rattle.std.proofs.lemmas.List.{get_or_past}
use Rattle.std.proofs.lemmas.Bool.{and_from, and_left, and_right, and_parts, lt-ltb, le-ltb, eq-eqb, ne_eqb, eqb-true, cases_eq, cases_lt, cases_Bool, cond-true, cond-false}
use Rattle.memory.specs.Held.{cell_at, waits, may_of, empty, Laid}
use Rattle.memory.specs.Draws.{drawn, left_of, listing, Chosen}
use Rattle.memory.specs.declared.platter.Platter.{Platter}
use Rattle.memory.specs.declared.Cell.{Cell}

-- the same platter with these cells, of which so many are listed
abbrev pub with_cells : Platter → List Cell → ℕ → Platter
with_cells u cs n = record { cells = record u.cells { now = cs }; written = n }

-- nothing is listed
pub nothing_waits : (u : Platter) (k : ℕ) → u.written ≡ 0 → waits u k ≡ false
nothing_waits u k e = and_left _ _ (and_left _ _ (le-ltb (cell_at u k).slot u.written (omega arith)))

pub may_shown : (u : Platter) (k : ℕ) → waits u k ≡ false → may_of u k ≡ (cell_at u k).shown ∷ []
may_shown u k h = ap (λ b. (cell_at u k).shown ∷ cond b ((cell_at u k).lasting ∷ []) []) h

-- a part of the cells that is kept where one of them is replaced
keep : {A : Type 0} (F : Cell → A) (cs : List Cell) (k : ℕ) (v : Cell) → k < length cs → F v ≡ F (get_or cs k empty) → (j : ℕ) → F (get_or (set cs k v) j empty) ≡ F (get_or cs j empty)
keep F cs k v h e j = go (cases_eq j k)
  where
    go : (j ≡ k) ⊎ (j ≡ k → ⊥) → F (get_or (set cs k v) j empty) ≡ F (get_or cs j empty)
    go (inl p) = ap (λ i. F (get_or (set cs k v) i empty)) p ∙ (ap F (get_or-set_same cs k v empty h) ∙ (e ∙ ap (λ i. F (get_or cs i empty)) (sym p)))
    go (inr p) = ap F (get_or-set_other cs k j v empty p)

waits_as : (u q : Platter) (j : ℕ) → q.written ≡ u.written → length q.cells.now ≡ length u.cells.now → (cell_at q j).slot ≡ (cell_at u j).slot → ((i : ℕ) → (cell_at q i).listed ≡ (cell_at u i).listed) → waits q j ≡ waits u j
waits_as u q j w l e h =
    ap (λ i. (ltb i q.written && ltb i (length q.cells.now)) && eqb (cell_at q i).listed j) e
    ∙ (ap (λ n. (ltb (cell_at u j).slot n && ltb (cell_at u j).slot (length q.cells.now)) && eqb (cell_at q (cell_at u j).slot).listed j) w
    ∙ (ap (λ m. (ltb (cell_at u j).slot u.written && ltb (cell_at u j).slot m) && eqb (cell_at q (cell_at u j).slot).listed j) l
    ∙ ap (λ x. (ltb (cell_at u j).slot u.written && ltb (cell_at u j).slot (length u.cells.now)) && eqb x j) (h (cell_at u j).slot)))

may_two : (b : Bool) (s l x y c : List ℕ) → x ≡ s → y ≡ l → Memᴰ c (x ∷ cond b (y ∷ []) []) → Memᴰ c (s ∷ (l ∷ []))
may_two true s l x y c p q m = subst (λ v. Memᴰ c (v ∷ (l ∷ []))) p (subst (λ v. Memᴰ c (x ∷ (v ∷ []))) q m)
may_two false s l x y c p q (Memᴰ.head r) = Memᴰ.head (r ∙ p)
may_two false s l x y c p q (Memᴰ.tail r) = Memᴰ.tail (Memᴰ.tail r)

may_same : (u q : Platter) (j : ℕ) → (cell_at q j).shown ≡ (cell_at u j).shown → (cell_at q j).lasting ≡ (cell_at u j).lasting → waits q j ≡ waits u j → may_of q j ≡ may_of u j
may_same u q j e f w =
    ap (λ v. v ∷ cond (waits q j) ((cell_at q j).lasting ∷ []) []) e
    ∙ (ap (λ v. (cell_at u j).shown ∷ cond (waits q j) (v ∷ []) []) f ∙ ap (λ b. (cell_at u j).shown ∷ cond b ((cell_at u j).lasting ∷ []) []) w)

module _ (u : Platter) (k : ℕ) (s l : List ℕ) (h : k < length u.cells.now) where
  -- it was listed before, or there is no room in the list
  pub laid_again : (waits u k ≡ true) ⊎ (length u.cells.now ≤ u.written) → Laid u k s l (with_cells u (set u.cells.now k (record { shown = s; lasting = l; slot = (cell_at u k).slot; listed = (cell_at u k).listed })) u.written)
  laid_again c =
      record {
        size = length-set u.cells.now k v;
        here = ap (λ (x : Cell). x.shown) here;
        kept = λ g. (ap (λ (x : Cell). x.lasting) here, same k ∙ waiting c g);
        may = λ b. may_two (waits (with_cells u ds u.written) k) s l _ _ b (ap (λ (x : Cell). x.shown) here) (ap (λ (x : Cell). x.lasting) here);
        others = λ j ne. let e = get_or-set_other u.cells.now k j v empty ne in
            (ap (λ (x : Cell). x.shown) e, may_same u (with_cells u ds u.written) j (ap (λ (x : Cell). x.shown) e) (ap (λ (x : Cell). x.lasting) e) (same j));
      }
    where
      v : Cell
      v = record { shown = s; lasting = l; slot = (cell_at u k).slot; listed = (cell_at u k).listed }

      ds : List Cell
      ds = set u.cells.now k v

      here : get_or ds k empty ≡ v
      here = get_or-set_same u.cells.now k v empty h

      same : (j : ℕ) → waits (with_cells u ds u.written) j ≡ waits u j
      same j = waits_as u (with_cells u ds u.written) j refl (length-set u.cells.now k v) (keep (λ x. x.slot) u.cells.now k v h refl j) (keep (λ x. x.listed) u.cells.now k v h refl)

      waiting : (waits u k ≡ true) ⊎ (length u.cells.now ≤ u.written) → u.written < length u.cells.now → waits u k ≡ true
      waiting (inl w) g = w
      waiting (inr w) g = absurd (omega arith)

  -- it is listed now
  pub laid_first : u.written < length u.cells.now → (ds : List Cell) → ds ≡ set u.cells.now k (record { shown = s; lasting = l; slot = u.written; listed = (cell_at u k).listed }) →
      Laid u k s l (with_cells u (set ds u.written (record { shown = (get_or ds u.written empty).shown; lasting = (get_or ds u.written empty).lasting; slot = (get_or ds u.written empty).slot; listed = k })) (u.written + 1))
  laid_first g ds is =
      record {
        size = size;
        here = shown k ∙ ap (λ (x : Cell). x.shown) here;
        kept = λ _. (lasting k ∙ ap (λ (x : Cell). x.lasting) here, waiting);
        may = λ b. may_two (waits (with_cells u es (u.written + 1)) k) s l _ _ b (shown k ∙ ap (λ (x : Cell). x.shown) here) (lasting k ∙ ap (λ (x : Cell). x.lasting) here);
        others = λ j ne.
            let e = other j ne in
            (shown j ∙ ap (λ (x : Cell). x.shown) e, may_same u (with_cells u es (u.written + 1)) j (shown j ∙ ap (λ (x : Cell). x.shown) e) (lasting j ∙ ap (λ (x : Cell). x.lasting) e) (same j ne));
      }
    where
      v : Cell
      v = record { shown = s; lasting = l; slot = u.written; listed = (cell_at u k).listed }

      w : Cell
      w = record { shown = (get_or ds u.written empty).shown; lasting = (get_or ds u.written empty).lasting; slot = (get_or ds u.written empty).slot; listed = k }

      es : List Cell
      es = set ds u.written w

      long : length ds ≡ length u.cells.now
      long = ap length is ∙ length-set u.cells.now k v

      g' : u.written < length ds
      g' = omega (arith, long)

      size : length es ≡ length u.cells.now
      size = length-set ds u.written w ∙ long

      here : get_or ds k empty ≡ v
      here = ap (λ l. get_or l k empty) is ∙ get_or-set_same u.cells.now k v empty h

      other : (j : ℕ) → (j ≡ k → ⊥) → get_or ds j empty ≡ cell_at u j
      other j ne = ap (λ l. get_or l j empty) is ∙ get_or-set_other u.cells.now k j v empty ne

      shown : (j : ℕ) → (get_or es j empty).shown ≡ (get_or ds j empty).shown
      shown = keep (λ x. x.shown) ds u.written w g' refl

      lasting : (j : ℕ) → (get_or es j empty).lasting ≡ (get_or ds j empty).lasting
      lasting = keep (λ x. x.lasting) ds u.written w g' refl

      slot : (j : ℕ) → (get_or es j empty).slot ≡ (get_or ds j empty).slot
      slot = keep (λ x. x.slot) ds u.written w g' refl

      listed : (i : ℕ) → (i ≡ u.written → ⊥) → (get_or es i empty).listed ≡ (cell_at u i).listed
      listed i ne = ap (λ (x : Cell). x.listed) (get_or-set_other ds u.written i w empty ne) ∙ (ap (λ l. (get_or l i empty).listed) is ∙ keep (λ x. x.listed) u.cells.now k v h refl i)

      last : (get_or es u.written empty).listed ≡ k
      last = ap (λ (x : Cell). x.listed) (get_or-set_same ds u.written w empty g')

      waiting : waits (with_cells u es (u.written + 1)) k ≡ true
      waiting =
          let e : (get_or es k empty).slot ≡ u.written = slot k ∙ ap (λ (x : Cell). x.slot) here in
          ap (λ i. (ltb i (u.written + 1) && ltb i (length es)) && eqb (get_or es i empty).listed k) e
          ∙ and_from _ _ (and_from _ _ (lt-ltb u.written (u.written + 1) (omega arith)) (lt-ltb u.written (length es) (omega (arith, size)))) (eq-eqb _ k last)

      same : (j : ℕ) → (j ≡ k → ⊥) → waits (with_cells u es (u.written + 1)) j ≡ waits u j
      same j ne =
          let i = (cell_at u j).slot in
          let e : (get_or es j empty).slot ≡ i = slot j ∙ ap (λ (x : Cell). x.slot) (other j ne) in
          ap (λ i. (ltb i (u.written + 1) && ltb i (length es)) && eqb (get_or es i empty).listed j) e
          ∙ (ap (λ m. (ltb i (u.written + 1) && ltb i m) && eqb (get_or es i empty).listed j) size ∙ go i (cases_eq i u.written))
        where
          go : (i : ℕ) → (i ≡ u.written) ⊎ (i ≡ u.written → ⊥) → ((ltb i (u.written + 1) && ltb i (length u.cells.now)) && eqb (get_or es i empty).listed j) ≡ ((ltb i u.written && ltb i (length u.cells.now)) && eqb (cell_at u i).listed j)
          go i (inl p) =
              and_right _ _ (ap (λ m. eqb (get_or es m empty).listed j) p ∙ (ap (λ m. eqb m j) last ∙ ne_eqb k j (λ q. ne (sym q))))
              ∙ sym (and_left _ _ (and_left _ _ (le-ltb i u.written (omega arith))))
          go i (inr p) =
              ap (λ x. (ltb i (u.written + 1) && ltb i (length u.cells.now)) && eqb x j) (listed i p)
              ∙ ap (λ b. (b && ltb i (length u.cells.now)) && eqb (cell_at u i).listed j) (below (cases_lt i u.written))
            where
              below : (i < u.written) ⊎ (u.written ≤ i) → ltb i (u.written + 1) ≡ ltb i u.written
              below (inl q) = lt-ltb i (u.written + 1) (omega arith) ∙ sym (lt-ltb i u.written q)
              below (inr q) = le-ltb i (u.written + 1) (omega (arith, p)) ∙ sym (le-ltb i u.written q)

-- What a cut leaves, one more of the list chosen: only the cell that is listed there can be another.
left_next : (u : Platter) (i seed j : ℕ) → ((cell_at u j).slot ≡ i → (cell_at u i).listed ≡ j → leb (2 ^ 63) (drawn seed j) ≡ true → (cell_at u j).lasting ≡ (cell_at u j).shown) → left_of (listing (i + 1) u) seed j ≡ left_of (listing i u) seed j
left_next u i seed j h = go (cases_eq (cell_at u j).slot i)
  where
    a : Cell
    a = cell_at u j

    go : (a.slot ≡ i) ⊎ (a.slot ≡ i → ⊥) → left_of (listing (i + 1) u) seed j ≡ left_of (listing i u) seed j
    go (inr p) = ap (λ b. cond (((b && ltb a.slot (length u.cells.now)) && eqb (cell_at u a.slot).listed j) && leb (2 ^ 63) (drawn seed j)) a.lasting a.shown) (below (cases_lt a.slot i))
      where
        below : (a.slot < i) ⊎ (i ≤ a.slot) → ltb a.slot (i + 1) ≡ ltb a.slot i
        below (inl q) = lt-ltb a.slot (i + 1) (omega arith) ∙ sym (lt-ltb a.slot i q)
        below (inr q) = le-ltb a.slot (i + 1) (omega (arith, p)) ∙ sym (le-ltb a.slot i q)
    go (inl p) =
        more (cases_Bool (waits (listing (i + 1) u) j && leb (2 ^ 63) (drawn seed j)))
        ∙ sym (cond-false (waits (listing i u) j && leb (2 ^ 63) (drawn seed j)) a.lasting a.shown (and_left _ _ (and_left _ _ (and_left _ _ (le-ltb a.slot i (omega arith))))))
      where
        more : ((waits (listing (i + 1) u) j && leb (2 ^ 63) (drawn seed j)) ≡ true) ⊎ ((waits (listing (i + 1) u) j && leb (2 ^ 63) (drawn seed j)) ≡ false) → left_of (listing (i + 1) u) seed j ≡ a.shown
        more (inl e) =
            let b = and_parts (waits (listing (i + 1) u) j) (leb (2 ^ 63) (drawn seed j)) e in
            let q = eqb-true _ j (and_parts (ltb a.slot (i + 1) && ltb a.slot (length u.cells.now)) (eqb (cell_at u a.slot).listed j) b.0).1 in
            cond-true (waits (listing (i + 1) u) j && leb (2 ^ 63) (drawn seed j)) a.lasting a.shown e ∙ h p (ap (λ m. (cell_at u m).listed) (sym p) ∙ q) b.1
        more (inr e) = cond-false (waits (listing (i + 1) u) j && leb (2 ^ 63) (drawn seed j)) a.lasting a.shown e

-- nothing is changed at this step
pub chosen_same : (u w : Platter) (i seed : ℕ) → Chosen u i seed w →
    ((j : ℕ) → j ≡ (cell_at w i).listed → (cell_at w j).slot ≡ i → leb (2 ^ 63) (drawn seed j) ≡ true → length w.cells.now ≤ j) → Chosen u (i + 1) seed w
chosen_same u w i seed c h = (
  c.0,
  λ j. let k = c.1 j in
      record { slot = k.slot; listed = k.listed; lasting = k.lasting; shown = k.shown ∙ sym (left_next u i seed j (λ p q r. past j (h j (sym q ∙ sym (c.1 i).listed) (k.slot ∙ p) r))) },
)
  where
    past : (j : ℕ) → length w.cells.now ≤ j → (cell_at u j).lasting ≡ (cell_at u j).shown
    past j l = let e = get_or_past u.cells.now j empty (omega (arith, c.0)) in ap (λ (x : Cell). x.lasting) e ∙ sym (ap (λ (x : Cell). x.shown) e)

-- the cell that is listed here becomes what it was at the last sync
pub chosen_old : (u w : Platter) (i seed k : ℕ) → i < length w.cells.now → k < length w.cells.now → (cell_at w i).listed ≡ k → (cell_at w k).slot ≡ i → leb (2 ^ 63) (drawn seed k) ≡ true → Chosen u i seed w →
    Chosen u (i + 1) seed (with_cells w (set w.cells.now k (record { shown = (cell_at w k).lasting; lasting = (cell_at w k).lasting; slot = (cell_at w k).slot; listed = (cell_at w k).listed })) w.written)
chosen_old u w i seed k hi hk p q r c = (
  length-set w.cells.now k v ∙ c.0,
  λ j. record {
    slot = keep (λ x. x.slot) w.cells.now k v hk refl j ∙ (c.1 j).slot;
    listed = keep (λ x. x.listed) w.cells.now k v hk refl j ∙ (c.1 j).listed;
    lasting = keep (λ x. x.lasting) w.cells.now k v hk refl j ∙ (c.1 j).lasting;
    shown = go j (cases_eq j k);
  },
)
  where
    v : Cell
    v = record { shown = (cell_at w k).lasting; lasting = (cell_at w k).lasting; slot = (cell_at w k).slot; listed = (cell_at w k).listed }

    at : (waits (listing (i + 1) u) k && leb (2 ^ 63) (drawn seed k)) ≡ true
    at =
        let e : (cell_at u k).slot ≡ i = sym (c.1 k).slot ∙ q in
        and_from _ _
        (ap (λ m. (ltb m (i + 1) && ltb m (length u.cells.now)) && eqb (cell_at u m).listed k) e
        ∙ and_from _ _ (and_from _ _ (lt-ltb i (i + 1) (omega arith)) (lt-ltb i (length u.cells.now) (omega (arith, c.0)))) (eq-eqb _ k (sym (c.1 i).listed ∙ p)))
        r

    go : (j : ℕ) → (j ≡ k) ⊎ (j ≡ k → ⊥) → (get_or (set w.cells.now k v) j empty).shown ≡ left_of (listing (i + 1) u) seed j
    go j (inl e) =
        ap (λ m. (get_or (set w.cells.now k v) m empty).shown) e
        ∙ (ap (λ (x : Cell). x.shown) (get_or-set_same w.cells.now k v empty hk)
        ∙ ((c.1 k).lasting ∙ (sym (cond-true _ (cell_at u k).lasting (cell_at u k).shown at) ∙ ap (left_of (listing (i + 1) u) seed) (sym e))))
    go j (inr e) =
        ap (λ (x : Cell). x.shown) (get_or-set_other w.cells.now k j v empty e)
        ∙ ((c.1 j).shown ∙ sym (left_next u i seed j (λ _ l _. absurd (e (sym l ∙ (sym (c.1 i).listed ∙ p))))))
