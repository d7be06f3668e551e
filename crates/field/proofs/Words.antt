-- A column in a slice of words, after a write, and the columns that such a slice is.
-- Assumes nothing.
use Rattle.std.proofs.Common.{◌≡◌, ℕ, zero, suc, ◌+◌, ◌-◌, ◌*◌, ◌/◌, ◌<◌, ◌≤◌, ◌≢◌, List, ◌++◌, length, get_or, set, take, drop, drop-drop, length-append, length-drop, length-take-le, sym, refl, ap, ◌∙◌, subst, inl, inr, arith}
use borrow.Rule.Slice.PartMut.{put_mid}
use Rattle.std.specs.Simd.{first_chunks}
use Rattle.std.proofs.lemmas.Bool.{cases_lt, cases_eq}
use Rattle.std.proofs.lemmas.List.{drop_all, ext_get_or, get_or-set_same, get_or-set_other, length-set}
use Rattle.std.proofs.lemmas.Slice.{between_is, take-put_mid_below, between-put_mid, drop-put_mid}
use Rattle.field.specs.Column.{Sector, noughts, IsP, IsQ}
use Rattle.field.specs.Stripe.{column, data_of, held, Few, Codeword, Cut, Written, Anew, MendsTwo}
use Rattle.field.proofs.Parities.{nothing_behind_lem}

module _ (n m : ℕ) (xs ys : List ℕ) (l : 64 * n + 64 ≤ length xs) (q : length ys ≡ 64) (w : m ≡ 64) where
  column_here : column n (put_mid (64 * n) m xs ys) ≡ ys
  column_here =
      let e : (64 * n + 64) - 64 * n ≡ 64 = omega arith in
      subst (λ (z : ℕ). take z (drop (64 * n) (put_mid (64 * n) m xs ys)) ≡ ys) e (between-put_mid (64 * n) m xs ys (64 * n + 64) (omega arith) (omega arith))

  column_below : (e : ℕ) → e < n → column e (put_mid (64 * n) m xs ys) ≡ column e xs
  column_below e h =
      let j : (64 * e + 64) - 64 * e ≡ 64 = omega arith in
      let below = take-put_mid_below (64 * n) m xs ys (64 * e + 64) (omega arith) (omega arith) in
      subst (λ (z : ℕ). take z (drop (64 * e) (put_mid (64 * n) m xs ys)) ≡ take z (drop (64 * e) xs)) j
      (between_is (put_mid (64 * n) m xs ys) (64 * e) (64 * e + 64) ∙ (ap (drop (64 * e)) below ∙ sym (between_is xs (64 * e) (64 * e + 64))))

  column_above : (e : ℕ) → n < e → column e (put_mid (64 * n) m xs ys) ≡ column e xs
  column_above e h = ap (take 64) (drop-put_mid (64 * n) m xs ys (64 * e) (omega arith) (omega arith) (q ∙ sym w))

  column_other : (e : ℕ) → e ≢ n → column e (put_mid (64 * n) m xs ys) ≡ column e xs
  column_other e h = elim (cases_lt e n) [ inl lt ↦ column_below e lt | inr ge ↦ column_above e (omega arith) ]

  -- what a write of a column does
  pub written : (u : Sector) → ys ≡ u → Written n u (λ e. column e xs) (λ e. column e (put_mid (64 * n) m xs ys))
  written u e = record { here = column_here ∙ e; others = column_other }

-- the chunks of a slice are its columns
cut_at : (k : ℕ) (s : List ℕ) (i : ℕ) → i < k → held (first_chunks 64 k s) i ≡ column i s
unfolding held
cut_at zero s i h = absurd (omega arith)
cut_at (suc k) s zero h = refl
cut_at (suc k) s (suc i) h = let e : 64 + 64 * i ≡ 64 * suc i = omega arith in cut_at k (drop 64 s) i (omega arith) ∙ ap (take 64) (drop-drop (64 * i) 64 s ∙ ap (λ (n : ℕ). drop n s) e)

-- there are as many chunks as were asked for
pub chunks_many : (n k : ℕ) (xs : List ℕ) → length (first_chunks n k xs) ≡ k
chunks_many n zero xs = refl
chunks_many n (suc k) xs = ap suc (chunks_many n k (drop n xs))

-- a write leaves a slice as long as it was
length_put : (a k : ℕ) (xs ys : List ℕ) → a + k ≤ length xs → length ys ≡ k → length (put_mid a k xs ys) ≡ length xs
length_put a k xs ys h e =
    let whole : length (take a xs ++ (ys ++ drop k (drop a xs))) ≡ length xs
    = omega (arith, length-append (take a xs) (ys ++ drop k (drop a xs)), length-append ys (drop k (drop a xs)), length-take-le a xs (omega arith), length-drop k (drop a xs), length-drop a xs, e) in
    whole

-- a write of a chunk is the write of a column
pub chunks_set : (i m : ℕ) (s ys w : List ℕ) → 64 * i + 64 ≤ length s → length ys ≡ 64 → m ≡ 64 → ys ≡ w
    → first_chunks 64 (length (put_mid (64 * i) m s ys) / 64) (put_mid (64 * i) m s ys) ≡ set (first_chunks 64 (length s / 64) s) i w
unfolding held
chunks_set i m s ys w h l em e =
    let n : ℕ = length s / 64 in
    let t : List ℕ = put_mid (64 * i) m s ys in
    let cs : List Sector = first_chunks 64 n s in
    let lt : length t / 64 ≡ n = ap (λ (x : ℕ). x / 64) (length_put (64 * i) m s ys (omega arith) (l ∙ sym em)) in
    let wr = written i m s ys h l em w e in
    ext_get_or noughts (first_chunks 64 (length t / 64) t) (set cs i w)
    (chunks_many 64 (length t / 64) t ∙ lt ∙ sym (chunks_many 64 n s) ∙ sym (length-set cs i w))
    (λ j lj.
    let k : j < n = omega (arith, chunks_many 64 (length t / 64) t, lt) in
    let li : i < length cs = omega (arith, chunks_many 64 n s) in
    ap (λ (x : ℕ). get_or (first_chunks 64 x t) j noughts) lt ∙ cut_at n t j k ∙ elim (cases_eq j i) [
      | inl q ↦ ap (λ (x : ℕ). column x t) q ∙ wr.here ∙ sym (ap (λ (x : ℕ). get_or (set cs i w) x noughts) q ∙ get_or-set_same cs i w noughts li)
      | inr ne ↦ wr.others j ne ∙ sym (cut_at n s j k) ∙ sym (get_or-set_other cs i j w noughts ne)
    ])

-- and what stands behind the last column stays
pub rest_kept : (i m : ℕ) (s ys : List ℕ) → 64 * i + 64 ≤ length s → length ys ≡ 64 → m ≡ 64
    → drop (64 * (length (put_mid (64 * i) m s ys) / 64)) (put_mid (64 * i) m s ys) ≡ drop (64 * (length s / 64)) s
rest_kept i m s ys h l em =
    let n : length (put_mid (64 * i) m s ys) ≡ length s = length_put (64 * i) m s ys (omega arith) (l ∙ sym em) in
    ap (λ (x : ℕ). drop (64 * (x / 64)) (put_mid (64 * i) m s ys)) n ∙ drop-put_mid (64 * i) m s ys (64 * (length s / 64)) (omega arith) (omega arith) (l ∙ sym em)

pub cut_up : (k n : ℕ) (s : List ℕ) (cs : List Sector) → 4 ≤ k → k ≤ 12 → length s ≡ 64 * k → length cs ≡ n → n ≡ k → cs ≡ first_chunks 64 n s → Cut k s cs
cut_up k n s cs few most l lc en e = record {
  few = (few, most);
  words = l;
  long = lc ∙ en;
  same = λ i h. ap (λ (x : List Sector). held x i) (e ∙ ap (λ (m : ℕ). first_chunks 64 m s) en) ∙ cut_at k s i h;
}

-- the columns of a stripe in words
pub chunks_cut : (k : ℕ) (s : List ℕ) → Few k → length s ≡ 64 * k → Cut k s (first_chunks 64 (length s / 64) s)
chunks_cut k s f l = cut_up k (length s / 64) s (first_chunks 64 (length s / 64) s) f.0 f.1 l (chunks_many 64 (length s / 64) s) (omega arith) refl

-- P and Q of the columns are those of the words
module _ (k : ℕ) (s : List ℕ) (cs : List Sector) (cut : Cut k s cs) where
  same_data : (j : ℕ) → j < k - 2 → data_of (held cs) j ≡ data_of (λ i. column i s) j
  same_data j h = cut.same (2 + j) (omega arith)

  pub p_of_words : (p : Sector) → IsP (length cs - 2) (data_of (held cs)) p → IsP (k - 2) (data_of (λ i. column i s)) p
  p_of_words p is = (nothing_behind_lem (k - 2) (data_of (held cs)) (data_of (λ i. column i s)) same_data).0 p (subst (λ (n : ℕ). IsP (n - 2) (data_of (held cs)) p) cut.long is)

  pub q_of_words : (q : Sector) → IsQ (length cs - 2) (data_of (held cs)) q → IsQ (k - 2) (data_of (λ i. column i s)) q
  q_of_words q is = (nothing_behind_lem (k - 2) (data_of (held cs)) (data_of (λ i. column i s)) same_data).1 q (subst (λ (n : ℕ). IsQ (n - 2) (data_of (held cs)) q) cut.long is)

  -- words in which P and Q of the columns were written, one after the other, have P and Q anew
  pub anew_words : (u t : List ℕ) (p q : Sector) → IsP (length cs - 2) (data_of (held cs)) p → IsQ (length cs - 2) (data_of (held cs)) q
      → Written 0 p (λ i. column i s) (λ i. column i u) → Written 1 q (λ i. column i u) (λ i. column i t) → Anew k (λ i. column i s) (λ i. column i t)
  anew_words u t p q is_p is_q first second = record {
    is_p = subst (IsP (k - 2) (data_of (λ i. column i s))) (sym (second.others 0 (λ e. omega arith) ∙ first.here)) (p_of_words p is_p);
    is_q = subst (IsQ (k - 2) (data_of (λ i. column i s))) (sym second.here) (q_of_words q is_q);
    others = λ e l. second.others e (λ n. omega arith) ∙ first.others e (λ n. omega arith);
  }

  -- words in which two columns of a mended copy were written, one after the other, are mended
  pub mends_words : (a b : ℕ) (w : List Sector) (u t : List ℕ) (p q : Sector) → a < b → b < k → MendsTwo (length cs) a b (held cs) (held w) → p ≡ held w a → q ≡ held w b
      → Written a p (λ i. column i s) (λ i. column i u) → Written b q (λ i. column i u) (λ i. column i t) → MendsTwo k a b (λ i. column i s) (λ i. column i t)
  mends_words a b w u t p q ab lb mends ep eq first second c cw but i h =
      let na : a ≢ b = λ e. omega arith in
      let all = mends c (subst (λ (n : ℕ). Codeword n c) (sym cut.long) cw) (λ e l ea eb. cut.same e (omega (arith, cut.long)) ∙ but e (omega (arith, cut.long)) ea eb) in
      elim (cases_eq i b) [
        | inl e ↦ ap (λ (n : ℕ). column n t) e ∙ second.here ∙ eq ∙ all b (omega (arith, cut.long)) ∙ ap c (sym e)
        | inr nb ↦ second.others i nb ∙ elim (cases_eq i a) [
          | inl e ↦ ap (λ (n : ℕ). column n u) e ∙ first.here ∙ ep ∙ all a (omega (arith, cut.long)) ∙ ap c (sym e)
          | inr ne ↦ first.others i ne ∙ but i h ne nb
        ]
      ]

-- What is done to the columns is done to the words.
module _ (k : ℕ) (s t : List ℕ) (few : Few k) (l : length s ≡ 64 * k) (e : length t ≡ length s) where
  abbrev pub cs : List Sector
  cs = first_chunks 64 (length s / 64) s

  abbrev pub ds : List Sector
  ds = first_chunks 64 (length t / 64) t

  old : Cut k s cs
  old = chunks_cut k s few l

  new : Cut k t ds
  new = chunks_cut k t few (e ∙ l)

  behind : (i : ℕ) → k ≤ i → column i t ≡ column i s
  behind i h = ap (take 64) (drop_all (64 * i) t (omega arith) ∙ sym (drop_all (64 * i) s (omega arith)))

  pub chunks_anew : Anew (length cs) (held cs) (held ds) → Anew k (λ i. column i s) (λ i. column i t)
  chunks_anew a = record {
    is_p = subst (IsP (k - 2) (data_of (λ i. column i s))) (new.same 0 (omega (arith, few))) (p_of_words k s cs old (held ds 0) a.is_p);
    is_q = subst (IsQ (k - 2) (data_of (λ i. column i s))) (new.same 1 (omega (arith, few))) (q_of_words k s cs old (held ds 1) a.is_q);
    others = λ i h. elim (cases_lt i k) [
      | inl lt ↦ sym (new.same i lt) ∙ a.others i h ∙ old.same i lt
      | inr ge ↦ behind i ge
    ];
  }

  pub chunks_mend : (a b : ℕ) → MendsTwo (length cs) a b (held cs) (held ds) → MendsTwo k a b (λ i. column i s) (λ i. column i t)
  chunks_mend a b m c cw but i h =
      sym (new.same i h)
      ∙ m c (subst (λ (n : ℕ). Codeword n c) (sym old.long) cw) (λ j lj ea eb. old.same j (omega (arith, old.long)) ∙ but j (omega (arith, old.long)) ea eb) i (omega (arith, old.long))
