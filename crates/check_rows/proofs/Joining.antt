-- Rows of four records beside what was gathered before them. Assumes nothing.
use Rattle.std.proofs.Common.{◌≡◌, ℕ, zero, suc, ◌+◌, ◌-◌, ◌*◌, ◌/◌, ◌%◌, ◌<◌, ◌≤◌, Bool, cond, ◌&&◌, ltb, List, length, get_or, take, drop, sym, refl, ap, ◌∙◌, subst, ⊎_elim, arith, length-drop, length-take, get_or-drop, get_or-take, lt-ltb}
use lib.Bits.{bit_or}
use Rattle.meaning.specs.Below.{count_below}
use Rattle.meaning.proofs.Tests.{cmp}
use Rattle.meaning.proofs.Below.{count-le}
use Rattle.check_rows.specs.Rows.{up_at, off_at, Lane, Over, document_up, index_up, lane_documents, lane_indexes, joined_of}
use Rattle.check_rows.specs.declared.Lanes.{Lanes}
use Rattle.check_rows.specs.declared.Tally.{Tally}
use Rattle.check_positions.proofs.High.{or-ge}
use Rattle.index.proofs.Chains.{count-like}
use Rattle.check_positions.proofs.Prefix.{count_add}
use Rattle.check_positions.proofs.Gaps.{or_right}

-- ---- a part of the run
module _ (run : List ℕ) (a c : ℕ) where
  abbrev part : List ℕ
  part = take c (drop a run)

  word-part : (k m : ℕ) → k < c → a + k ≡ m → get_or part k 0 ≡ get_or run m 0
  word-part k m l e = get_or-take c (drop a run) k 0 l ∙ get_or-drop a run k 0 ∙ ap (λ (z : ℕ). get_or run z 0) e

  up-part : (k m : ℕ) → 3 ≤ k → k < c → a + k ≡ m → up_at part k ≡ up_at run m
  unfolding up_at
  up-part k m h l e = rw (word-part (k - 3) (m - 3) (omega arith) (omega arith), word-part k m l e)

  off_part : (k m : ℕ) → 4 ≤ k → k < c → a + k ≡ m → off_at part k ≡ off_at run m
  unfolding off_at
  off_part k m h l e =
      rw (word-part (k - 3) (m - 3) (omega arith) (omega arith), word-part k m l e, word-part (k - 4) (m - 4) (omega arith) (omega arith))

  lane-part : (at from n r p o : ℕ) → 4 ≤ at → at + 12 * n < c + 12 → a + at ≡ from → Lane part at n r p o → Lane run from n r p o
  lane-part at from n r p o h g e l =
      record {
        count = l.count ∙ count-like n _ _ (λ i b. up-part (at + 12 * i) (from + 12 * i) (omega arith) (omega arith) (omega arith));
        off = λ i b. let z = off_part (at + 12 * i) (from + 12 * i) (omega arith) (omega arith) (omega arith) in omega (arith, sym z, l.off i b);
        most = λ i b. let z = word-part (at + 12 * i) (from + 12 * i) (omega arith) (omega arith) in omega (arith, sym z, l.most i b);
      }

-- ---- four records to a row
four : (m : ℕ) → 4 * suc m ≡ suc (suc (suc (suc (4 * m))))
four m = omega arith

count-rows : (m : ℕ) (p : ℕ → Bool) → count_below (4 * m) p ≡ count_below m (λ i. p (4 * i + 0)) + count_below m (λ i. p (4 * i + 1)) + count_below m (λ i. p (4 * i + 2)) + count_below m (λ i. p (4 * i + 3))
unfolding count_below
count-rows zero p = refl
count-rows (suc m) p =
    let z : 4 * m ≡ 4 * m + 0 = omega arith in
    let a : suc (4 * m) ≡ 4 * m + 1 = omega arith in
    let b : suc (suc (4 * m)) ≡ 4 * m + 2 = omega arith in
    let c : suc (suc (suc (4 * m))) ≡ 4 * m + 3 = omega arith in
    rw (four m) (omega (arith, count-rows m p, ap {B = ℕ} (λ (z : ℕ). cond (p z) 1 0) z, ap {B = ℕ} (λ (z : ℕ). cond (p z) 1 0) a, ap {B = ℕ} (λ (z : ℕ). cond (p z) 1 0) b, ap {B = ℕ} (λ (z : ℕ). cond (p z) 1 0) c))

-- k says where a word of a record stands: w words after the record begins
module _ (n m w : ℕ) (some : 0 < n) (k : ℕ → ℕ) (k-is : (i : ℕ) → k i ≡ 3 * i + w) where
  -- what is counted at a word of each record
  rows-up : (run : List ℕ) (x a b c d : ℕ) → x ≡ count_below n (λ i. ltb 0 i && up_at run (k i)) → a ≡ count_below m (λ i. up_at run (3 * n + w + 12 * i)) → b ≡ count_below m (λ i. up_at run (3 * n + (w + 3) + 12 * i)) → c ≡ count_below m (λ i. up_at run (3 * n + (w + 6) + 12 * i)) → d ≡ count_below m (λ i. up_at run (3 * n + (w + 9) + 12 * i)) → x + (a + b + c + d) ≡ count_below (n + 4 * m) (λ i. ltb 0 i && up_at run (k i))
  rows-up run x a b c d e f g h u =
      let s = count_add n (4 * m) (λ i. ltb 0 i && up_at run (k i)) in
      let r = count-rows m (λ i. ltb 0 (n + i) && up_at run (k (n + i))) in
      omega (arith, e, f, g, h, u, s, r, row 0 w (omega arith), row 1 (w + 3) (omega arith), row 2 (w + 6) (omega arith), row 3 (w + 9) (omega arith))
    where
      row : (q v : ℕ) → 3 * q + w ≡ v → count_below m (λ i. ltb 0 (n + (4 * i + q)) && up_at run (k (n + (4 * i + q)))) ≡ count_below m (λ i. up_at run (3 * n + v + 12 * i))
      row q v z =
          count-like m _ _ (λ i l. let b : 0 < n + (4 * i + q) = omega arith in let y : k (n + (4 * i + q)) ≡ 3 * n + v + 12 * i = omega (arith, k-is (n + (4 * i + q))) in rw (lt-ltb _ _ b) (ap (λ (u : ℕ). up_at run u) y))

  -- what bounds a word of each record
  rows_bound : (g : ℕ → ℕ) (x a b c d : ℕ) → ((i : ℕ) → i < m → g (3 * n + w + 12 * i) ≤ a) → ((i : ℕ) → i < m → g (3 * n + (w + 3) + 12 * i) ≤ b) → ((i : ℕ) → i < m → g (3 * n + (w + 6) + 12 * i) ≤ c) → ((i : ℕ) → i < m → g (3 * n + (w + 9) + 12 * i) ≤ d) → (i : ℕ) → (i < n → g (k i) ≤ x) → i < n + 4 * m → g (k i) ≤ bit_or (bit_or (bit_or (bit_or x a) b) c) d
  rows_bound g x a b c d ha hb hc hd i before l =
      ⊎_elim (λ (s : i < n). omega (arith, before s, ups)) (λ (s : n ≤ i). ⊎_elim (λ (u : (i - n) % 4 < 1). at s w a (omega (arith, k-is i)) (omega (arith, ups)) ha) (λ (u : 1 ≤ (i - n) % 4). ⊎_elim (λ (v : (i - n) % 4 < 2). at s (w + 3) b (omega (arith, k-is i)) (omega (arith, ups)) hb) (λ (v : 2 ≤ (i - n) % 4). ⊎_elim (λ (z : (i - n) % 4 < 3). at s (w + 6) c (omega (arith, k-is i)) (omega (arith, ups)) hc) (λ (z : 3 ≤ (i - n) % 4). at s (w + 9) d (omega (arith, k-is i)) (omega (arith, ups)) hd) (cmp ((i - n) % 4) 3)) (cmp ((i - n) % 4) 2)) (cmp ((i - n) % 4) 1)) (cmp i n)
    where
      all : ℕ
      all = bit_or (bit_or (bit_or (bit_or x a) b) c) d

      ups : (x ≤ all) × (a ≤ all) × (b ≤ all) × (c ≤ all) × (d ≤ all)
      ups =
          let p = or-ge x a in
          let q = or_right x a in
          let r = or-ge (bit_or x a) b in
          let s = or_right (bit_or x a) b in
          let t = or-ge (bit_or (bit_or x a) b) c in
          let u = or_right (bit_or (bit_or x a) b) c in
          let v = or-ge (bit_or (bit_or (bit_or x a) b) c) d in
          let z = or_right (bit_or (bit_or (bit_or x a) b) c) d in
          (omega arith, omega arith, omega arith, omega arith, omega arith)

      at : n ≤ i → (v e : ℕ) → k i ≡ 3 * n + v + 12 * ((i - n) / 4) → e ≤ all → ((z : ℕ) → z < m → g (3 * n + v + 12 * z) ≤ e) → g (k i) ≤ all
      at s v e y f h = omega (arith, ap g y, h ((i - n) / 4) (omega arith), f)

-- rows in a part of the run that begins two records before them
module _ (run : List ℕ) (n m start stop : ℕ) (t : Tally) (l : Lanes) (two : 2 ≤ n) (e : start ≡ 3 * n - 6) (f : stop ≡ 3 * n + 12 * m) (fits : stop ≤ length run) (o : Over run n t) (h : (j : ℕ) → j < 12 → Lane (take (stop - start) (drop start run)) (6 + j) ((length (take (stop - start) (drop start run)) - 6) / 12) (get_or l.rises j 0) (get_or l.apart j 0) (get_or l.all j 0)) where
  rows-many : (length (take (stop - start) (drop start run)) - 6) / 12 ≡ m
  rows-many = simp (length-take, length-drop) (omega arith)

  lane : (j : ℕ) → j < 12 → Lane run (3 * n + j) m (get_or l.rises j 0) (get_or l.apart j 0) (get_or l.all j 0)
  lane j b =
      lane-part run start (stop - start) (6 + j) (3 * n + j) m _ _ _ (omega arith) (omega arith) (omega arith) (subst (λ (z : ℕ). Lane (take (stop - start) (drop start run)) (6 + j) z (get_or l.rises j 0) (get_or l.apart j 0) (get_or l.all j 0)) rows-many (h j b))

  pub over-rows : Over run (n + 4 * m) (joined_of t l)
  over-rows =
      record {
        documents-up = rows-up n m 0 (omega arith) (λ i. 3 * i) (λ i. omega arith) run _ _ _ _ _ o.documents-up (lane 0 (omega arith)).count (lane 3 (omega arith)).count (lane 6 (omega arith)).count (lane 9 (omega arith)).count;
        indexes-up = rows-up n m 2 (omega arith) (λ i. 3 * i + 2) (λ i. refl) run _ _ _ _ _ o.indexes-up (lane 2 (omega arith)).count (lane 5 (omega arith)).count (lane 8 (omega arith)).count (lane 11 (omega arith)).count;
        off = λ i p. rows_bound n m 2 (omega arith) (λ i. 3 * i + 2) (λ i. refl) (λ k. off_at run k) _ _ _ _ _ (lane 2 (omega arith)).off (lane 5 (omega arith)).off (lane 8 (omega arith)).off (lane 11 (omega arith)).off i (λ q. o.off i p q);
        document = λ i. rows_bound n m 0 (omega arith) (λ i. 3 * i) (λ i. omega arith) (λ k. get_or run k 0) _ _ _ _ _ (lane 0 (omega arith)).most (lane 3 (omega arith)).most (lane 6 (omega arith)).most (lane 9 (omega arith)).most i (o.document i);
        frequency = λ i. rows_bound n m 1 (omega arith) (λ i. 3 * i + 1) (λ i. refl) (λ k. get_or run k 0) _ _ _ _ _ (lane 1 (omega arith)).most (lane 4 (omega arith)).most (lane 7 (omega arith)).most (lane 10 (omega arith)).most i (o.frequency i);
        index = λ i. rows_bound n m 2 (omega arith) (λ i. 3 * i + 2) (λ i. refl) (λ k. get_or run k 0) _ _ _ _ _ (lane 2 (omega arith)).most (lane 5 (omega arith)).most (lane 8 (omega arith)).most (lane 11 (omega arith)).most i (o.index i);
      }

  -- the sums stay below the number of records
  pub rows_few : (t.ascents + lane_documents l ≤ n + 4 * m) × (t.advances + lane_indexes l ≤ n + 4 * m)
  rows_few = (omega (arith, over-rows.documents-up, count-le (n + 4 * m) (document_up run)), omega (arith, over-rows.indexes-up, count-le (n + 4 * m) (index_up run)))
