-- What the pass over rows of records gathers, word by word of a row. Assumes nothing.
use Rattle.std.proofs.Common.{◌≡◌, ℕ, zero, suc, ◌+◌, ◌-◌, ◌*◌, ◌/◌, ◌%◌, ◌<◌, ◌≤◌, Bool, cond, leb, List, [], ◌∷◌, length, get_or, set, min, sym, refl, ap, ◌∙◌, subst, ⊎_elim, arith, length-set, get_or-set_other, get_or-set_same, take, drop, length-take, length-drop, get_or-take, get_or-drop}
use Rattle.std.proofs.Math.Nat.{min-eq_left}
use lib.Bits.{bit_or}
use Rattle.meaning.proofs.Below.{count-zero, count-more, count-le, last-or-below}
use Rattle.check_positions.specs.Places.{gap}
use Rattle.check_rows.specs.Rows.{up_at, off_at, Lane}
use Rattle.check_positions.proofs.Gaps.{gap_is, wraps, wrap_fits, high_bit, bound-more}
use Rattle.std.specs.Simd.{first_chunks}
use Rattle.index.proofs.Chains.{chunk_word}

module _ (words : List ℕ) (at : ℕ) where
  pub lane-none : Lane words at 0 0 0 0
  lane-none = record { count = sym (count-zero _); off = λ i l. absurd (omega arith); most = λ i l. absurd (omega arith) }

  up_is : (n k : ℕ) → k ≡ at + 12 * n → leb 2147483648 (gap (get_or words (k - 3) 0) (get_or words k 0)) ≡ up_at words (at + 12 * n)
  unfolding up_at
  up_is n k e = rw e

  off-is : (n k : ℕ) → k ≡ at + 12 * n → (gap (get_or words (k - 3) 0) (get_or words k 0) + get_or words (k - 4) 0) % 4294967296 ≡ off_at words (at + 12 * n)
  unfolding off_at
  off-is n k e = rw e

  pub lane-more : (n r a o k s x : ℕ) → Lane words at n r a o → k ≡ at + 12 * n → (s + get_or words k 0) % 4294967296 ≡ get_or words (k - 3) 0 → s < 4294967296 → get_or words k 0 < 4294967296 → x ≡ (s + get_or words (k - 4) 0) % 4294967296 → Lane words at (n + 1) (r + s / 2147483648) (bit_or a x) (bit_or o (get_or words k 0))
  lane-more n r a o k s x h e g l m f =
      let is : s ≡ gap (get_or words (k - 3) 0) (get_or words k 0) = gap_is _ _ _ g l m in
      record {
        count = ap (λ (z : ℕ). r + z) (high_bit s l ∙ ap (λ (z : ℕ). cond (leb 2147483648 z) 1 0) is ∙ ap (λ (b : Bool). cond b 1 0) (up_is n k e)) ∙ ap (λ (z : ℕ). z + cond (up_at words (at + 12 * n)) 1 0) h.count ∙ sym (count-more n _);
        off = bound-more (λ i. off_at words (at + 12 * i)) n a x h.off (f ∙ ap (λ (z : ℕ). (z + get_or words (k - 4) 0) % 4294967296) is ∙ off-is n k e);
        most = bound-more (λ i. get_or words (at + 12 * i) 0) n o (get_or words k 0) h.most (ap (λ (z : ℕ). get_or words z 0) e);
      }

  pub lane_count : (n r a o : ℕ) → Lane words at n r a o → r ≤ n
  lane_count n r a o h = omega (arith, h.count, count-le n (λ i. up_at words (at + 12 * i)))

-- in row i the words before the j-th are gathered
pub record Filled (words : List ℕ) (i j : ℕ) (rises apart all : List ℕ) : Type 0 where
  pub done : (t : ℕ) → t < j → Lane words (6 + t) (i + 1) (get_or rises t 0) (get_or apart t 0) (get_or all t 0)
  pub left : (t : ℕ) → j ≤ t → t < 12 → Lane words (6 + t) i (get_or rises t 0) (get_or apart t 0) (get_or all t 0)
  pub long-rises : length rises ≡ 12
  pub long_apart : length apart ≡ 12
  pub long-all : length all ≡ 12

-- a word of an array that another is set in
module _ (xs : List ℕ) (j v : ℕ) where
  set_here : (t : ℕ) → t ≡ j → j < length xs → v ≡ get_or (set xs j v) t 0
  set_here t e l = sym (get_or-set_same xs j v 0 l) ∙ ap (λ (z : ℕ). get_or (set xs j v) z 0) (sym e)

  set-away : (t : ℕ) → (t ≡ j → ⊥) → get_or xs t 0 ≡ get_or (set xs j v) t 0
  set-away t n = sym (get_or-set_other xs j t v 0 n)

lane-as : (words : List ℕ) (at n r a o r' a' o' : ℕ) → r ≡ r' → a ≡ a' → o ≡ o' → Lane words at n r a o → Lane words at n r' a' o'
lane-as words at n r a o r' a' o' e f g h = subst (λ (z : ℕ). Lane words at n r' a' z) g (subst (λ (z : ℕ). Lane words at n r' z o) f (subst (λ (z : ℕ). Lane words at n z a o) e h))

module _ (words : List ℕ) (i j : ℕ) (R A O : List ℕ) (h : Filled words i j R A O) (l : j < 12) where
  pub filled_more : (k s x : ℕ) → k ≡ 6 + j + 12 * i → (s + get_or words k 0) % 4294967296 ≡ get_or words (k - 3) 0 → s < 4294967296 → get_or words k 0 < 4294967296 → x ≡ (s + get_or words (k - 4) 0) % 4294967296 → Filled words i (j + 1) (set R j (get_or R j 0 + s / 2147483648)) (set A j (bit_or (get_or A j 0) x)) (set O j (bit_or (get_or O j 0) (get_or words k 0)))
  filled_more k s x e g m n f =
      record {
        done = λ t b. ⊎_elim (λ (q : t ≡ j). here t q) (λ (q : t < j). away t (i + 1) (λ (z : t ≡ j). omega arith) (h.done t q)) (last-or-below t j (omega arith));
        left = λ t b c. away t i (λ (z : t ≡ j). omega arith) (h.left t (omega arith) c);
        long-rises = length-set {A = ℕ} R j _ ∙ h.long-rises;
        long_apart = length-set {A = ℕ} A j _ ∙ h.long_apart;
        long-all = length-set {A = ℕ} O j _ ∙ h.long-all;
      }
    where
      away : (t n : ℕ) → (t ≡ j → ⊥) → Lane words (6 + t) n (get_or R t 0) (get_or A t 0) (get_or O t 0) → Lane words (6 + t) n (get_or (set R j (get_or R j 0 + s / 2147483648)) t 0) (get_or (set A j (bit_or (get_or A j 0) x)) t 0) (get_or (set O j (bit_or (get_or O j 0) (get_or words k 0))) t 0)
      away t n q = lane-as words (6 + t) n _ _ _ _ _ _ (set-away R j _ t q) (set-away A j _ t q) (set-away O j _ t q)

      here : (t : ℕ) → t ≡ j → Lane words (6 + t) (i + 1) (get_or (set R j (get_or R j 0 + s / 2147483648)) t 0) (get_or (set A j (bit_or (get_or A j 0) x)) t 0) (get_or (set O j (bit_or (get_or O j 0) (get_or words k 0))) t 0)
      here t q =
          lane-as words (6 + t) (i + 1) _ _ _ _ _ _ (set_here R j _ t q (omega (arith, h.long-rises))) (set_here A j _ t q (omega (arith, h.long_apart))) (set_here O j _ t q (omega (arith, h.long-all)))
          (subst (λ (z : ℕ). Lane words (6 + z) (i + 1) (get_or R j 0 + s / 2147483648) (bit_or (get_or A j 0) x) (bit_or (get_or O j 0) (get_or words k 0))) (sym q)
          (lane-more words (6 + j) i _ _ _ k s x (h.left j (omega arith) l) e g m n f))

  -- the same as the code writes it: a word, that of the record before, and the one before that
  pub filled_word : (k w b c r : ℕ) → k ≡ 6 + j + 12 * i → get_or words k 0 ≡ w → get_or words (k - 3) 0 ≡ b → get_or words (k - 4) 0 ≡ c → w < 4294967296 → b < 4294967296 → r ≡ get_or R j 0 + (b + (4294967296 - w)) % 4294967296 / 2147483648 → Filled words i (j + 1) (set R j r) (set A j (bit_or (get_or A j 0) (((b + (4294967296 - w)) % 4294967296 + c) % 4294967296))) (set O j (bit_or (get_or O j 0) w))
  filled_word k w b c r e ew eb ec lw lb er =
      let small : get_or words k 0 < 4294967296 = omega arith in
      let back : ((b + (4294967296 - w)) % 4294967296 + get_or words k 0) % 4294967296 ≡ get_or words (k - 3) 0 = ap (λ (z : ℕ). ((b + (4294967296 - w)) % 4294967296 + z) % 4294967296) ew ∙ wraps b w lb lw ∙ sym eb in
      let sum : ((b + (4294967296 - w)) % 4294967296 + c) % 4294967296 ≡ ((b + (4294967296 - w)) % 4294967296 + get_or words (k - 4) 0) % 4294967296 = ap (λ (z : ℕ). ((b + (4294967296 - w)) % 4294967296 + z) % 4294967296) (sym ec) in
      subst (λ (z : ℕ). Filled words i (j + 1) (set R j z) (set A j (bit_or (get_or A j 0) (((b + (4294967296 - w)) % 4294967296 + c) % 4294967296))) (set O j (bit_or (get_or O j 0) w))) (sym er)
      (subst (λ (z : ℕ). Filled words i (j + 1) (set R j (get_or R j 0 + (b + (4294967296 - w)) % 4294967296 / 2147483648)) (set A j (bit_or (get_or A j 0) (((b + (4294967296 - w)) % 4294967296 + c) % 4294967296))) (set O j (bit_or (get_or O j 0) z))) ew
      (filled_more k _ _ e back (wrap_fits _) small sum))

-- a word of a chunk of twelve in what is left from a place on
pub row-word : (words : List ℕ) (from n i j : ℕ) (rows : List (List ℕ)) → rows ≡ first_chunks 12 n (take (length words - from) (drop from words)) → from ≤ length words → n ≡ length (take (length words - from) (drop from words)) / 12 → i < n → j < 12 → (k : ℕ) → k ≡ from + 12 * i + j → get_or words k 0 ≡ get_or (get_or rows i []) j 0
row-word words from n i j rows e f m l g k h =
    let size : length (take (length words - from) (drop from words)) ≡ length words - from = simp (length-take, length-drop) (omega arith) in
    let in-part : 12 * i + j < length words - from = omega arith in
    ap (λ (z : ℕ). get_or words z 0) (h ∙ shift from i j) ∙ sym (get_or-take _ (drop from words) (12 * i + j) 0 in-part ∙ get_or-drop from words (12 * i + j) 0) ∙ sym (ap (λ (rs : List (List ℕ)). get_or (get_or rs i []) j 0) e ∙ chunk_word 12 n _ i j l g)
  where
    shift : (a b c : ℕ) → a + 12 * b + c ≡ a + (12 * b + c)
    shift a b c = omega arith

-- before the first row, and from one row to the next
pub filled_next : (words : List ℕ) (i : ℕ) (R A O : List ℕ) (j : ℕ) → 12 ≤ j → Filled words i j R A O → Filled words (i + 1) 0 R A O
filled_next words i R A O j l h =
    record { done = λ t b. absurd (omega arith); left = λ t b c. h.done t (omega arith); long-rises = h.long-rises; long_apart = h.long_apart; long-all = h.long-all }

-- nothing gathered
abbrev zeros : ℕ → List ℕ
zeros zero = []
zeros (suc n) = 0 ∷ zeros n

zero-at : (n t : ℕ) → 0 ≡ get_or (zeros n) t 0
zero-at zero t = refl
zero-at (suc n) zero = refl
zero-at (suc n) (suc t) = zero-at n t

pub filled_none : (words : List ℕ) → Filled words 0 0 (zeros 12) (zeros 12) (zeros 12)
filled_none words =
    record {
      done = λ t b. absurd (omega arith);
      left = λ t b c. lane-as words (6 + t) 0 0 0 0 _ _ _ (zero-at 12 t) (zero-at 12 t) (zero-at 12 t) (lane-none words (6 + t));
      long-rises = refl;
      long_apart = refl;
      long-all = refl;
    }

-- all rows
pub filled-all : (words : List ℕ) (i n : ℕ) (R A O : List ℕ) → Filled words i 0 R A O → i ≡ n → (j : ℕ) → j < 12 → Lane words (6 + j) n (get_or R j 0) (get_or A j 0) (get_or O j 0)
filled-all words i n R A O h e j l = subst (λ (z : ℕ). Lane words (6 + j) z (get_or R j 0) (get_or A j 0) (get_or O j 0)) e (h.left j (omega arith) l)

-- a sum that fits is not cut
pub unsaturated : (a b r : ℕ) → r ≡ min (a + b) 4294967295 → a + b ≤ 4294967295 → r ≡ a + b
unsaturated a b r e h = e ∙ min-eq_left h
