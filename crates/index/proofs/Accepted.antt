-- The law for the crates above: an index of which none of 1 to 6 holds is `Accepted`. Assumes nothing.
use mathlib.Core.Path.{◌≡◌, sym, ap, ◌∙◌}
use mathlib.Core.Logic.{⊎_elim}
use mathlib.Core.Bool.{Bool, true, false, not, ◌&&◌, ◌||◌}
use Prim.Native.Nat.{ℕ, zero, suc, ◌+◌, ◌-◌, ◌*◌, ◌/◌, ◌≤◌, ◌<◌}
use native.Mathlib.Nat.{mul-le-mul_right, add-sub_cancel}
use native.Mathlib.Omega.{arith}
use lib.Dec.{ltb, leb, eqb}
use lib.ListN.{length}
use borrow.Author.Tests.{ltb-false, leb-false, eqb-true, eqb-false, not-false, lt-ltb, ne_eqb}
use Rattle.meaning.specs.Below.{any_below, count_below}
use Rattle.meaning.specs.Limits.{no_more_docs, max_columns, largest_frequency}
use Rattle.meaning.specs.Lent.{Index, field_count, has_norms, has_positions, leaf_count, leaf_field, leaf_number, leaf_document, leaf_frequency, leaf_positions_index, leaf_position, column_count, column_type, value_present}
use Rattle.meaning.specs.IndexRefusals.{not_whole, wrong1, wrong2, wrong3, wrong4, wrong5, wrong6, wrong_posting, wrong_positions, wrong_position, wrong_column}
use Rattle.index.specs.Accepted.{Accepted, PostingOk, RunAscends, ColumnOk}
use Rattle.index.specs.Refusal.{index_refusal}
use Rattle.index.proofs.Refused.{not-1, not-2, not-3, not-4, not-5, not-6}
use Rattle.meaning.proofs.Tests.{and_second, or_left, or_right, or-3, or-4}
use Rattle.meaning.proofs.Below.{last-or-below, none_below, count-lt}
use Rattle.index.proofs.Known.{documents-few, whole_words, fields-whole, fields-few, field-ok, leaves-whole, leaves-few, leaf-ok}

-- a list that does not fall from one place to the next does not fall at all
not-falling : (f : ℕ → ℕ) (n : ℕ) → ((i : ℕ) → i + 1 < n → f i ≤ f (i + 1)) → (j k : ℕ) → j ≤ k → k < n → f j ≤ f k
not-falling f n h j zero l g = let e : j ≡ 0 = omega arith in omega (arith, ap f e)
not-falling f n h j (suc k) l g =
    ⊎_elim (λ (e : j ≡ suc k). omega (arith, ap f e)) (λ (m : j < suc k). let s : k + 1 ≡ suc k = omega arith in omega (arith, not-falling f n h j k (omega arith) (omega arith), h k (omega arith), ap f s)) (last-or-below j (suc k) (omega arith))

-- and one that rises rises
rising : (f : ℕ → ℕ) (n : ℕ) → ((i : ℕ) → i + 1 < n → f i < f (i + 1)) → (j k : ℕ) → j < k → k < n → f j < f k
rising f n h j k l g =
    let a : f (j + 1) ≤ f k = not-falling f n (λ i m. omega (arith, h i m)) (j + 1) k (omega arith) g in omega (arith, h j (omega arith))

-- 3
module _ (ix : Index) (e : wrong3 ix ≡ false) where
  lengths-right : (not (eqb (length ix.norms) (count_below (field_count ix) (has_norms ix) * ix.max_doc)) ≡ false) × (not (eqb (length ix.live) 0 || eqb (length ix.live) ((ix.max_doc + 63) / 64)) ≡ false)
  unfolding wrong3
  lengths-right =
      (or_left (not (eqb (length ix.norms) (count_below (field_count ix) (has_norms ix) * ix.max_doc))) (not (eqb (length ix.live) 0 || eqb (length ix.live) ((ix.max_doc + 63) / 64))) e, or_right (not (eqb (length ix.norms) (count_below (field_count ix) (has_norms ix) * ix.max_doc))) (not (eqb (length ix.live) 0 || eqb (length ix.live) ((ix.max_doc + 63) / 64))) e)

  norm-bytes : length ix.norms ≡ count_below (field_count ix) (has_norms ix) * ix.max_doc
  norm-bytes = eqb-true _ _ (not-false _ lengths-right.0)

  norm-byte : (f d : ℕ) → f < field_count ix → has_norms ix f ≡ true → d < ix.max_doc → count_below f (has_norms ix) * ix.max_doc + d < length ix.norms
  norm-byte f d l h g =
      let m : (count_below f (has_norms ix) + 1) * ix.max_doc ≤ count_below (field_count ix) (has_norms ix) * ix.max_doc = mul-le-mul_right ix.max_doc (count-lt f (field_count ix) (has_norms ix) l h) in omega (arith, norm-bytes)

  live-words : 0 < length ix.live → length ix.live ≡ (ix.max_doc + 63) / 64
  live-words h =
      let n : eqb (length ix.live) 0 ≡ false = ne_eqb _ _ (λ (g : length ix.live ≡ 0). omega arith) in eqb-true _ _ (sym (ap (λ (b : Bool). b || eqb (length ix.live) ((ix.max_doc + 63) / 64)) n) ∙ not-false _ lengths-right.1)

-- 5
module _ (ix : Index) (e : wrong5 ix ≡ false) where
  runs-right : (not_whole (length ix.postings) 3 ≡ false) × (any_below (leaf_count ix) (λ l. any_below (leaf_number ix l) (wrong_posting ix l)) ≡ false)
  unfolding wrong5
  runs-right =
      (or_left (not_whole (length ix.postings) 3) (any_below (leaf_count ix) (λ l. any_below (leaf_number ix l) (wrong_posting ix l))) e, or_right (not_whole (length ix.postings) 3) (any_below (leaf_count ix) (λ l. any_below (leaf_number ix l) (wrong_posting ix l))) e)

  module _ (l i : ℕ) (m : l < leaf_count ix) (n : i < leaf_number ix l) where
    posting-right : wrong_posting ix l i ≡ false
    posting-right = none_below (leaf_number ix l) (wrong_posting ix l) (none_below (leaf_count ix) (λ k. any_below (leaf_number ix k) (wrong_posting ix k)) runs-right.1 l m) i n

    words_right : ((leb ix.max_doc (leaf_document ix l i) ≡ false) × ((ltb 0 i && leb (leaf_document ix l i) (leaf_document ix l (i - 1))) ≡ false) × (eqb (leaf_frequency ix l i) 0 ≡ false) × (ltb largest_frequency (leaf_frequency ix l i) ≡ false)) × (wrong_positions ix l i ≡ false)
    unfolding wrong_posting
    words_right =
        (or-4 (leb ix.max_doc (leaf_document ix l i)) (ltb 0 i && leb (leaf_document ix l i) (leaf_document ix l (i - 1))) (eqb (leaf_frequency ix l i) 0) (ltb largest_frequency (leaf_frequency ix l i)) (or_left (leb ix.max_doc (leaf_document ix l i) || (ltb 0 i && leb (leaf_document ix l i) (leaf_document ix l (i - 1))) || eqb (leaf_frequency ix l i) 0 || ltb largest_frequency (leaf_frequency ix l i)) (wrong_positions ix l i) posting-right), or_right (leb ix.max_doc (leaf_document ix l i) || (ltb 0 i && leb (leaf_document ix l i) (leaf_document ix l (i - 1))) || eqb (leaf_frequency ix l i) 0 || ltb largest_frequency (leaf_frequency ix l i)) (wrong_positions ix l i) posting-right)

    places-right : has_positions ix (leaf_field ix l) ≡ true → (ltb (length ix.positions) (leaf_positions_index ix l i + leaf_frequency ix l i) || any_below (leaf_frequency ix l i) (wrong_position ix l i)) ≡ false
    unfolding wrong_positions
    places-right h = rw h at words_right.1

    no_index_lem : has_positions ix (leaf_field ix l) ≡ false → leaf_positions_index ix l i ≡ 0
    unfolding wrong_positions
    no_index_lem h = eqb-true _ _ (not-false _ (rw h at words_right.1))

    module _ (h : has_positions ix (leaf_field ix l) ≡ true) where
      position-right : (j : ℕ) → j < leaf_frequency ix l i → wrong_position ix l i j ≡ false
      position-right j g = none_below _ _ (or_right (ltb (length ix.positions) (leaf_positions_index ix l i + leaf_frequency ix l i)) (any_below (leaf_frequency ix l i) (wrong_position ix l i)) (places-right h)) j g

      places-fit : leaf_positions_index ix l i + leaf_frequency ix l i ≤ length ix.positions
      places-fit = ltb-false _ _ (or_left (ltb (length ix.positions) (leaf_positions_index ix l i + leaf_frequency ix l i)) (any_below (leaf_frequency ix l i) (wrong_position ix l i)) (places-right h))

      place-small : (j : ℕ) → j < leaf_frequency ix l i → leaf_position ix l i j ≤ no_more_docs
      unfolding wrong_position
      place-small j g = ltb-false _ _ (or_left (ltb no_more_docs (leaf_position ix l i j)) (ltb 0 j && ltb (leaf_position ix l i j) (leaf_position ix l i (j - 1))) (position-right j g))

      place-next : (j : ℕ) → j + 1 < leaf_frequency ix l i → leaf_position ix l i j ≤ leaf_position ix l i (j + 1)
      unfolding wrong_position
      place-next j g =
          let a : ltb 0 (j + 1) ≡ true = lt-ltb 0 (j + 1) (omega arith) in let b : ltb (leaf_position ix l i (j + 1)) (leaf_position ix l i (j + 1 - 1)) ≡ false = and_second (ltb 0 (j + 1)) (ltb (leaf_position ix l i (j + 1)) (leaf_position ix l i (j + 1 - 1))) (or_right (ltb no_more_docs (leaf_position ix l i (j + 1))) (ltb 0 (j + 1) && ltb (leaf_position ix l i (j + 1)) (leaf_position ix l i (j + 1 - 1))) (position-right (j + 1) g)) a in let k : leaf_position ix l i (j + 1 - 1) ≤ leaf_position ix l i (j + 1) = ltb-false _ _ b in omega (arith, ap (λ (m : ℕ). leaf_position ix l i m) (add-sub_cancel j 1))

    posting-ok : PostingOk ix l i
    posting-ok =
        record {
          document = leb-false _ _ words_right.0.0;
          some = let h : leaf_frequency ix l i ≡ 0 → ⊥ = eqb-false _ _ words_right.0.2 in omega arith;
          most = ltb-false _ _ words_right.0.3;
          places = places-fit;
          rising = λ h j k. not-falling (leaf_position ix l i) (leaf_frequency ix l i) (place-next h) j k;
          small = place-small;
          no_index = no_index_lem;
        }

  document-next : (l i : ℕ) → l < leaf_count ix → i + 1 < leaf_number ix l → leaf_document ix l i < leaf_document ix l (i + 1)
  document-next l i m n =
      let a : ltb 0 (i + 1) ≡ true = lt-ltb 0 (i + 1) (omega arith) in let b : leb (leaf_document ix l (i + 1)) (leaf_document ix l (i + 1 - 1)) ≡ false = and_second (ltb 0 (i + 1)) (leb (leaf_document ix l (i + 1)) (leaf_document ix l (i + 1 - 1))) (words_right l (i + 1) m n).0.1 a in let k : leaf_document ix l (i + 1 - 1) < leaf_document ix l (i + 1) = leb-false _ _ b in omega (arith, ap (λ (m : ℕ). leaf_document ix l m) (add-sub_cancel i 1))

  ascends : (l : ℕ) → l < leaf_count ix → RunAscends ix l
  ascends l m = λ i j. rising (leaf_document ix l) (leaf_number ix l) (λ k. document-next l k m) i j

-- 6
module _ (ix : Index) (e : wrong6 ix ≡ false) where
  columns-right : (ltb max_columns (column_count ix) ≡ false) × (not (eqb (length ix.values) (3 * (column_count ix * ix.max_doc))) ≡ false) × (any_below (column_count ix) (wrong_column ix) ≡ false)
  unfolding wrong6
  columns-right = or-3 (ltb max_columns (column_count ix)) (not (eqb (length ix.values) (3 * (column_count ix * ix.max_doc)))) (any_below (column_count ix) (wrong_column ix)) e

  whole-values : length ix.values ≡ 3 * (column_count ix * ix.max_doc)
  whole-values = eqb-true _ _ (not-false _ columns-right.1)

  value-words : (c d : ℕ) → c < column_count ix → d < ix.max_doc → 3 * (c * ix.max_doc + d) + 2 < length ix.values
  value-words c d l g = let m : (c + 1) * ix.max_doc ≤ column_count ix * ix.max_doc = mul-le-mul_right ix.max_doc (omega arith) in omega (arith, whole-values)

  column-ok : (c : ℕ) → c < column_count ix → ColumnOk ix c
  unfolding wrong_column
  column-ok c l =
      let h : wrong_column ix c ≡ false = none_below _ _ columns-right.2 c l in record { type = ltb-false _ _ (or_left (ltb 1 (column_type ix c)) (any_below ix.max_doc (λ d. ltb 1 (value_present ix c d))) h); words = λ d g. value-words c d l g; present = λ d g. ltb-false _ _ (none_below ix.max_doc (λ k. ltb 1 (value_present ix c k)) (or_right (ltb 1 (column_type ix c)) (any_below ix.max_doc (λ k. ltb 1 (value_present ix c k))) h) d g) }

pub accepted : (ix : Index) → wrong1 ix ≡ false → wrong2 ix ≡ false → wrong3 ix ≡ false → wrong4 ix ≡ false → wrong5 ix ≡ false → wrong6 ix ≡ false → Accepted ix
accepted ix e1 e2 e3 e4 e5 e6 =
    record {
      documents = documents-few ix e1;
      few_fields = fields-few ix e2;
      whole_fields = omega (arith, fields-whole ix e2);
      field = field-ok ix e2;
      norm_bytes = norm-bytes ix e3;
      norm_byte = norm-byte ix e3;
      live_words = live-words ix e3;
      live_bit = λ h d g. omega (arith, live-words ix e3 h);
      few_leaves = leaves-few ix e4;
      whole_leaves = omega (arith, leaves-whole ix e4);
      leaf = leaf-ok ix e4;
      whole_postings = omega (arith, whole_words (length ix.postings) 3 (runs-right ix e5).0);
      posting = posting-ok ix e5;
      ascending = ascends ix e5;
      few_columns = ltb-false _ _ (columns-right ix e6).0;
      whole_values = whole-values ix e6;
      column = column-ok ix e6;
    }

-- the same from the number that `check_index` gives
pub accepted-checked : (ix : Index) → index_refusal ix ≡ 0 → Accepted ix
accepted-checked ix e = accepted ix (not-1 ix e) (not-2 ix e) (not-3 ix e) (not-4 ix e) (not-5 ix e) (not-6 ix e)
