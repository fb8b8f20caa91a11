-- The documents of a range: what the list depends on, and the column's scan that writes it. Assumes nothing.
use mathlib.Core.Path.{◌≡◌, refl, ap, ◌∙◌}
use mathlib.Core.Bool.{Bool, true, false, not, ◌&&◌}
use mathlib.Core.List.{List}
use Prim.Native.Nat.{ℕ, suc, ◌+◌, ◌-◌, ◌*◌, ◌/◌, ◌%◌, ◌^◌, ◌≤◌, ◌<◌}
use native.Mathlib.Nat.{mul-le-mul_right, suc-mul}
use native.Mathlib.Omega.{arith}
use lib.Dec.{eqb, ltb}
use lib.ListN.{length, get_or, take, drop, length-drop}
use lib.Seq.{get_or-drop, take_all}
use borrow.Author.Tests.{leb-false, eqb-true, not-false}
use Rattle.meaning.specs.Limits.{max_columns}
use Rattle.meaning.specs.Below.{list_below, any_below}
use Rattle.meaning.specs.Lent.{Index, column_type, value_present, value_bits}
use Rattle.meaning.specs.Range.{NumericRange, failed, end_good, at_lower, at_upper, in_range, range_documents}
use Rattle.meaning.specs.IndexRefusals.{wrong1, wrong_column, wrong6}
use Rattle.meaning.specs.QueryRefusals.{wrong_range}
use Rattle.meaning.specs.Entries.{columns_only}
use Rattle.column_keys.specs.Keys.{value_key, between, range_key, value_in}
use Rattle.meaning.proofs.Tests.{or_left, or_right}
use Rattle.meaning.proofs.Below.{list_same}
use Rattle.column_keys.proofs.KeyOrder.{value_key-fits, number-by-key, lower-by-key, upper-by-key}

-- ---- the list depends on N, the columns and the values alone, and so do the tests that allow it
module _ (ix : Index) where
  abbrev pub columns_of : Index
  columns_of = columns_only ix.max_doc ix.columns ix.values

  pub range-of-columns : (r : NumericRange) → range_documents ix r ≡ range_documents columns_of r
  unfolding range_documents in_range
  range-of-columns r = refl

  pub in-range-of-columns : (r : NumericRange) (d : ℕ) → in_range ix r d ≡ in_range columns_of r d
  unfolding in_range
  in-range-of-columns r d = refl

  pub wrong1-of-columns : wrong1 ix ≡ wrong1 columns_of
  unfolding wrong1
  wrong1-of-columns = refl

  pub wrong6-of-columns : wrong6 ix ≡ wrong6 columns_of
  unfolding wrong6 wrong_column
  wrong6-of-columns = refl

  pub wrong_range-of-columns : (r : NumericRange) → wrong_range ix r ≡ wrong_range columns_of r
  unfolding wrong_range
  wrong_range-of-columns r = refl

-- ---- what an index and a range that are not refused allow
module _ (ix : Index) (r : NumericRange) where
  pub column-there : wrong_range ix r ≡ false → r.column < length ix.columns
  unfolding wrong_range
  column-there e = leb-false (length ix.columns) r.column (or_left _ _ (or_left _ _ (or_left _ _ e)))

  pub values_length : wrong6 ix ≡ false → length ix.values ≡ 3 * (length ix.columns * ix.max_doc)
  unfolding wrong6
  values_length e = eqb-true (length ix.values) (3 * (length ix.columns * ix.max_doc)) (not-false (eqb (length ix.values) (3 * (length ix.columns * ix.max_doc))) (or_right (ltb max_columns (length ix.columns)) _ (or_left _ (any_below (length ix.columns) (wrong_column ix)) e)))

  -- the column's values are there
  pub column_fits : wrong6 ix ≡ false → wrong_range ix r ≡ false → 3 * (r.column * ix.max_doc) + 3 * ix.max_doc ≤ length ix.values
  column_fits e f =
      let more : suc r.column * ix.max_doc ≤ length ix.columns * ix.max_doc = mul-le-mul_right ix.max_doc (column-there f) in
      omega (arith, values_length e, suc-mul r.column ix.max_doc)

-- ---- a value of a column, by the words from the column's first on
pub value_in-from : (xs : List ℕ) (s d t from to : ℕ) → value_in (take (length xs - s) (drop s xs)) (3 * d) t from to ≡ value_in xs (s + 3 * d) t from to
unfolding value_in
value_in-from xs s d t from to =
    let whole : take (length xs - s) (drop s xs) ≡ drop s xs = let left = length-drop s xs in take_all (length xs - s) (drop s xs) (omega (arith, left)) in
    let one : s + (3 * d + 1) ≡ s + 3 * d + 1 = omega arith in
    let two : s + (3 * d + 2) ≡ s + 3 * d + 2 = omega arith in
    rw (whole, get_or-drop s xs (3 * d) 0, get_or-drop s xs (3 * d + 1) 0, get_or-drop s xs (3 * d + 2) 0, one, two)

-- ---- the scan of a column by keys lists the range
and-all : (p n g h l u : Bool) → (p && (n && g && h && l && u)) ≡ (p && n && g && h && l && u)
and-all true n g h l u = refl
and-all false n g h l u = refl

module _ (n : ℕ) (columns values : List ℕ) (r : NumericRange) (words : (i : ℕ) → get_or values i 0 < 2 ^ 32) (lower : r.lower < 2 ^ 64) (upper : r.upper < 2 ^ 64) (from to : ℕ) where
  abbrev ix : Index
  ix = columns_only n columns values

  abbrev type : ℕ
  type = column_type ix r.column

  abbrev Keyed : Type 0
  Keyed = (k : ℕ) → k < 2 ^ 64 → between from to k ≡ range_key type r.kinds r.lower r.upper k

  bits_fit : (d : ℕ) → value_bits ix r.column d < 2 ^ 64
  bits_fit d = let at = 3 * (r.column * n + d) in omega (arith, words (at + 1), words (at + 2))

  pub value-as-range : Keyed → (d : ℕ) → value_in values (3 * (r.column * n) + 3 * d) type from to ≡ in_range ix r d
  unfolding value_in in_range
  value-as-range keyed d =
      let at : 3 * (r.column * n) + 3 * d ≡ 3 * (r.column * n + d) = omega arith in
      let v = value_bits ix r.column d in
      let p = eqb (value_present ix r.column d) 1 in
      rw at
      (ap (λ (b : Bool). p && b)
      (keyed (value_key type v) (value_key-fits type v (bits_fit d))
      ∙ rw (← number-by-key type v (bits_fit d), ← lower-by-key type (r.kinds % 3) r.lower v lower (bits_fit d), ← upper-by-key type (r.kinds / 3) r.upper v upper (bits_fit d)) refl)
      ∙ and-all p (not (failed type v)) (end_good (r.kinds % 3) type r.lower) (end_good (r.kinds / 3) type r.upper) (at_lower (r.kinds % 3) type r.lower v) (at_upper (r.kinds / 3) type r.upper v))

-- what is let in, if it is what the range takes, is the range's list
pub list-in-range : (ix : Index) (r : NumericRange) (p : ℕ → Bool) → ((d : ℕ) → p d ≡ in_range ix r d) → list_below ix.max_doc p ≡ range_documents ix r
unfolding range_documents
list-in-range ix r p h = list_same p (in_range ix r) ix.max_doc (λ d l. h d)
