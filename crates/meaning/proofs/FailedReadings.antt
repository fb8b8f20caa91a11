-- Request 2026-03: a reading that failed is never listed, an end that is no number lists nothing, and nothing else
-- changed. Assumes nothing.
use mathlib.Core.Path.{◌≡◌, refl, sym, ap, ap₂, ◌∙◌}
use mathlib.Core.Logic.{◌⊎◌, ⊎_elim}
use mathlib.Core.Bool.{Bool, true, false, not, cond, ◌&&◌, true≢false}
use mathlib.Core.List.{[]}
use Prim.Native.Nat.{ℕ, ◌+◌, ◌*◌, ◌/◌, ◌%◌, ◌<◌}
use native.Mathlib.Omega.{arith}
use lib.Arith.{digits_div}
use lib.Dec.{eqb}
use lib.Ieee.{binary64, nan_bits}
use lib.ListN.{length, get_or, get_or-eq_default}
use borrow.Author.Tests.{eqb-true, eq-eqb, ne_eqb}
use Rattle.meaning.specs.Below.{list_below, list_to}
use Rattle.meaning.specs.Lent.{Index, joined, column_type, value_present, value_bits}
use Rattle.meaning.specs.Range.{NumericRange, at_lower, at_upper, failed, comparable, end_good, in_range, range_documents}
use Rattle.meaning.proofs.Tests.{cmp}
use Rattle.meaning.proofs.Below.{length-list_to, get_or-list_to, listed_at, list-none, list_same}

-- ---- the six tests of in_range: present, failed, the two ends good, the two ends met
abbrev type : Index → NumericRange → ℕ
type ix r = column_type ix r.column

abbrev present : Index → NumericRange → ℕ → ℕ
present ix r d = value_present ix r.column d

abbrev bits : Index → NumericRange → ℕ → ℕ
bits ix r d = value_bits ix r.column d

abbrev lower_good : Index → NumericRange → Bool
lower_good ix r = end_good (r.kinds % 3) (type ix r) r.lower

abbrev upper_good : Index → NumericRange → Bool
upper_good ix r = end_good (r.kinds / 3) (type ix r) r.upper

abbrev lower_met : Index → NumericRange → ℕ → Bool
lower_met ix r d = at_lower (r.kinds % 3) (type ix r) r.lower (bits ix r d)

abbrev upper_met : Index → NumericRange → ℕ → Bool
upper_met ix r d = at_upper (r.kinds / 3) (type ix r) r.upper (bits ix r d)

-- where all hold, the value is present and has not failed
present-unfailed : (p f g h l u : Bool) → (p && not f && g && h && l && u) ≡ true → (p ≡ true) × (f ≡ false)
present-unfailed true false g h l u e = (refl, refl)
present-unfailed true true g h l u e = absurd (true≢false (sym e))
present-unfailed false f g h l u e = absurd (true≢false (sym e))

-- a bad end fails them
lower-bad : (c h l u : Bool) → (c && false && h && l && u) ≡ false
lower-bad true h l u = refl
lower-bad false h l u = refl

upper-bad : (c g l u : Bool) → (c && g && false && l && u) ≡ false
upper-bad true true l u = refl
upper-bad true false l u = refl
upper-bad false g l u = refl

-- with good ends, and a present value that has not failed, the old three are left
old-left : (p f l u : Bool) → (p ≡ true → f ≡ false) → (p && not f && true && true && l && u) ≡ (p && l && u)
old-left true f l u k = rw (k refl)
old-left false f l u k = refl

-- and a value that failed is as one that is absent
failed-left : (p l u : Bool) → (p && false && true && true && l && u) ≡ false
failed-left true l u = refl
failed-left false l u = refl

absent-left : (f l u : Bool) (p : ℕ) → (eqb p 1 && not f && true && true && l && u) ≡ (eqb (cond f 0 p) 1 && l && u)
absent-left true l u p = failed-left (eqb p 1) l u
absent-left false l u p = old-left (eqb p 1) false l u (λ e. refl)

-- an end that is given and failed is not good
given-bad : (kind type x : ℕ) → (kind ≡ 0 → ⊥) → failed type x ≡ true → end_good kind type x ≡ false
given-bad kind type x given bad = rw (ne_eqb kind 0 given, bad)

-- ---- what is listed
-- "a Range never lists a document whose f64 value is NaN": each document listed has a value, and it has not failed,
-- whatever the range
pub no-failed-listed : (ix : Index) (r : NumericRange) (i : ℕ) → i < length (range_documents ix r) →
    let d = get_or (range_documents ix r) i 0 in
    (value_present ix r.column d ≡ 1) × (failed (column_type ix r.column) (value_bits ix r.column d) ≡ false)
unfolding range_documents in_range
no-failed-listed ix r i h =
    let d = get_or (range_documents ix r) i 0 in
    let all = (listed_at (in_range ix r) ix.max_doc i h).1 in
    let e = present-unfailed (eqb (present ix r d) 1) (failed (type ix r) (bits ix r d)) (lower_good ix r) (upper_good ix r) (lower_met ix r d) (upper_met ix r d) all in
    (eqb-true (present ix r d) 1 e.0, e.1)

-- in a column that is not i64, failed is NaN
nan-failed : (type x : ℕ) → (type ≡ 0 → ⊥) → failed type x ≡ false → nan_bits binary64 x ≡ false
nan-failed type x other e = rw (ne_eqb type 0 other) at e

-- the same in the words of the request: of an f64 column no NaN is listed
pub no-nan-listed : (ix : Index) (r : NumericRange) (i : ℕ) → i < length (range_documents ix r) → (column_type ix r.column ≡ 0 → ⊥) →
    nan_bits binary64 (value_bits ix r.column (get_or (range_documents ix r) i 0)) ≡ false
no-nan-listed ix r i h other =
    nan-failed (column_type ix r.column) (value_bits ix r.column (get_or (range_documents ix r) i 0)) other (no-failed-listed ix r i h).1

-- ---- an end that failed
-- "A NaN given as a range end lists no document": the lower end
pub failed-lower-lists-none : (ix : Index) (r : NumericRange) → (r.kinds % 3 ≡ 0 → ⊥) → failed (column_type ix r.column) r.lower ≡ true → range_documents ix r ≡ []
unfolding range_documents in_range
failed-lower-lists-none ix r given bad =
    list-none (in_range ix r) ix.max_doc
    (λ d l. rw (given-bad (r.kinds % 3) (type ix r) r.lower given bad) (lower-bad (comparable ix r.column d) (upper_good ix r) (lower_met ix r d) (upper_met ix r d)))

-- the upper end
pub failed-upper-lists-none : (ix : Index) (r : NumericRange) → (r.kinds / 3 ≡ 0 → ⊥) → failed (column_type ix r.column) r.upper ≡ true → range_documents ix r ≡ []
unfolding range_documents in_range
failed-upper-lists-none ix r given bad =
    list-none (in_range ix r) ix.max_doc
    (λ d l. rw (given-bad (r.kinds / 3) (type ix r) r.upper given bad) (upper-bad (comparable ix r.column d) (lower_good ix r) (lower_met ix r d) (upper_met ix r d)))

-- either of them
pub failed-end-lists-none : (ix : Index) (r : NumericRange) →
    ((r.kinds % 3 ≡ 0 → ⊥) × (failed (column_type ix r.column) r.lower ≡ true)) ⊎
    ((r.kinds / 3 ≡ 0 → ⊥) × (failed (column_type ix r.column) r.upper ≡ true)) →
    range_documents ix r ≡ []
failed-end-lists-none ix r = ⊎_elim (λ e. failed-lower-lists-none ix r e.0 e.1) (λ e. failed-upper-lists-none ix r e.0 e.1)

-- ---- numbers are as before
-- document 01's in_range as it was before the request, what it called comparable written out: a NaN has its place in
-- totalOrder
unfoldable pub in_range_by_order : Index → NumericRange → ℕ → Bool
in_range_by_order ix r d =
    let c = r.column in
    let v = value_bits ix c d in
    eqb (value_present ix c d) 1 && at_lower (r.kinds % 3) (column_type ix c) r.lower v && at_upper (r.kinds / 3) (column_type ix c) r.upper v

-- where neither the value, if it is present, nor an end that is given has failed, nothing changed
pub numbers-as-before : (ix : Index) (r : NumericRange) (d : ℕ) →
    (value_present ix r.column d ≡ 1 → failed (column_type ix r.column) (value_bits ix r.column d) ≡ false) →
    end_good (r.kinds % 3) (column_type ix r.column) r.lower ≡ true →
    end_good (r.kinds / 3) (column_type ix r.column) r.upper ≡ true →
    in_range ix r d ≡ in_range_by_order ix r d
unfolding in_range in_range_by_order
numbers-as-before ix r d value low high =
    rw (low, high) (old-left (eqb (present ix r d) 1) (failed (type ix r) (bits ix r d)) (lower_met ix r d) (upper_met ix r d) (λ e. value (eqb-true (present ix r d) 1 e)))

-- ---- a value that failed is as one that is absent
-- word i is the first word of a value, and that value's bits have failed in its column's type
abbrev pub failed_from : Index → ℕ → Bool
failed_from ix i = eqb (i % 3) 0 && failed (column_type ix (i / 3 / ix.max_doc)) (joined (get_or ix.values (i + 1) 0) (get_or ix.values (i + 2) 0))

-- the index whose failed values are marked absent (present 0), all else as it was
unfoldable pub failed_absent : Index → Index
failed_absent ix =
    record {
      max_doc = ix.max_doc;
      fields = ix.fields;
      leaves = ix.leaves;
      postings = ix.postings;
      positions = ix.positions;
      norms = ix.norms;
      live = ix.live;
      columns = ix.columns;
      values = list_to (length ix.values) (λ i. cond (failed_from ix i) 0 (get_or ix.values i 0));
    }

cond-zero : (b : Bool) (x : ℕ) → x ≡ 0 → cond b 0 x ≡ 0
cond-zero true x e = refl
cond-zero false x e = e

-- its words, beyond the end too
word-is : (ix : Index) (i : ℕ) → get_or (failed_absent ix).values i 0 ≡ cond (failed_from ix i) 0 (get_or ix.values i 0)
unfolding failed_absent
word-is ix i =
    let n = length ix.values in
    let f : ℕ → ℕ = λ j. cond (failed_from ix j) 0 (get_or ix.values j 0) in
    ⊎_elim
    (λ l. get_or-list_to n f 0 i l)
    (λ g. get_or-eq_default (list_to n f) 0 (omega (arith, g, length-list_to n f)) ∙ sym (cond-zero (failed_from ix i) (get_or ix.values i 0) (get_or-eq_default ix.values 0 g)))
    (cmp i n)

-- a word that is no first one stays
other_word : (ix : Index) (i : ℕ) → (i % 3 ≡ 0 → ⊥) → get_or (failed_absent ix).values i 0 ≡ get_or ix.values i 0
other_word ix i other = word-is ix i ∙ rw (ne_eqb (i % 3) 0 other)

-- the first word of document d's value in column c
first_word : (k n c d : ℕ) → d < n → k ≡ 3 * (c * n + d) → (eqb (k % 3) 0 ≡ true) × (k / 3 / n ≡ c)
first_word k n c d l e =
    let third : k / 3 ≡ c * n + d = omega (arith, e) in
    (eq-eqb (k % 3) 0 (omega (arith, e)), ap (λ (m : ℕ). m / n) third ∙ digits_div c l)

-- what it keeps of the values, and what it marks
pub record Marked (ix : Index) : Type 0 where
  pub length-same : length (failed_absent ix).values ≡ length ix.values
  pub type-same : (c : ℕ) → column_type (failed_absent ix) c ≡ column_type ix c
  pub bits-same : (c d : ℕ) → value_bits (failed_absent ix) c d ≡ value_bits ix c d
  pub present-is : (c d : ℕ) → d < ix.max_doc → value_present (failed_absent ix) c d ≡ cond (failed (column_type ix c) (value_bits ix c d)) 0 (value_present ix c d)

pub absent-keeps : (ix : Index) → Marked ix
unfolding failed_absent
absent-keeps ix =
    record {
      length-same = length-list_to (length ix.values) (λ i. cond (failed_from ix i) 0 (get_or ix.values i 0));
      type-same = λ c. refl;
      bits-same = λ c d.
          let k = 3 * (c * ix.max_doc + d) in
          ap₂ joined (other_word ix (k + 1) (λ e. omega (arith, e))) (other_word ix (k + 2) (λ e. omega (arith, e)));
      present-is = λ c d l.
          let e = first_word (3 * (c * ix.max_doc + d)) ix.max_doc c d l refl in
          word-is ix (3 * (c * ix.max_doc + d)) ∙ rw (e.0, e.1);
    }

-- each document by itself
absent-one : (ix : Index) (r : NumericRange) (d : ℕ) → d < ix.max_doc → lower_good ix r ≡ true → upper_good ix r ≡ true → in_range ix r d ≡ in_range_by_order (failed_absent ix) r d
unfolding in_range in_range_by_order
absent-one ix r d l low high =
    let keeps = absent-keeps ix in
    rw (keeps.type-same r.column, keeps.bits-same r.column d, keeps.present-is r.column d l, low, high)
    (absent-left (failed (type ix r) (bits ix r d)) (lower_met ix r d) (upper_met ix r d) (present ix r d))

-- a Range lists what document 01 lists where each value that failed is absent
pub as-absent : (ix : Index) (r : NumericRange) →
    end_good (r.kinds % 3) (column_type ix r.column) r.lower ≡ true →
    end_good (r.kinds / 3) (column_type ix r.column) r.upper ≡ true →
    range_documents ix r ≡ list_below ix.max_doc (in_range_by_order (failed_absent ix) r)
unfolding range_documents
as-absent ix r low high = list_same (in_range ix r) (in_range_by_order (failed_absent ix) r) ix.max_doc (λ d l. absent-one ix r d l low high)
