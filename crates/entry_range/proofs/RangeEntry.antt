-- The Range entry: its lowest number, and its answer. Assumes nothing.
use mathlib.Core.Path.{◌≡◌, refl, sym}
use mathlib.Core.Bool.{true, false}
use mathlib.Core.List.{List, []}
use Prim.Native.Nat.{ℕ, ◌≤◌, ◌<◌}
use lib.Dec.{ltb, lit<}
use lib.ListN.{length}
use borrow.Author.Tests.{lt-ltb, le-ltb, ltb-false}
use Rattle.meaning.specs.Lent.{Index}
use Rattle.meaning.specs.Range.{NumericRange, range_documents}
use Rattle.meaning.specs.Refusals.{lowest}
use Rattle.meaning.specs.IndexRefusals.{wrong1, wrong6}
use Rattle.meaning.specs.QueryRefusals.{wrong_range}
use Rattle.meaning.specs.CallRefusals.{wrong12_range}
use Rattle.meaning.specs.Entries.{written, columns_only, range_refusal, range_answer, range_output}
use Rattle.index.specs.Slices.{lent}
use Rattle.meaning.proofs.Tests.{true-left, true-right, or_right}
use Rattle.std.proofs.Common.{Ok, Err}
use Rattle.refusal.specs.declared.Refusal.{Refusal}
use Rattle.refusal.specs.Numbers.{number_of}
use Rattle.refusal.proofs.Positive.{number-not-0}
use Rattle.doc_values.specs.RangeRight.{RangeRight}
use Rattle.entry_range.specs.Answers.{ranged_numbers}
use Rattle.meaning.proofs.Lowest.{lowest-here, lowest-past, lowest-zero, answered-refused}

-- a range is wrong by the columns alone
pub wrong-by-columns : (n : ℕ) (columns values : List ℕ) (r : NumericRange) → wrong_range (columns_only 0 columns []) r ≡ wrong_range (columns_only n columns values) r
unfolding wrong_range
wrong-by-columns n columns values r = refl

-- N is too large by itself
pub limit-alone : (n : ℕ) (columns values : List ℕ) → wrong1 (lent n [] [] [] [] [] [] [] []) ≡ wrong1 (columns_only n columns values)
unfolding wrong1
limit-alone n columns values = refl

module _ (ix : Index) (r : NumericRange) (work output : ℕ) where
  -- ---- each way out
  pub range-1 : wrong1 ix ≡ true → 1 ≡ range_refusal ix r work output
  unfolding range_refusal
  range-1 a = lowest-here 1 _ _ a

  module _ (a : wrong1 ix ≡ false) where
    pub range-6 : wrong6 ix ≡ true → 6 ≡ range_refusal ix r work output
    unfolding range_refusal
    range-6 b = lowest-past 1 _ _ 6 a (lowest-here 6 _ _ b)

    module _ (b : wrong6 ix ≡ false) where
      pub range-8 : wrong_range ix r ≡ true → 8 ≡ range_refusal ix r work output
      unfolding range_refusal
      range-8 e = lowest-past 1 _ _ 8 a (lowest-past 6 _ _ 8 b (lowest-here 8 _ _ e))

      module _ (e : wrong_range ix r ≡ false) where
        range-12 : wrong12_range ix work output ≡ true → 12 ≡ range_refusal ix r work output
        unfolding range_refusal
        range-12 h = lowest-past 1 _ _ 12 a (lowest-past 6 _ _ 12 b (lowest-past 8 _ _ 12 e (lowest-here 12 _ _ h)))

        pub range-work : work < ix.max_doc → 12 ≡ range_refusal ix r work output
        unfolding wrong12_range
        range-work h = range-12 (true-left _ _ (lt-ltb work ix.max_doc h))

        pub range-output : output < ix.max_doc → 12 ≡ range_refusal ix r work output
        unfolding wrong12_range
        range-output h = range-12 (true-right (ltb work ix.max_doc) _ (lt-ltb output ix.max_doc h))

        pub range-0 : ix.max_doc ≤ work → ix.max_doc ≤ output → 0 ≡ range_refusal ix r work output
        unfolding range_refusal wrong12_range lowest
        range-0 h g = rw (a, b, e, le-ltb work ix.max_doc h, le-ltb output ix.max_doc g)

  -- ---- what a call that is not refused knows
  pub range-allowed : 0 ≡ range_refusal ix r work output → RangeRight ix r × (ix.max_doc ≤ output)
  unfolding range_refusal wrong12_range
  range-allowed is =
      let a = lowest-zero 1 _ _ (lit< tt) (sym is) in
      let b = lowest-zero 6 _ _ (lit< tt) a.1 in
      let e = lowest-zero 8 _ _ (lit< tt) b.1 in
      let h = lowest-zero 12 _ _ (lit< tt) e.1 in
      (record { documents = a.0; columns = b.0; range = e.0 }, ltb-false output ix.max_doc (or_right (ltb work ix.max_doc) (ltb output ix.max_doc) h.0))

-- ---- the answer
module _ (ix : Index) (r : NumericRange) (work output : List ℕ) where
  module _ (n : Refusal) (is : number_of n ≡ range_refusal ix r (length work) (length output)) where
    pub refused-answer : ranged_numbers (Err n) ≡ range_answer ix r (length work) (length output)
    unfolding ranged_numbers range_answer
    refused-answer = rw (← is) (answered-refused _ _ _ (number-not-0 n))

    pub refused-output : output ≡ range_output ix r (length work) output
    unfolding range_output
    refused-output = rw (← is) (answered-refused _ _ _ (number-not-0 n))

  module _ (is : 0 ≡ range_refusal ix r (length work) (length output)) where
    pub done-answer : (m : ℕ) → m ≡ length (range_documents ix r) → ranged_numbers (Ok m) ≡ range_answer ix r (length work) (length output)
    unfolding ranged_numbers range_answer
    done-answer m e = rw (← is, e) refl

    pub done-output : (output' : List ℕ) → output' ≡ written (range_documents ix r) output → output' ≡ range_output ix r (length work) output
    unfolding range_output
    done-output output' f = rw (← is, f) refl
