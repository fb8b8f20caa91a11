-- What refusal 8 lets through. Assumes nothing.
use mathlib.Core.Path.{◌≡◌}
use mathlib.Core.Bool.{false, ◌||◌}
use mathlib.Core.List.{List}
use Prim.Native.Nat.{ℕ, ◌+◌, ◌≤◌, ◌<◌}
use lib.Dec.{eqb, leb, ltb}
use borrow.Author.Tests.{ltb-false, leb-false, eqb-true, not-false}
use Rattle.meaning.specs.Below.{any_below}
use Rattle.meaning.specs.Limits.{no_more_docs, largest_boost}
use Rattle.meaning.specs.Lent.{Index, field_count, leaf_count, leaf_field}
use Rattle.meaning.specs.Query.{kind_of, record_count, record_kind, record_children, record_value, range_of}
use Rattle.meaning.specs.QueryRefusals.{wrong8, wrong_values, wrong_kind, wrong_range, unused_from, other_field}
use Rattle.query.specs.Read.{Boosts, PhraseFields}
use Rattle.meaning.proofs.Tests.{or_left, or_right}
use Rattle.meaning.proofs.Below.{none_below}

module _ (ix : Index) (q : List ℕ) (e : wrong8 ix q ≡ false) (r : ℕ) (h : r < record_count q) where
  record-right : wrong_values ix q r (kind_of (record_kind q r)) ≡ false
  unfolding wrong8
  record-right = none_below (record_count q) (λ r. wrong_values ix q r (kind_of (record_kind q r))) e r h

  pub term-leaf : record_kind q r ≡ 1 → record_value q r 0 < leaf_count ix
  unfolding wrong_values wrong_kind
  term-leaf k = leb-false (leaf_count ix) (record_value q r 0) (or_left (leb (leaf_count ix) (record_value q r 0)) (unused_from q r 1) (rw k at record-right))

  pub record PhraseRight : Type 0 where
    pub field-present : record_value q r 0 < field_count ix
    pub same-field : (j : ℕ) → j < record_children q r → leaf_field ix (record_value q (r + 1 + j) 0) ≡ record_value q r 0

  pub phrase-right : record_kind q r ≡ 2 → PhraseRight
  unfolding wrong_values wrong_kind other_field
  phrase-right k =
      let right : (leb (field_count ix) (record_value q r 0) || unused_from q r 1 || any_below (record_children q r) (other_field ix q r)) ≡ false = rw k at record-right in
      let first = or_left (leb (field_count ix) (record_value q r 0) || unused_from q r 1) (any_below (record_children q r) (other_field ix q r)) right in
      let others = none_below (record_children q r) (other_field ix q r) (or_right (leb (field_count ix) (record_value q r 0) || unused_from q r 1) (any_below (record_children q r) (other_field ix q r)) right) in
      record {
        field-present = leb-false (field_count ix) (record_value q r 0) (or_left (leb (field_count ix) (record_value q r 0)) (unused_from q r 1) first);
        same-field = λ j g. eqb-true (leaf_field ix (record_value q (r + 1 + j) 0)) (record_value q r 0) (not-false (eqb (leaf_field ix (record_value q (r + 1 + j) 0)) (record_value q r 0)) (others j g));
      }

  pub range-right : record_kind q r ≡ 4 → wrong_range ix (range_of q r) ≡ false
  unfolding wrong_values wrong_kind
  range-right k = rw k at record-right

  pub boost-within : record_kind q r ≡ 7 → record_value q r 0 ≤ largest_boost
  unfolding wrong_values wrong_kind
  boost-within k = ltb-false largest_boost (record_value q r 0) (or_left (ltb largest_boost (record_value q r 0)) (unused_from q r 1) (rw k at record-right))

  pub record PhraseTermRight : Type 0 where
    pub leaf-present : record_value q r 0 < leaf_count ix
    pub offset-within : record_value q r 1 ≤ no_more_docs

  pub phrase-term-right : record_kind q r ≡ 9 → PhraseTermRight
  unfolding wrong_values wrong_kind
  phrase-term-right k =
      let right : (leb (leaf_count ix) (record_value q r 0) || ltb no_more_docs (record_value q r 1) || unused_from q r 2) ≡ false = rw k at record-right in
      let first = or_left (leb (leaf_count ix) (record_value q r 0) || ltb no_more_docs (record_value q r 1)) (unused_from q r 2) right in
      record {
        leaf-present = leb-false (leaf_count ix) (record_value q r 0) (or_left (leb (leaf_count ix) (record_value q r 0)) (ltb no_more_docs (record_value q r 1)) first);
        offset-within = ltb-false no_more_docs (record_value q r 1) (or_right (leb (leaf_count ix) (record_value q r 0)) (ltb no_more_docs (record_value q r 1)) first);
      }

-- ---- what the passes after 8 require
pub boosts : (ix : Index) (q : List ℕ) → wrong8 ix q ≡ false → Boosts q
boosts ix q e = record { fit = boost-within ix q e }

pub phrase-fields : (ix : Index) (q : List ℕ) → wrong8 ix q ≡ false → PhraseFields ix q
phrase-fields ix q e = record { present = λ r h k. (phrase-right ix q e r h k).field-present }
