-- What is known where one of 1 to 4 or 6 does not hold. Assumes nothing.
use mathlib.Core.Path.{◌≡◌}
use mathlib.Core.Bool.{Bool, false, ◌||◌}
use Prim.Native.Nat.{ℕ, ◌+◌, ◌%◌, ◌≤◌, ◌<◌}
use native.Mathlib.Omega.{arith}
use lib.Dec.{ltb, leb}
use lib.ListN.{length}
use borrow.Author.Tests.{ltb-false, leb-false, eqb-true, not-false}
use Rattle.meaning.specs.Below.{any_below}
use Rattle.meaning.specs.Limits.{max_documents, max_fields, max_leaves, least_average, largest_average, largest_idf}
use Rattle.meaning.specs.Lent.{Index, field_count, field_average, field_norms, field_positions, leaf_count, leaf_field, leaf_first, leaf_number, leaf_idf, posting_count}
use Rattle.meaning.specs.IndexRefusals.{not_whole, wrong1, wrong2, wrong_field, wrong4, wrong_leaf}
use Rattle.index.specs.Accepted.{FieldOk, LeafOk}
use Rattle.meaning.proofs.Tests.{or-3, or-4}
use Rattle.meaning.proofs.Below.{none_below}

pub documents-few : (ix : Index) → wrong1 ix ≡ false → ix.max_doc ≤ max_documents
unfolding wrong1
documents-few ix e = ltb-false _ _ e

pub whole_words : (n size : ℕ) → not_whole n size ≡ false → n % size ≡ 0
whole_words n size e = eqb-true _ _ (not-false _ e)

-- records of which it is known that they are whole, not too many, and none of them wrong
module _ (words size count most : ℕ) (wrong : ℕ → Bool) (e : (not_whole words size || ltb most count || any_below count wrong) ≡ false) where
  records-right : (not_whole words size ≡ false) × (ltb most count ≡ false) × (any_below count wrong ≡ false)
  records-right = or-3 (not_whole words size) (ltb most count) (any_below count wrong) e

  pub record-right : (words % size ≡ 0) × (count ≤ most) × ((i : ℕ) → i < count → wrong i ≡ false)
  record-right = (whole_words _ _ records-right.0, ltb-false _ _ records-right.1, none_below _ _ records-right.2)

module _ (ix : Index) (e : wrong2 ix ≡ false) where
  fields-right : (length ix.fields % 3 ≡ 0) × (field_count ix ≤ max_fields) × ((f : ℕ) → f < field_count ix → wrong_field ix f ≡ false)
  unfolding wrong2
  fields-right = record-right (length ix.fields) 3 (field_count ix) max_fields (wrong_field ix) e

  pub fields-whole : length ix.fields % 3 ≡ 0
  fields-whole = fields-right.0

  pub fields-few : field_count ix ≤ max_fields
  fields-few = fields-right.1

  pub field-ok : (f : ℕ) → f < field_count ix → FieldOk ix f
  unfolding wrong_field
  field-ok f l =
      let h = or-4 (ltb (field_average ix f) least_average) (ltb largest_average (field_average ix f)) (ltb 1 (field_norms ix f)) (ltb 1 (field_positions ix f)) (fields-right.2 f l) in
      record { least = ltb-false _ _ h.0; largest = ltb-false _ _ h.1; norms = ltb-false _ _ h.2; positions = ltb-false _ _ h.3 }

module _ (ix : Index) (e : wrong4 ix ≡ false) where
  leaves-right : (length ix.leaves % 4 ≡ 0) × (leaf_count ix ≤ max_leaves) × ((l : ℕ) → l < leaf_count ix → wrong_leaf ix l ≡ false)
  unfolding wrong4
  leaves-right = record-right (length ix.leaves) 4 (leaf_count ix) max_leaves (wrong_leaf ix) e

  pub leaves-whole : length ix.leaves % 4 ≡ 0
  leaves-whole = leaves-right.0

  pub leaves-few : leaf_count ix ≤ max_leaves
  leaves-few = leaves-right.1

  pub leaf-ok : (l : ℕ) → l < leaf_count ix → LeafOk ix l
  unfolding wrong_leaf
  leaf-ok l g =
      let h = or-3 (leb (field_count ix) (leaf_field ix l)) (ltb (posting_count ix) (leaf_first ix l + leaf_number ix l)) (ltb largest_idf (leaf_idf ix l)) (leaves-right.2 l g) in
      let r : leaf_first ix l + leaf_number ix l ≤ posting_count ix = ltb-false _ _ h.1 in
      record { field = leb-false _ _ h.0; run = r; words = omega arith; idf = ltb-false _ _ h.2 }
