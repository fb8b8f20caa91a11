-- What an accepted index is known to hold: what the crates above lean on, where none of 1 to 6 holds.
-- Assumes nothing: these are definitions.
use Rattle.std.specs.Prelude.{◌≡◌, true, false, ℕ, ◌+◌, ◌*◌, ◌/◌, ◌≤◌, ◌<◌, length}
use Rattle.meaning.specs.Below.{count_below}
use Rattle.index.specs.declared.columns.TheConstants.{VALUE_WORDS, HIGH}
use Rattle.index.specs.declared.fields.TheConstants.{FIELD_WORDS}
use Rattle.index.specs.declared.leaves.TheConstants.{LEAF_WORDS}
use Rattle.index.specs.declared.postings.TheConstants.{POSTING_WORDS}
use Rattle.meaning.specs.Limits.{no_more_docs, max_documents, max_fields, max_leaves, max_columns, least_average, largest_average, largest_idf, largest_frequency}
use Rattle.meaning.specs.Lent.{Index, field_count, field_average, field_norms, field_positions, has_norms, has_positions, leaf_count, leaf_field, leaf_first, leaf_number, leaf_idf, posting_count, leaf_document, leaf_frequency, leaf_positions_index, leaf_position, column_count, column_type, value_present}

-- field f: its average as a pattern, and its flags
pub record FieldOk (ix : Index) (f : ℕ) : Type 0 where
  pub least : least_average ≤ field_average ix f
  pub largest : field_average ix f ≤ largest_average
  pub norms : field_norms ix f ≤ 1
  pub positions : field_positions ix f ≤ 1

-- leaf l: its field is there, its run lies within the postings, its idf as a pattern
pub record LeafOk (ix : Index) (l : ℕ) : Type 0 where
  pub field : leaf_field ix l < field_count ix
  pub run : leaf_first ix l + leaf_number ix l ≤ posting_count ix
  pub words : POSTING_WORDS * (leaf_first ix l + leaf_number ix l) ≤ length ix.postings
  pub idf : leaf_idf ix l ≤ largest_idf

-- posting i of leaf l: its document, frequency and positions
pub record PostingOk (ix : Index) (l i : ℕ) : Type 0 where
  pub document : leaf_document ix l i < ix.max_doc
  pub some : 1 ≤ leaf_frequency ix l i
  pub most : leaf_frequency ix l i ≤ largest_frequency
  pub places : has_positions ix (leaf_field ix l) ≡ true
      → leaf_positions_index ix l i + leaf_frequency ix l i ≤ length ix.positions
  pub rising : has_positions ix (leaf_field ix l) ≡ true → (j k : ℕ) → j ≤ k → k < leaf_frequency ix l i
      → leaf_position ix l i j ≤ leaf_position ix l i k
  pub small : has_positions ix (leaf_field ix l) ≡ true → (j : ℕ) → j < leaf_frequency ix l i
      → leaf_position ix l i j ≤ no_more_docs
  pub no_index : has_positions ix (leaf_field ix l) ≡ false → leaf_positions_index ix l i ≡ 0

-- the documents of leaf l's run ascend
abbrev pub RunAscends : Index → ℕ → Type 0
RunAscends ix l = (i j : ℕ) → i < j → j < leaf_number ix l → leaf_document ix l i < leaf_document ix l j

-- column c: its type, and its N values within the words
pub record ColumnOk (ix : Index) (c : ℕ) : Type 0 where
  pub type : column_type ix c ≤ 1
  pub words : (d : ℕ) → d < ix.max_doc → VALUE_WORDS * (c * ix.max_doc + d) + HIGH < length ix.values
  pub present : (d : ℕ) → d < ix.max_doc → value_present ix c d ≤ 1

pub record Accepted (ix : Index) : Type 0 where
  pub documents : ix.max_doc ≤ max_documents
  pub few_fields : field_count ix ≤ max_fields
  pub whole_fields : length ix.fields ≡ FIELD_WORDS * field_count ix
  pub field : (f : ℕ) → f < field_count ix → FieldOk ix f
  pub norm_bytes : length ix.norms ≡ count_below (field_count ix) (has_norms ix) * ix.max_doc
  pub norm_byte : (f d : ℕ) → f < field_count ix → has_norms ix f ≡ true → d < ix.max_doc
      → count_below f (has_norms ix) * ix.max_doc + d < length ix.norms
  pub live_words : 0 < length ix.live → length ix.live ≡ (ix.max_doc + 63) / 64
  pub live_bit : 0 < length ix.live → (d : ℕ) → d < ix.max_doc → d < 64 * length ix.live
  pub few_leaves : leaf_count ix ≤ max_leaves
  pub whole_leaves : length ix.leaves ≡ LEAF_WORDS * leaf_count ix
  pub leaf : (l : ℕ) → l < leaf_count ix → LeafOk ix l
  pub whole_postings : length ix.postings ≡ POSTING_WORDS * posting_count ix
  pub posting : (l i : ℕ) → l < leaf_count ix → i < leaf_number ix l → PostingOk ix l i
  pub ascending : (l : ℕ) → l < leaf_count ix → RunAscends ix l
  pub few_columns : column_count ix ≤ max_columns
  pub whole_values : length ix.values ≡ VALUE_WORDS * (column_count ix * ix.max_doc)
  pub column : (c : ℕ) → c < column_count ix → ColumnOk ix c
