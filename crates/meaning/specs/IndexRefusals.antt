-- Document 01, "Who causes which refusal": the loader's numbers, 1 to 6. None has to make sense where a lower one holds.
-- Assumes nothing: these are definitions.
use Rattle.std.specs.Prelude.{Bool, not, cond, ◌&&◌, ◌||◌, ℕ, ◌+◌, ◌-◌, ◌*◌, ◌/◌, ◌%◌, eqb, leb, ltb, length}
use Rattle.meaning.specs.Below.{any_below, count_below}
use Rattle.meaning.specs.Limits.{no_more_docs, max_documents, max_fields, max_leaves, max_columns, least_average, largest_average, largest_idf, largest_frequency}
use Rattle.meaning.specs.Lent.{Index, field_count, field_average, field_norms, field_positions, has_norms, has_positions, leaf_count, leaf_field, leaf_first, leaf_number, leaf_idf, posting_count, leaf_document, leaf_frequency, leaf_positions_index, leaf_position, column_count, column_type, value_present}

-- words that are not whole records of a size
abbrev pub not_whole : ℕ → ℕ → Bool
not_whole words size = not (eqb (words % size) 0)

-- 1, "N above the limit"
unfoldable pub wrong1 : Index → Bool
wrong1 ix = ltb max_documents ix.max_doc

-- "an average or flag outside its values"
unfoldable pub wrong_field : Index → ℕ → Bool
wrong_field ix f = ltb (field_average ix f) least_average || ltb largest_average (field_average ix f) || ltb 1 (field_norms ix f) || ltb 1 (field_positions ix f)

-- 2, "field records not whole, too many, or .."
unfoldable pub wrong2 : Index → Bool
wrong2 ix = not_whole (length ix.fields) 3 || ltb max_fields (field_count ix) || any_below (field_count ix) (wrong_field ix)

-- 3, "wrong length of norms or live words (0 or N ÷ 64 rounded up)"
unfoldable pub wrong3 : Index → Bool
wrong3 ix =
    not (eqb (length ix.norms) (count_below (field_count ix) (has_norms ix) * ix.max_doc)) || not (eqb (length ix.live) 0 || eqb (length ix.live) ((ix.max_doc + 63) / 64))

-- "field absent, first posting + number above the postings' count, or idf outside"
unfoldable pub wrong_leaf : Index → ℕ → Bool
wrong_leaf ix l = leb (field_count ix) (leaf_field ix l) || ltb (posting_count ix) (leaf_first ix l + leaf_number ix l) || ltb largest_idf (leaf_idf ix l)

-- 4, "leaf records not whole, too many, .."
unfoldable pub wrong4 : Index → Bool
wrong4 ix = not_whole (length ix.leaves) 4 || ltb max_leaves (leaf_count ix) || any_below (leaf_count ix) (wrong_leaf ix)

-- "falling, or above 2147483647": the j-th position of the i-th posting of a leaf
unfoldable pub wrong_position : Index → ℕ → ℕ → ℕ → Bool
wrong_position ix l i j = ltb no_more_docs (leaf_position ix l i j) || (ltb 0 j && ltb (leaf_position ix l i j) (leaf_position ix l i (j - 1)))

-- "positions past the slice, ..", and in a field without positions "an index not 0"
unfoldable pub wrong_positions : Index → ℕ → ℕ → Bool
wrong_positions ix l i =
    cond (has_positions ix (leaf_field ix l)) (ltb (length ix.positions) (leaf_positions_index ix l i + leaf_frequency ix l i) || any_below (leaf_frequency ix l i) (wrong_position ix l i)) (not (eqb (leaf_positions_index ix l i) 0))

-- "a document not below N or not above the one before, a frequency outside, .."
unfoldable pub wrong_posting : Index → ℕ → ℕ → Bool
wrong_posting ix l i =
    leb ix.max_doc (leaf_document ix l i) || (ltb 0 i && leb (leaf_document ix l i) (leaf_document ix l (i - 1))) || eqb (leaf_frequency ix l i) 0 || ltb largest_frequency (leaf_frequency ix l i) || wrong_positions ix l i

-- 5, "posting words not whole, or in a leaf's run .."
unfoldable pub wrong5 : Index → Bool
wrong5 ix = not_whole (length ix.postings) 3 || any_below (leaf_count ix) (λ l. any_below (leaf_number ix l) (wrong_posting ix l))

-- "a flag outside its values": a column's, or one of its values'
unfoldable pub wrong_column : Index → ℕ → Bool
wrong_column ix c = ltb 1 (column_type ix c) || any_below ix.max_doc (λ d. ltb 1 (value_present ix c d))

-- 6, "column or value records of wrong length, too many columns, or .."
unfoldable pub wrong6 : Index → Bool
wrong6 ix =
    ltb max_columns (column_count ix) || not (eqb (length ix.values) (3 * (column_count ix * ix.max_doc))) || any_below (column_count ix) (wrong_column ix)
