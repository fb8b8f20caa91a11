-- Document 01, "What a caller lends": the index as lists of words, and what each word of a record says.
-- In this crate only the accessors here know the order of a record's words; the specs of the crates that read records say it again for slices. Assumes nothing: these are definitions.
use Rattle.std.specs.Prelude.{Bool, cond, List, ℕ, ◌+◌, ◌*◌, ◌/◌, ◌^◌, eqb, length, get_or}
use Rattle.meaning.specs.Below.{count_below}

-- N and the eight slices that are lent; the norms are bytes, the live words 64 bits wide, the others 32
pub record Index : Type 0 where
  pub max_doc : ℕ
  pub fields : List ℕ
  pub leaves : List ℕ
  pub postings : List ℕ
  pub positions : List ℕ
  pub norms : List ℕ
  pub live : List ℕ
  pub columns : List ℕ
  pub values : List ℕ

-- a 64-bit pattern from its low and its high half
abbrev pub joined : ℕ → ℕ → ℕ
joined low high = low + high * 2 ^ 32

-- ---- Field, 3 words: average length as f32 bits, norms 0 or 1, positions 0 or 1
abbrev pub field_count : Index → ℕ
field_count ix = length ix.fields / 3

abbrev pub field_average : Index → ℕ → ℕ
field_average ix f = get_or ix.fields (3 * f) 0

abbrev pub field_norms : Index → ℕ → ℕ
field_norms ix f = get_or ix.fields (3 * f + 1) 0

abbrev pub field_positions : Index → ℕ → ℕ
field_positions ix f = get_or ix.fields (3 * f + 2) 0

abbrev pub has_norms : Index → ℕ → Bool
has_norms ix f = eqb (field_norms ix f) 1

abbrev pub has_positions : Index → ℕ → Bool
has_positions ix f = eqb (field_positions ix f) 1

-- ---- Leaf (a term), 4: field, first posting, number of postings, idf as f32 bits
abbrev pub leaf_count : Index → ℕ
leaf_count ix = length ix.leaves / 4

abbrev pub leaf_field : Index → ℕ → ℕ
leaf_field ix l = get_or ix.leaves (4 * l) 0

abbrev pub leaf_first : Index → ℕ → ℕ
leaf_first ix l = get_or ix.leaves (4 * l + 1) 0

abbrev pub leaf_number : Index → ℕ → ℕ
leaf_number ix l = get_or ix.leaves (4 * l + 2) 0

abbrev pub leaf_idf : Index → ℕ → ℕ
leaf_idf ix l = get_or ix.leaves (4 * l + 3) 0

-- ---- Posting, 3: document, frequency, index of its first position; asked of the i-th posting of a leaf
abbrev pub posting_count : Index → ℕ
posting_count ix = length ix.postings / 3

abbrev pub leaf_document : Index → ℕ → ℕ → ℕ
leaf_document ix l i = get_or ix.postings (3 * (leaf_first ix l + i)) 0

abbrev pub leaf_frequency : Index → ℕ → ℕ → ℕ
leaf_frequency ix l i = get_or ix.postings (3 * (leaf_first ix l + i) + 1) 0

abbrev pub leaf_positions_index : Index → ℕ → ℕ → ℕ
leaf_positions_index ix l i = get_or ix.postings (3 * (leaf_first ix l + i) + 2) 0

-- its positions are the next "frequency" entries of the position words
abbrev pub leaf_position : Index → ℕ → ℕ → ℕ → ℕ
leaf_position ix l i j = get_or ix.positions (leaf_positions_index ix l i + j) 0

-- ---- Column, 1: 0 for i64 values, 1 for f64
abbrev pub column_count : Index → ℕ
column_count ix = length ix.columns

abbrev pub column_type : Index → ℕ → ℕ
column_type ix c = get_or ix.columns c 0

-- ---- Value, 3: present 0 or 1, low half, high half; N for each column, in document order
abbrev pub value_present : Index → ℕ → ℕ → ℕ
value_present ix c d = get_or ix.values (3 * (c * ix.max_doc + d)) 0

abbrev pub value_bits : Index → ℕ → ℕ → ℕ
value_bits ix c d = joined (get_or ix.values (3 * (c * ix.max_doc + d) + 1) 0) (get_or ix.values (3 * (c * ix.max_doc + d) + 2) 0)

-- ---- Norm bytes: N for each field with norms, in field order; b is 1 without norms
abbrev pub norm_byte : Index → ℕ → ℕ → ℕ
norm_byte ix f d = cond (has_norms ix f) (get_or ix.norms (count_below f (has_norms ix) * ix.max_doc + d) 0) 1
