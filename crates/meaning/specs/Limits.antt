-- Document 01, "Sizes, in order of work", and the limits that its other parts name. Assumes nothing: these are definitions.
-- A limit on a float is its bit pattern: a pattern with a set sign bit, or a NaN's, is a larger number.
use Rattle.std.specs.Prelude.{ℕ}

-- NO_MORE_DOCS (2147483647), above every document; also the largest position and offset
abbrev pub no_more_docs : ℕ
no_more_docs = 2147483647

-- N 0 to 1,048,576; 16 fields; 512 leaves; 8 columns
abbrev pub max_documents : ℕ
max_documents = 1048576

abbrev pub max_fields : ℕ
max_fields = 16

abbrev pub max_leaves : ℕ
max_leaves = 512

abbrev pub max_columns : ℕ
max_columns = 8

-- average 1 to 16,777,216, no set sign bit
abbrev pub least_average : ℕ
least_average = 0x3f80_0000

abbrev pub largest_average : ℕ
largest_average = 0x4b80_0000

-- idf 0 to 64, no set sign bit
abbrev pub largest_idf : ℕ
largest_idf = 0x4280_0000

-- frequency 1 to 16,777,216
abbrev pub largest_frequency : ℕ
largest_frequency = 16777216

-- 256 query records; depth 16, the root 1; Phrase 1 to 32 children, Boolean 0 to 64
abbrev pub max_records : ℕ
max_records = 256

abbrev pub max_depth : ℕ
max_depth = 16

abbrev pub max_phrase_terms : ℕ
max_phrase_terms = 32

abbrev pub max_clauses : ℕ
max_clauses = 64

-- boost 0 to 65,536, no set sign bit
abbrev pub largest_boost : ℕ
largest_boost = 0x4780_0000

-- k outside 1 to 1,024 is refused
abbrev pub max_hits : ℕ
max_hits = 1024

-- a node state for each record, of one fixed size of at most 32 words
abbrev pub node_state_words : ℕ
node_state_words = 32

-- 16,777,216 tokens (request 2026-02)
abbrev pub max_tokens : ℕ
max_tokens = 16777216

-- plus infinity: the largest pattern of a score that Pick takes
abbrev pub plus_infinity : ℕ
plus_infinity = 0x7f80_0000
