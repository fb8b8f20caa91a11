-- The words of a posting and of a leaf in the slices that hold them. Assumes nothing: these are definitions.
use Rattle.std.specs.Prelude.{List, ℕ, ◌+◌, ◌*◌, ◌/◌, length, get_or}
use Rattle.index.specs.declared.leaves.TheConstants.{LEAF_WORDS}
use Rattle.index.specs.declared.postings.TheConstants.{POSTING_WORDS, FREQUENCY, POSITIONS}

-- ---- the i-th posting record at or after record first: document, frequency, index of the first position
abbrev pub posting_document : List ℕ → ℕ → ℕ → ℕ
posting_document ps first i = get_or ps (POSTING_WORDS * (first + i)) 0

abbrev pub posting_frequency : List ℕ → ℕ → ℕ → ℕ
posting_frequency ps first i = get_or ps (POSTING_WORDS * (first + i) + FREQUENCY) 0

abbrev pub posting_index : List ℕ → ℕ → ℕ → ℕ
posting_index ps first i = get_or ps (POSTING_WORDS * (first + i) + POSITIONS) 0

-- ---- a slice that is one run: how many whole records it has, and the same of its i-th record
abbrev pub run_length : List ℕ → ℕ
run_length run = length run / POSTING_WORDS

abbrev pub run_document : List ℕ → ℕ → ℕ
run_document run i = get_or run (POSTING_WORDS * i) 0

abbrev pub run_frequency : List ℕ → ℕ → ℕ
run_frequency run i = get_or run (POSTING_WORDS * i + FREQUENCY) 0

abbrev pub run_index : List ℕ → ℕ → ℕ
run_index run i = get_or run (POSTING_WORDS * i + POSITIONS) 0

-- ---- leaf l of leaf words: field, first posting, number of postings, idf
abbrev pub leaf_words_field : List ℕ → ℕ → ℕ
leaf_words_field leaves l = get_or leaves (LEAF_WORDS * l) 0

abbrev pub leaf_words_first : List ℕ → ℕ → ℕ
leaf_words_first leaves l = get_or leaves (LEAF_WORDS * l + 1) 0

abbrev pub leaf_words_number : List ℕ → ℕ → ℕ
leaf_words_number leaves l = get_or leaves (LEAF_WORDS * l + 2) 0

abbrev pub leaf_words_idf : List ℕ → ℕ → ℕ
leaf_words_idf leaves l = get_or leaves (LEAF_WORDS * l + 3) 0
