-- Document 01, "Who causes which refusal": the caller's numbers, 11 to 14. None has to make sense where a lower one holds.
-- Assumes nothing: these are definitions.
use Rattle.std.specs.Prelude.{Bool, not, cond, ◌&&◌, ◌||◌, List, ℕ, ◌+◌, ◌-◌, ◌*◌, eqb, leb, ltb, length, get_or}
use Rattle.meaning.specs.Below.{any_below, count_below, largest_below}
use Rattle.meaning.specs.Limits.{no_more_docs, max_hits, node_state_words, plus_infinity}
use Rattle.meaning.specs.Lent.{Index, leaf_number, leaf_frequency}
use Rattle.meaning.specs.Query.{record_count, record_kind, record_value}

-- 11, "k outside 1 to 1,024"
unfoldable pub wrong11 : ℕ → Bool
wrong11 k = ltb k 1 || ltb max_hits k

-- ---- "Buffers": what a query needs
-- the lengths of the work buffers that are lent: node states, two phrase buffers, the range buffer
pub record Work : Type 0 where
  pub states : ℕ
  pub starts : ℕ
  pub other_starts : ℕ
  pub ranges : ℕ

-- "a node state for each record, of one fixed size"
unfoldable pub states_needed : List ℕ → ℕ
states_needed q = node_state_words * record_count q

-- the largest frequency in a leaf's run
unfoldable pub largest_in : Index → ℕ → ℕ
largest_in ix l = largest_below (leaf_number ix l) (leaf_frequency ix l)

-- "two phrase buffers of the largest frequency in a phrase leaf"
unfoldable pub starts_needed : Index → List ℕ → ℕ
starts_needed ix q = largest_below (record_count q) (λ r. cond (eqb (record_kind q r) 9) (largest_in ix (record_value q r 0)) 0)

-- how many Range records the query has
unfoldable pub range_records : List ℕ → ℕ
range_records q = count_below (record_count q) (λ r. eqb (record_kind q r) 4)

-- "with range records, N × (their number + 1) words"
unfoldable pub ranges_needed : Index → List ℕ → ℕ
ranges_needed ix q = cond (eqb (range_records q) 0) 0 (ix.max_doc * (range_records q + 1))

-- a phrase buffer too short
unfoldable pub starts_short : Index → List ℕ → Work → Bool
starts_short ix q w = ltb w.starts (starts_needed ix q) || ltb w.other_starts (starts_needed ix q)

-- a work buffer too short
unfoldable pub work_short : Index → List ℕ → Work → Bool
work_short ix q w = ltb w.states (states_needed q) || starts_short ix q w || ltb w.ranges (ranges_needed ix q)

-- ---- 12, "a buffer too short or page outputs unequal"
-- of Search, whose hits buffer has so many places: "k hits"
unfoldable pub wrong12_search : Index → List ℕ → Work → ℕ → ℕ → Bool
wrong12_search ix q w k places = work_short ix q w || ltb places k

-- of Page, whose outputs have these lengths
unfoldable pub wrong12_page : Index → List ℕ → Work → ℕ → ℕ → Bool
wrong12_page ix q w documents scores = work_short ix q w || not (eqb documents scores)

-- of Pick
unfoldable pub wrong12_pick : ℕ → ℕ → Bool
wrong12_pick k places = ltb places k

-- "(the Range entry: N for work, N for output)"
unfoldable pub wrong12_range : Index → ℕ → ℕ → Bool
wrong12_range ix work output = ltb work ix.max_doc || ltb output ix.max_doc

-- ---- 13
-- "a target below 0 or above N"; a target is lent as a word, and so never below 0
unfoldable pub wrong13_page : Index → ℕ → Bool
wrong13_page ix target = ltb ix.max_doc target

-- "a document not below N, a record number naming no phrase"
unfoldable pub wrong13_place : Index → List ℕ → ℕ → ℕ → Bool
wrong13_place ix q r d = leb ix.max_doc d || leb (record_count q) r || not (eqb (record_kind q r) 2)

-- ---- 14
-- "documents not each above the one before or above 2147483646, a score NaN, negative or minus zero": the i-th
unfoldable pub wrong_picked : List ℕ → List ℕ → ℕ → Bool
wrong_picked documents scores i =
    (ltb 0 i && leb (get_or documents i 0) (get_or documents (i - 1) 0)) || leb no_more_docs (get_or documents i 0) || ltb plus_infinity (get_or scores i 0)

-- "picked lists unequal, .."
unfoldable pub wrong14 : List ℕ → List ℕ → Bool
wrong14 documents scores = not (eqb (length documents) (length scores)) || any_below (length documents) (wrong_picked documents scores)
