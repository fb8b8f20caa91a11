-- Document 01's whole case as text, from the bytes of its files, with t 10 and with t 1; a k of 0, and a run.rec of
-- another length. Computed. Assumes nothing.
use mathlib.Core.Path.{◌≡◌, refl}
use mathlib.Core.List.{List, [], ◌∷◌, ◌++◌}
use Prim.Native.Nat.{ℕ, ◌/◌, ◌%◌}
use lib.Ieee.{to_bits, round, units, odd, size, span, climb, add, mul, sum as ieee_sum, of_fields, of_bits, lt}
use Rattle.meaning.specs.Below.{any_below, count_below, list_below, last_below, largest_below, list_to}
use Rattle.meaning.specs.Live.{is_live}
use Rattle.meaning.specs.Ieee754.{narrow, sum_from, narrowed_sum, sortable_int, sortable_bits}
use Rattle.meaning.specs.Query.{has_required, decode_clauses, decode_child, decode_phrase, decode_kind, decode, decode_query, query_tree}
use Rattle.meaning.specs.Takes.{required_hold, some_prohibited, shoulds_holding, shoulds_needed, boolean_takes, takes}
use Rattle.meaning.specs.Scorer.{has_scorer}
use Rattle.meaning.specs.Cost.{least, costs_of, sum, disjunction_cost, conjunction_cost, cost}
use Rattle.meaning.specs.Score.{insert_by_cost, by_cost, required_score, must_scores, should_scores, group_score, boolean_score, score}
use Rattle.meaning.specs.FullList.{matches, full_list}
use Rattle.meaning.specs.Hits.{code, to_doc, insert_descending, descending, hits, mark}
use Rattle.meaning.specs.Refusals.{lowest}
use Rattle.meaning.specs.IndexRefusals.{wrong1, wrong_field, wrong2, wrong3, wrong_leaf, wrong4, wrong_position, wrong_positions, wrong_posting, wrong5, wrong_column, wrong6}
use Rattle.meaning.specs.QueryRefusals.{wrong_records, wrong7, unused_from, wrong_range, other_field, wrong_kind, wrong_values, wrong8, above_limit, carries_above, wrong9, wrong10}
use Rattle.meaning.specs.CallRefusals.{wrong11, states_needed, largest_in, starts_needed, range_records, ranges_needed, starts_short, work_short, wrong12_search}
use Rattle.meaning.specs.Entries.{search_refusal}
use Rattle.hits_text.specs.Text.{Files, files, file_words, longs_of, digits_to, decimal, hex_digits, hit_line, hit_lines, found_text, refused_text, taken}
use Rattle.hits.specs.Text.{search_text, files_index, hits_text}

-- the bytes of words, the lowest first
abbrev bytes_of : List ℕ → List ℕ
bytes_of [] = []
bytes_of (w ∷ ws) = w % 256 ∷ w / 256 % 256 ∷ w / 65536 % 256 ∷ w / 16777216 ∷ bytes_of ws

-- a query record with one value, the others 0
abbrev record_of : ℕ → ℕ → ℕ → ℕ → List ℕ
record_of kind occurrence children value = kind ∷ occurrence ∷ children ∷ value ∷ 0 ∷ 0 ∷ 0 ∷ 0 ∷ 0 ∷ []

-- N 4; one field of average 1; leaf 0 in documents 0, 2, 3, leaf 1 in 2; Must ConstantScore(leaf 0), Should Boost 2 of
-- ConstantScore(leaf 1)
abbrev case_of : ℕ → ℕ → Files
case_of k t =
    files (bytes_of (4 ∷ k ∷ t ∷ []))
    (bytes_of (0x3f80_0000 ∷ 0 ∷ 0 ∷ []))
    (bytes_of (0 ∷ 0 ∷ 3 ∷ 0x3f80_0000 ∷ 0 ∷ 3 ∷ 1 ∷ 0x3f80_0000 ∷ []))
    (bytes_of (0 ∷ 1 ∷ 0 ∷ 2 ∷ 1 ∷ 0 ∷ 3 ∷ 1 ∷ 0 ∷ 2 ∷ 1 ∷ 0 ∷ []))
    []
    []
    []
    []
    []
    (bytes_of (record_of 3 0 2 0 ++ (record_of 6 1 1 0 ++ (record_of 1 0 0 0 ++ (record_of 7 2 1 0x4000_0000 ++ (record_of 6 0 1 0 ++ record_of 1 0 0 1))))))

-- the rows' names
pub data Example : Type 0 where
  whole_text marked_text no_k short_run : Example

-- a row: what the definition gives, and the text
pub record Row : Type 0 where
  pub computed : List ℕ
  pub expected : List ℕ

unfoldable pub table : Example → Row
-- count 3, 2 40400000, 0 3f800000
table whole_text = record { computed = hits_text (case_of 2 10); expected = 99 ∷ 111 ∷ 117 ∷ 110 ∷ 116 ∷ 32 ∷ 51 ∷ 10 ∷ 50 ∷ 32 ∷ 52 ∷ 48 ∷ 52 ∷ 48 ∷ 48 ∷ 48 ∷ 48 ∷ 48 ∷ 10 ∷ 48 ∷ 32 ∷ 51 ∷ 102 ∷ 56 ∷ 48 ∷ 48 ∷ 48 ∷ 48 ∷ 48 ∷ 10 ∷ [] }
-- count 3+
table marked_text = record { computed = hits_text (case_of 2 1); expected = 99 ∷ 111 ∷ 117 ∷ 110 ∷ 116 ∷ 32 ∷ 51 ∷ 43 ∷ 10 ∷ 50 ∷ 32 ∷ 52 ∷ 48 ∷ 52 ∷ 48 ∷ 48 ∷ 48 ∷ 48 ∷ 48 ∷ 10 ∷ 48 ∷ 32 ∷ 51 ∷ 102 ∷ 56 ∷ 48 ∷ 48 ∷ 48 ∷ 48 ∷ 48 ∷ 10 ∷ [] }
-- refused 11
table no_k = record { computed = hits_text (case_of 0 10); expected = 114 ∷ 101 ∷ 102 ∷ 117 ∷ 115 ∷ 101 ∷ 100 ∷ 32 ∷ 49 ∷ 49 ∷ 10 ∷ [] }
-- refused 0
table short_run = record { computed = hits_text (files [] [] [] [] [] [] [] [] [] []); expected = 114 ∷ 101 ∷ 102 ∷ 117 ∷ 115 ∷ 101 ∷ 100 ∷ 32 ∷ 48 ∷ 10 ∷ [] }

-- every row gives what it says
pub table-holds : (e : Example) → (table e).computed ≡ (table e).expected
unfolding table file_words longs_of digits_to decimal hex_digits hit_line hit_lines found_text refused_text search_text taken files_index hits_text to_bits round units odd size span climb add mul ieee_sum of_fields of_bits lt any_below count_below list_below last_below largest_below list_to is_live narrow sum_from narrowed_sum sortable_int sortable_bits has_required decode_clauses decode_child decode_phrase decode_kind decode decode_query query_tree required_hold some_prohibited shoulds_holding shoulds_needed boolean_takes takes has_scorer least costs_of sum disjunction_cost conjunction_cost cost insert_by_cost by_cost required_score must_scores should_scores group_score boolean_score score matches full_list code to_doc insert_descending descending hits mark lowest wrong1 wrong_field wrong2 wrong3 wrong_leaf wrong4 wrong_position wrong_positions wrong_posting wrong5 wrong_column wrong6 wrong_records wrong7 unused_from wrong_range other_field wrong_kind wrong_values wrong8 above_limit carries_above wrong9 wrong10 wrong11 states_needed largest_in starts_needed range_records ranges_needed starts_short work_short wrong12_search search_refusal
table-holds whole_text = refl
table-holds marked_text = refl
table-holds no_k = refl
table-holds short_run = refl
