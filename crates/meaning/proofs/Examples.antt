-- Document 01's examples marked P, its whole case, one input for each refusal, request 2026-03's examples, and two rows
-- that tell the order and format of a Boolean's additions apart: one table, computed. Assumes nothing.
use mathlib.Core.Path.{◌≡◌, refl}
use mathlib.Core.List.{List, [], ◌∷◌, ◌++◌, map}
use Prim.Native.Nat.{ℕ, ◌*◌, ◌/◌, ◌%◌, ◌^◌}
use lib.IntN.{ℤ, pos, negsuc}
use lib.ListN.{take, drop, get_or}
use lib.Ieee.{binary32, to_bits, round, units, odd, size, span, climb, add, sub, mul, div, neg, sum as ieee_sum, of_fields, of_bits, of_int, nan_bits, lt, to_unsigned}
use lib.Count.{count_trailing_zeros}
use Rattle.meaning.specs.Below.{any_below, count_below, list_below, last_below, largest_below, list_to}
use Rattle.meaning.specs.Limits.{node_state_words}
use Rattle.meaning.specs.Lent.{Index}
use Rattle.meaning.specs.Live.{is_live}
use Rattle.meaning.specs.Ieee754.{narrow, sum_from, narrowed_sum, total_below, sortable_int, sortable_bits}
use Rattle.meaning.specs.SmallFloat.{long_to_int4, int4_to_long, max_int4, num_free_values, byte4_to_int}
use Rattle.meaning.specs.Bm25.{length_of}
use Rattle.meaning.specs.Range.{NumericRange, i64_of, value_below, at_lower, at_upper, in_range, range_documents}
use Rattle.meaning.specs.Phrase.{PhraseTerm, starts, term_starts, multiplicity, smallest, distinct, sum_smallest, common_size, phrase_frequency}
use Rattle.meaning.specs.Query.{must, should, must_not, filter, Tree, term, boolean, constant_score, boost, Clauses, empty, clause, has_required, decode_clauses, decode_child, decode_phrase, decode_kind, decode, decode_query, query_tree}
use Rattle.meaning.specs.Takes.{required_hold, some_prohibited, shoulds_holding, shoulds_needed, boolean_takes, takes}
use Rattle.meaning.specs.Scorer.{all_have_postings, has_scorer}
use Rattle.meaning.specs.Cost.{least, costs_of, sum, disjunction_cost, conjunction_cost, cost}
use Rattle.meaning.specs.Score.{field_score, term_score, phrase_idf, phrase_score, insert_by_cost, by_cost, required_score, must_scores, should_scores, group_score, boolean_score, score}
use Rattle.meaning.specs.FullList.{matches, full_list}
use Rattle.meaning.specs.Hits.{code, to_doc, to_score, insert_descending, descending, hits, mark}
use Rattle.meaning.specs.Pages.{from_target, first_doc, page}
use Rattle.meaning.specs.Refusals.{lowest}
use Rattle.meaning.specs.IndexRefusals.{wrong1, wrong_field, wrong2, wrong3, wrong_leaf, wrong4, wrong_position, wrong_positions, wrong_posting, wrong5, wrong_column, wrong6}
use Rattle.meaning.specs.QueryRefusals.{wrong_records, wrong7, unused_from, wrong_range, other_field, wrong_kind, wrong_values, wrong8, above_limit, carries_above, wrong9, wrong10}
use Rattle.meaning.specs.CallRefusals.{Work, wrong11, states_needed, largest_in, starts_needed, range_records, ranges_needed, starts_short, work_short, wrong12_search, wrong12_page, wrong12_pick, wrong13_page, wrong_picked, wrong14}
use Rattle.meaning.specs.Entries.{columns_only, search_refusal, search_answer, search_hits, page_refusal, page_answer, pick_refusal, picked_list, pick_answer, pick_hits, length_answer}

-- a row: what a definition gives, and what document 01 says
pub record Row : Type 0 where
  pub computed : List ℤ
  pub expected : List ℤ

abbrev pub ◌gives◌ : List ℕ → List ℕ → Row
xs gives ys = record { computed = map pos xs; expected = map pos ys }

infix 20 ◌gives◌
-- the documents and the scores' bits of the full list
abbrev documents_of : Index → Tree → List ℕ
documents_of ix t = map (λ h. h.doc) (full_list ix t)

abbrev scores_of : Index → Tree → List ℕ
scores_of ix t = map (λ h. to_bits binary32 h.score) (full_list ix t)

-- ---- the pieces of an index: one field of average 1, without norms or positions
abbrev field : List ℕ
field = 0x3f80_0000 ∷ 0 ∷ 0 ∷ []

-- a leaf of field 0, idf 1, and a posting of frequency 1
abbrev leaf : ℕ → ℕ → List ℕ
leaf first number = 0 ∷ first ∷ number ∷ 0x3f80_0000 ∷ []

abbrev posting : ℕ → List ℕ
posting d = d ∷ 1 ∷ 0 ∷ []

-- an index of N documents with these fields, leaves and postings, and nothing else
abbrev index_of : ℕ → List ℕ → List ℕ → List ℕ → Index
index_of n fields leaves postings =
    record { max_doc = n; fields = fields; leaves = leaves; postings = postings; positions = []; norms = []; live = []; columns = []; values = [] }

-- ---- "A is {1,4,6}, B {4,6}, C {1,7}"
abbrev lots : Index
lots =
    index_of 8 field (leaf 0 3 ++ (leaf 3 2 ++ leaf 5 2)) (posting 1 ++ (posting 4 ++ (posting 6 ++ (posting 4 ++ (posting 6 ++ (posting 1 ++ posting 7))))))

abbrev a : Tree
a = term 0

abbrev b : Tree
b = term 1

abbrev c : Tree
c = term 2

abbrev shoulds : Clauses
shoulds = clause should a (clause should b (clause should c empty))

abbrev must_should : Clauses
must_should = clause must a (clause should b empty)

-- positions {0,5,5} and {6,6,9} of two leaves in document 0; a third leaf at position 0
abbrev words : Index
words =
    record {
      max_doc = 1;
      fields = 0x3f80_0000 ∷ 0 ∷ 1 ∷ [];
      leaves = leaf 0 1 ++ (leaf 1 1 ++ leaf 2 1);
      postings = 0 ∷ 3 ∷ 0 ∷ 0 ∷ 3 ∷ 3 ∷ 0 ∷ 1 ∷ 6 ∷ [];
      positions = 0 ∷ 5 ∷ 5 ∷ 6 ∷ 6 ∷ 9 ∷ 0 ∷ [];
      norms = [];
      live = [];
      columns = [];
      values = [];
    }

-- the term of a leaf at an offset
abbrev at : ℕ → ℕ → PhraseTerm
at l o = record { leaf = l; offset = o }

-- values 17, 18, 18, absent
abbrev microns : Index
microns = columns_only 4 (0 ∷ []) (1 ∷ 17 ∷ 0 ∷ 1 ∷ 18 ∷ 0 ∷ 1 ∷ 18 ∷ 0 ∷ 0 ∷ 0 ∷ 0 ∷ [])

abbrev ends : ℕ → ℕ → ℕ → NumericRange
ends kinds low high = record { column = 0; kinds = kinds; lower = low; upper = high }

-- ---- request 2026-03: readings that failed
-- a present value
abbrev value : ℕ → List ℕ
value bits = 1 ∷ bits % 2 ^ 32 ∷ bits / 2 ^ 32 ∷ []

-- 17.5, two NaNs, both infinities, 18, and an absent value with the halves of a NaN; as i64 or f64
abbrev readings : ℕ → Index
readings type =
    columns_only 7 (type ∷ [])
    (value 0x4031_8000_0000_0000 ++ (value 0x7ff8_0000_0000_0000 ++ (value 0xfff8_0000_0000_0000 ++ (value 0x7ff0_0000_0000_0000 ++
    (value 0xfff0_0000_0000_0000 ++ (value 0x4032_0000_0000_0000 ++ (0 ∷ 0 ∷ 0x7ff8_0000 ∷ [])))))))

-- the infinities and the NaNs next to them, the last NaN of each sign, both zeros
abbrev borders : Index
borders =
    columns_only 8 (1 ∷ [])
    (value 0x7ff0_0000_0000_0000 ++ (value 0x7ff0_0000_0000_0001 ++ (value 0xfff0_0000_0000_0000 ++ (value 0xfff0_0000_0000_0001 ++
    (value 0x7fff_ffff_ffff_ffff ++ (value 0xffff_ffff_ffff_ffff ++ (value 0x8000_0000_0000_0000 ++ value 0)))))))

-- ---- rows in which the order and the format of the additions show in the last bit
-- A in document 0, B in documents 0 and 1
abbrev two : Index
two = index_of 2 field (leaf 0 1 ++ leaf 1 2) (posting 0 ++ (posting 0 ++ posting 1))

-- a constant score, as f32 bits
abbrev scored : ℕ → Tree → Tree
scored bits t = boost bits (constant_score t)

-- ---- the whole case: leaf 0 in documents 0, 2, 3, leaf 1 in 2
abbrev catalogue : Index
catalogue = index_of 4 field (leaf 0 3 ++ leaf 3 1) (posting 0 ++ (posting 2 ++ (posting 3 ++ posting 2)))

-- a query record with one value, the others 0
abbrev record_of : ℕ → ℕ → ℕ → ℕ → List ℕ
record_of kind occurrence children value = kind ∷ occurrence ∷ children ∷ value ∷ 0 ∷ 0 ∷ 0 ∷ 0 ∷ 0 ∷ []

-- Must ConstantScore(leaf 0), Should Boost 2 of ConstantScore(leaf 1)
abbrev order : List ℕ
order = record_of 3 0 2 0 ++ (record_of 6 1 1 0 ++ (record_of 1 0 0 0 ++ (record_of 7 2 1 0x4000_0000 ++ (record_of 6 0 1 0 ++ record_of 1 0 0 1))))

abbrev work : Work
work = record { states = 6 * node_state_words; starts = 0; other_starts = 0; ranges = 0 }

abbrev places : List ℤ
places = negsuc 6 ∷ negsuc 6 ∷ negsuc 6 ∷ []

-- ---- one input for each refusal
-- one lot with one word
abbrev lot : Index
lot = index_of 1 field (leaf 0 1) (posting 0)

-- MatchAll, and a search with a state for one record lent
abbrev all : List ℕ
all = record_of 5 0 0 0

abbrev one_state : Work
one_state = record { states = node_state_words; starts = 0; other_starts = 0; ranges = 0 }

abbrev searched : Index → List ℕ → List ℕ
searched ix q = search_answer ix q 1 0 one_state 1

-- the rows' names
pub data Example : Type 0 where
  lengths byte224 byte223 no_clauses only_must_not two_of_three four_of_three must_and_should must_and_one_should filter_documents filter_scores phrase_twice start_below_zero range_none range_two tie_to_the_earlier : Example
  readings_all readings_over readings_up_to readings_from_nan readings_below_nan readings_unread integers_all integers_over borders_all borders_over borders_up_to_nan : Example
  ascending_cost added_in_f64 : Example
  whole_answer whole_marked whole_documents whole_scores whole_rest : Example
  refused1 refused2 refused3 refused4 refused5 refused6 refused7 refused8 refused9 refused10 refused11 refused12 refused13 refused14 : Example

-- the table
unfoldable pub table : Example → Row
-- ---- what document 01 marks P
-- bytes 0, 23, 24, 41, 255
table lengths = map length_answer (0 ∷ 23 ∷ 24 ∷ 41 ∷ 255 ∷ []) gives (0 ∷ 23 ∷ 24 ∷ 42 ∷ 2013265944 ∷ [])
-- byte 224, and as f32; byte 223 is exact
table byte224 = length_answer 224 ∷ to_unsigned 32 (length_of 224) ∷ [] gives 134217752 ∷ 134217760 ∷ []
table byte223 = to_unsigned 32 (length_of 223) ∷ [] gives length_answer 223 ∷ []
-- Boolean without clauses, or of MustNot only
table no_clauses = documents_of lots (boolean 0 empty) gives []
table only_must_not = documents_of lots (boolean 0 (clause must_not a (clause must_not b empty))) gives []
-- Should A, B, C, msm 2; msm 4
table two_of_three = documents_of lots (boolean 2 shoulds) gives 1 ∷ 4 ∷ 6 ∷ []
table four_of_three = documents_of lots (boolean 4 shoulds) gives []
-- Must A, Should B; with msm 1
table must_and_should = documents_of lots (boolean 0 must_should) gives 1 ∷ 4 ∷ 6 ∷ []
table must_and_one_should = documents_of lots (boolean 1 must_should) gives 4 ∷ 6 ∷ []
-- Filter A alone
table filter_documents = documents_of lots (boolean 0 (clause filter a empty)) gives 1 ∷ 4 ∷ 6 ∷ []
table filter_scores = scores_of lots (boolean 0 (clause filter a empty)) gives 0 ∷ 0 ∷ 0 ∷ []
-- positions {0,5,5} and {6,6,9}, offsets 0 and 1
table phrase_twice = phrase_frequency words (at 0 0 ∷ at 1 1 ∷ []) 0 ∷ [] gives 2 ∷ []
-- one term, position 0, offset 1
table start_below_zero = record { computed = get_or (term_starts words (at 2 1 ∷ []) 0) 0 []; expected = negsuc 0 ∷ [] }
-- 18 included to 18 excluded; 17 excluded to 18 included
table range_none = range_documents microns (ends 7 18 18) gives []
table range_two = range_documents microns (ends 5 17 18) gives 1 ∷ 2 ∷ []
-- documents 3, 5, 9, scores 1, 2, 1, k 2
table tie_to_the_earlier = map to_doc (pick_hits (3 ∷ 5 ∷ 9 ∷ []) (0x3f80_0000 ∷ 0x4000_0000 ∷ 0x3f80_0000 ∷ []) 2 (pos 0 ∷ pos 0 ∷ [])) gives 5 ∷ 3 ∷ []
-- ---- request 2026-03
-- both ends unbounded
table readings_all = range_documents (readings 1) (ends 0 0 0) gives 0 ∷ 3 ∷ 4 ∷ 5 ∷ []
-- 18 included and over
table readings_over = range_documents (readings 1) (ends 1 0x4032_0000_0000_0000 0) gives 3 ∷ 5 ∷ []
-- up to −infinity included
table readings_up_to = range_documents (readings 1) (ends 3 0 0xfff0_0000_0000_0000) gives 4 ∷ []
-- a NaN included and over
table readings_from_nan = range_documents (readings 1) (ends 1 0xfff8_0000_0000_0000 0) gives []
-- up to a NaN excluded
table readings_below_nan = range_documents (readings 1) (ends 6 0 0x7ff8_0000_0000_0000) gives []
-- unbounded ends are not looked at
table readings_unread = range_documents (readings 1) (ends 0 0x7ff8_0000_0000_0000 0xfff8_0000_0000_0000) gives 0 ∷ 3 ∷ 4 ∷ 5 ∷ []
-- the same words as i64: unbounded; 7ff0000000000000 included and over
table integers_all = range_documents (readings 0) (ends 0 0 0) gives 0 ∷ 1 ∷ 2 ∷ 3 ∷ 4 ∷ 5 ∷ []
table integers_over = range_documents (readings 0) (ends 1 0x7ff0_0000_0000_0000 0) gives 1 ∷ 3 ∷ []
-- the borders: unbounded; +0 included and over, −0 being below +0; up to a signalling NaN included
table borders_all = range_documents borders (ends 0 0 0) gives 0 ∷ 2 ∷ 6 ∷ 7 ∷ []
table borders_over = range_documents borders (ends 1 0 0) gives 0 ∷ 7 ∷ []
table borders_up_to_nan = range_documents borders (ends 3 0 0x7ff0_0000_0000_0001) gives []
-- ---- the order and the format of the additions
-- Must x·A, z·B, y·A: in ascending cost x + y + z
table ascending_cost = scores_of two (boolean 0 (clause must (scored 0x3f7f_ffff a) (clause must (scored 0x253f_ffff b) (clause must (scored 0x3400_0000 a) empty)))) gives 0x3f80_0001 ∷ []
-- Must 1, 2^-24, 2^-24: in f64 the two small ones are not lost
table added_in_f64 = scores_of two (boolean 0 (clause must (scored 0x3f80_0000 a) (clause must (scored 0x3380_0000 a) (clause must (scored 0x3380_0000 a) empty)))) gives 0x3f80_0001 ∷ []
-- ---- the whole case
-- held 2, count 3, no mark; with t 1 the mark
table whole_answer = search_answer catalogue order 2 10 work 3 gives 0 ∷ 2 ∷ 3 ∷ 0 ∷ []
table whole_marked = search_answer catalogue order 2 1 work 3 gives 0 ∷ 2 ∷ 3 ∷ 1 ∷ []
-- 2 40400000, 0 3f800000; the third place stays
table whole_documents = map to_doc (take 2 (search_hits catalogue order 2 work places)) gives 2 ∷ 0 ∷ []
table whole_scores = map (λ h. to_bits binary32 (to_score h)) (take 2 (search_hits catalogue order 2 work places)) gives 0x4040_0000 ∷ 0x3f80_0000 ∷ []
table whole_rest = record { computed = drop 2 (search_hits catalogue order 2 work places); expected = negsuc 6 ∷ [] }
-- ---- one input for each refusal
table refused1 = searched (index_of 1048577 [] [] []) all gives 1 ∷ []
table refused2 = searched (index_of 1 (0x3f7f_ffff ∷ 0 ∷ 0 ∷ []) [] []) all gives 2 ∷ []
table refused3 = searched (index_of 1 (0x3f80_0000 ∷ 1 ∷ 0 ∷ []) [] []) all gives 3 ∷ []
table refused4 = searched (index_of 1 field (leaf 0 1) []) all gives 4 ∷ []
table refused5 = searched (index_of 1 field (leaf 0 1) (posting 1)) all gives 5 ∷ []
table refused6 = searched (columns_only 1 (0 ∷ []) []) all gives 6 ∷ []
table refused7 = searched lot (record_of 9 0 0 0) gives 7 ∷ []
table refused8 = searched lot (record_of 1 0 0 1) gives 8 ∷ []
table refused9 = searched lot (record_of 7 0 1 0x4780_0000 ++ (record_of 7 0 1 0x3f80_0001 ++ all)) gives 9 ∷ []
table refused10 = searched lot (record_of 2 0 1 0 ++ record_of 9 0 0 0) gives 10 ∷ []
table refused11 = search_answer lot all 0 0 one_state 1 gives 11 ∷ []
table refused12 = search_answer lot all 1 0 one_state 0 gives 12 ∷ []
table refused13 = page_answer lot all 2 one_state 1 1 gives 13 ∷ []
table refused14 = pick_answer (0 ∷ []) (0x8000_0000 ∷ []) 1 0 1 gives 14 ∷ []

-- every row gives what it says
pub table-holds : (e : Example) → (table e).computed ≡ (table e).expected
unfolding table to_bits round units odd size span climb add sub mul div neg ieee_sum of_fields of_bits of_int nan_bits lt to_unsigned count_trailing_zeros any_below count_below list_below last_below largest_below list_to is_live narrow sum_from narrowed_sum total_below sortable_int sortable_bits long_to_int4 int4_to_long max_int4 num_free_values byte4_to_int length_of i64_of value_below at_lower at_upper in_range range_documents starts term_starts multiplicity smallest distinct sum_smallest common_size phrase_frequency has_required decode_clauses decode_child decode_phrase decode_kind decode decode_query query_tree required_hold some_prohibited shoulds_holding shoulds_needed boolean_takes takes all_have_postings has_scorer least costs_of sum disjunction_cost conjunction_cost cost field_score term_score phrase_idf phrase_score insert_by_cost by_cost required_score must_scores should_scores group_score boolean_score score matches full_list code to_doc to_score insert_descending descending hits mark from_target first_doc page lowest wrong1 wrong_field wrong2 wrong3 wrong_leaf wrong4 wrong_position wrong_positions wrong_posting wrong5 wrong_column wrong6 wrong_records wrong7 unused_from wrong_range other_field wrong_kind wrong_values wrong8 above_limit carries_above wrong9 wrong10 wrong11 states_needed largest_in starts_needed range_records ranges_needed starts_short work_short wrong12_search wrong12_page wrong12_pick wrong13_page wrong_picked wrong14 search_refusal search_answer search_hits page_refusal page_answer pick_refusal picked_list pick_answer pick_hits length_answer
table-holds lengths = refl
table-holds byte224 = refl
table-holds byte223 = refl
table-holds no_clauses = refl
table-holds only_must_not = refl
table-holds two_of_three = refl
table-holds four_of_three = refl
table-holds must_and_should = refl
table-holds must_and_one_should = refl
table-holds filter_documents = refl
table-holds filter_scores = refl
table-holds phrase_twice = refl
table-holds start_below_zero = refl
table-holds range_none = refl
table-holds range_two = refl
table-holds tie_to_the_earlier = refl
table-holds readings_all = refl
table-holds readings_over = refl
table-holds readings_up_to = refl
table-holds readings_from_nan = refl
table-holds readings_below_nan = refl
table-holds readings_unread = refl
table-holds integers_all = refl
table-holds integers_over = refl
table-holds borders_all = refl
table-holds borders_over = refl
table-holds borders_up_to_nan = refl
table-holds ascending_cost = refl
table-holds added_in_f64 = refl
table-holds whole_answer = refl
table-holds whole_marked = refl
table-holds whole_documents = refl
table-holds whole_scores = refl
table-holds whole_rest = refl
table-holds refused1 = refl
table-holds refused2 = refl
table-holds refused3 = refl
table-holds refused4 = refl
table-holds refused5 = refl
table-holds refused6 = refl
table-holds refused7 = refl
table-holds refused8 = refl
table-holds refused9 = refl
table-holds refused10 = refl
table-holds refused11 = refl
table-holds refused12 = refl
table-holds refused13 = refl
table-holds refused14 = refl
