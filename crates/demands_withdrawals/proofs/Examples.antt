-- Request 2026-01 on document 01's whole case: one table, one theorem over it, computed; and that the premises of the
-- theorem about two calls of Search can be met. Assumes nothing.
use mathlib.Core.Path.{◌≡◌, refl, ap}
use mathlib.Core.List.{List, [], ◌∷◌, ◌++◌, map}
use Prim.Native.Nat.{ℕ, ◌*◌}
use lib.IntN.{ℤ, negsuc}
use lib.ListN.{get_or}
use lib.Ieee.{binary32, to_bits, round, units, odd, size, span, climb, add, sub, mul, div, neg, sum as ieee_sum, of_fields, of_bits, of_int, lt, to_unsigned}
use lib.Count.{count_trailing_zeros}
use Rattle.meaning.specs.Below.{any_below, count_below, list_below, last_below, largest_below, list_to}
use Rattle.meaning.specs.Limits.{node_state_words}
use Rattle.meaning.specs.Lent.{Index}
use Rattle.meaning.specs.Live.{is_live}
use Rattle.meaning.specs.Ieee754.{narrow, sum_from, narrowed_sum, sortable_int, sortable_bits}
use Rattle.meaning.specs.Query.{has_required, decode_clauses, decode_child, decode_phrase, decode_kind, decode, decode_query, query_tree}
use Rattle.meaning.specs.Takes.{required_hold, some_prohibited, shoulds_holding, shoulds_needed, boolean_takes, takes}
use Rattle.meaning.specs.Scorer.{has_scorer}
use Rattle.meaning.specs.Cost.{least, costs_of, sum, disjunction_cost, conjunction_cost, cost}
use Rattle.meaning.specs.Score.{insert_by_cost, by_cost, required_score, must_scores, should_scores, group_score, boolean_score, score}
use Rattle.meaning.specs.FullList.{matches, full_list}
use Rattle.meaning.specs.Hits.{code, to_doc, to_score, insert_descending, descending, hits, mark}
use Rattle.meaning.specs.Refusals.{lowest}
use Rattle.meaning.specs.IndexRefusals.{wrong1, wrong_field, wrong2, wrong3, wrong_leaf, wrong4, wrong_positions, wrong_posting, wrong5, wrong6}
use Rattle.meaning.specs.QueryRefusals.{wrong_records, wrong7, unused_from, wrong_kind, wrong_values, wrong8, above_limit, carries_above, wrong9, wrong10}
use Rattle.meaning.specs.CallRefusals.{Work, wrong11, states_needed, largest_in, starts_needed, range_records, ranges_needed, starts_short, work_short, wrong12_search}
use Rattle.meaning.specs.Entries.{search_refusal, search_answer, search_hits}
use Rattle.demands.proofs.Search.{hits_by}
use Rattle.demands_withdrawals.specs.Withdrawal.{live_words, clear_bit, cleared, withdrawn, without_by, without, without_code, afterwards}
use Rattle.demands_withdrawals.proofs.Search.{withdrawn-hits}

-- ---- document 01's whole case, with these live words: leaf 0 in documents 0, 2, 3, leaf 1 in 2
abbrev catalogue : List ℕ → Index
catalogue live =
    record {
      max_doc = 4;
      fields = 0x3f80_0000 ∷ 0 ∷ 0 ∷ [];
      leaves = 0 ∷ 0 ∷ 3 ∷ 0x3f80_0000 ∷ 0 ∷ 3 ∷ 1 ∷ 0x3f80_0000 ∷ [];
      postings = 0 ∷ 1 ∷ 0 ∷ 2 ∷ 1 ∷ 0 ∷ 3 ∷ 1 ∷ 0 ∷ 2 ∷ 1 ∷ 0 ∷ [];
      positions = [];
      norms = [];
      live = live;
      columns = [];
      values = [];
    }

-- a query record with one value, the others 0
abbrev record_of : ℕ → ℕ → ℕ → ℕ → List ℕ
record_of kind occurrence children value = kind ∷ occurrence ∷ children ∷ value ∷ 0 ∷ 0 ∷ 0 ∷ 0 ∷ 0 ∷ []

-- Must ConstantScore(leaf 0), Should Boost 2 of ConstantScore(leaf 1)
abbrev order : List ℕ
order = record_of 3 0 2 0 ++ (record_of 6 1 1 0 ++ (record_of 1 0 0 0 ++ (record_of 7 2 1 0x4000_0000 ++ (record_of 6 0 1 0 ++ record_of 1 0 0 1))))

-- 65 documents, and MatchAll
abbrev sixty_five : Index
sixty_five = record { max_doc = 65; fields = []; leaves = []; postings = []; positions = []; norms = []; live = []; columns = []; values = [] }

abbrev everything : List ℕ
everything = record_of 5 0 0 0

abbrev work : Work
work = record { states = 6 * node_state_words; starts = 0; other_starts = 0; ranges = 0 }

abbrev places : List ℤ
places = negsuc 6 ∷ negsuc 6 ∷ negsuc 6 ∷ []

-- ---- the columns
-- the live words after lot d of the whole case is withdrawn, where none were lent
abbrev words_after : ℕ → List ℕ
words_after d = (withdrawn (catalogue []) d).live

-- the full list's documents and scores
abbrev documents_of : Index → List ℕ → List ℕ
documents_of ix q = map (λ h. h.doc) (full_list ix (query_tree q))

abbrev scores_of : Index → List ℕ → List ℕ
scores_of ix q = map (λ h. to_bits binary32 h.score) (full_list ix (query_tree q))

-- the hits' documents that Search writes, and then the count that it answers
abbrev sheet_of : Index → List ℕ → ℕ → List ℕ
sheet_of ix q k = map to_doc (hits_by ix q k 10 work places) ++ (get_or (search_answer ix q k 10 work 3) 2 0 ∷ [])

-- the number that Search gives
abbrev refusal_of : Index → ℕ → List ℕ
refusal_of ix k = search_refusal ix order k work 3 ∷ []

-- a row: what the definitions give, and what the request says
pub record Row : Type 0 where
  pub computed : List ℕ
  pub expected : List ℕ

abbrev ◌gives◌ : List ℕ → List ℕ → Row
xs gives ys = record { computed = xs; expected = ys }

infix 20 ◌gives◌
-- the rows' names, by the lot that is withdrawn
pub data Example : Type 0 where
  words2 words0 words3 words1 words4 words64 words64_of65 words2_dead words0_lent : Example
  without2 afterwards2 : Example
  list2 scores2 list0 scores0 list3 scores3 list1 list4 list64 list2_dead list0_lent : Example
  sheet_before sheet2 sheet0 sheet3 sheet1 sheet4 sheet64 sheet64_of65 : Example
  refusal_before refusal2 : Example

-- the table
unfoldable pub table : Example → Row
-- ---- live words: a match; no match; not below N; beyond the word
table words2 = words_after 2 gives 0xffff_ffff_ffff_fffb ∷ []
table words0 = words_after 0 gives 0xffff_ffff_ffff_fffe ∷ []
table words3 = words_after 3 gives 0xffff_ffff_ffff_fff7 ∷ []
table words1 = words_after 1 gives 0xffff_ffff_ffff_fffd ∷ []
table words4 = words_after 4 gives 0xffff_ffff_ffff_ffef ∷ []
table words64 = words_after 64 gives 0xffff_ffff_ffff_ffff ∷ []
table words64_of65 = (withdrawn sixty_five 64).live gives 0xffff_ffff_ffff_ffff ∷ 0xffff_ffff_ffff_fffe ∷ []
-- a word was lent, in which document 2 is dead
table words2_dead = (withdrawn (catalogue (11 ∷ [])) 2).live gives 11 ∷ []
table words0_lent = (withdrawn (catalogue (11 ∷ [])) 0).live gives 10 ∷ []
-- ---- the list without lot 2, and the hits of k 3 without it
table without2 = map (λ h. h.doc) (without 2 (full_list (catalogue []) (query_tree order))) gives 0 ∷ 3 ∷ []
table afterwards2 = map to_doc (afterwards 2 2 (hits 3 (full_list (catalogue []) (query_tree order)))) gives 0 ∷ 3 ∷ []
-- ---- the full list afterwards
table list2 = documents_of (withdrawn (catalogue []) 2) order gives 0 ∷ 3 ∷ []
table scores2 = scores_of (withdrawn (catalogue []) 2) order gives 0x3f80_0000 ∷ 0x3f80_0000 ∷ []
table list0 = documents_of (withdrawn (catalogue []) 0) order gives 2 ∷ 3 ∷ []
table scores0 = scores_of (withdrawn (catalogue []) 0) order gives 0x4040_0000 ∷ 0x3f80_0000 ∷ []
table list3 = documents_of (withdrawn (catalogue []) 3) order gives 0 ∷ 2 ∷ []
table scores3 = scores_of (withdrawn (catalogue []) 3) order gives 0x3f80_0000 ∷ 0x4040_0000 ∷ []
table list1 = documents_of (withdrawn (catalogue []) 1) order gives 0 ∷ 2 ∷ 3 ∷ []
table list4 = documents_of (withdrawn (catalogue []) 4) order gives 0 ∷ 2 ∷ 3 ∷ []
table list64 = documents_of (withdrawn (catalogue []) 64) order gives 0 ∷ 2 ∷ 3 ∷ []
table list2_dead = documents_of (withdrawn (catalogue (11 ∷ [])) 2) order gives 0 ∷ 3 ∷ []
table list0_lent = documents_of (withdrawn (catalogue (11 ∷ [])) 0) order gives 3 ∷ []
-- ---- the hits and the count: before with k 3, afterwards with k 2
table sheet_before = sheet_of (catalogue []) order 3 gives 2 ∷ 0 ∷ 3 ∷ 3 ∷ []
table sheet2 = sheet_of (withdrawn (catalogue []) 2) order 2 gives 0 ∷ 3 ∷ 2 ∷ []
table sheet0 = sheet_of (withdrawn (catalogue []) 0) order 2 gives 2 ∷ 3 ∷ 2 ∷ []
table sheet3 = sheet_of (withdrawn (catalogue []) 3) order 2 gives 2 ∷ 0 ∷ 2 ∷ []
table sheet1 = sheet_of (withdrawn (catalogue []) 1) order 2 gives 2 ∷ 0 ∷ 3 ∷ []
table sheet4 = sheet_of (withdrawn (catalogue []) 4) order 2 gives 2 ∷ 0 ∷ 3 ∷ []
table sheet64 = sheet_of (withdrawn (catalogue []) 64) order 2 gives 2 ∷ 0 ∷ 3 ∷ []
table sheet64_of65 = sheet_of (withdrawn sixty_five 64) everything 2 gives 0 ∷ 1 ∷ 64 ∷ []
-- ---- neither call is refused
table refusal_before = refusal_of (catalogue []) 3 gives 0 ∷ []
table refusal2 = refusal_of (withdrawn (catalogue []) 2) 2 gives 0 ∷ []

-- every row gives what it says
pub table-holds : (e : Example) → (table e).computed ≡ (table e).expected
unfolding table to_bits round units odd size span climb add sub mul div neg ieee_sum of_fields of_bits of_int lt to_unsigned count_trailing_zeros any_below count_below list_below last_below largest_below list_to is_live narrow sum_from narrowed_sum sortable_int sortable_bits has_required decode_clauses decode_child decode_phrase decode_kind decode decode_query query_tree required_hold some_prohibited shoulds_holding shoulds_needed boolean_takes takes has_scorer least costs_of sum disjunction_cost conjunction_cost cost insert_by_cost by_cost required_score must_scores should_scores group_score boolean_score score matches full_list code to_doc to_score insert_descending descending hits mark lowest wrong1 wrong_field wrong2 wrong3 wrong_leaf wrong4 wrong_positions wrong_posting wrong5 wrong6 wrong_records wrong7 unused_from wrong_kind wrong_values wrong8 above_limit carries_above wrong9 wrong10 wrong11 states_needed largest_in starts_needed range_records ranges_needed starts_short work_short wrong12_search search_refusal search_answer search_hits live_words clear_bit cleared withdrawn without_by without without_code afterwards
table-holds words2 = refl
table-holds words0 = refl
table-holds words3 = refl
table-holds words1 = refl
table-holds words4 = refl
table-holds words64 = refl
table-holds words64_of65 = refl
table-holds words2_dead = refl
table-holds words0_lent = refl
table-holds without2 = refl
table-holds afterwards2 = refl
table-holds list2 = refl
table-holds scores2 = refl
table-holds list0 = refl
table-holds scores0 = refl
table-holds list3 = refl
table-holds scores3 = refl
table-holds list1 = refl
table-holds list4 = refl
table-holds list64 = refl
table-holds list2_dead = refl
table-holds list0_lent = refl
table-holds sheet_before = refl
table-holds sheet2 = refl
table-holds sheet0 = refl
table-holds sheet3 = refl
table-holds sheet1 = refl
table-holds sheet4 = refl
table-holds sheet64 = refl
table-holds sheet64_of65 = refl
table-holds refusal_before = refl
table-holds refusal2 = refl

-- the premises of the theorem about two calls of Search can be met, with other thresholds
example-hits : hits_by (withdrawn (catalogue []) 2) order 2 1 work places ≡ afterwards 2 2 (hits_by (catalogue []) order 3 10 work places)
unfolding table
example-hits = withdrawn-hits (catalogue []) 2 order 2 10 1 work work places places (ap (λ (l : List ℕ). get_or l 0 0) (table-holds refusal_before)) (ap (λ (l : List ℕ). get_or l 0 0) (table-holds refusal2))
