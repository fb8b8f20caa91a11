-- The premises of the theorems can be met: three documents, the query that takes all, two pages with a call between them that is refused for its `answer`, two searches and two picks. Assumes nothing.
use mathlib.Core.Path.{◌≡◌, refl}
use mathlib.Core.List.{List, [], ◌∷◌, map}
use Prim.Native.Nat.{ℕ}
use lib.ListN.{length, replicate}
use lib.IntN.{ℤ, pos}
use lib.Dec.{lit<}
use lib.Ieee.{lt, of_bits, binary32, to_bits}
use Rattle.meaning.specs.Limits.{node_state_words, no_more_docs}
use Rattle.meaning.specs.IndexRefusals.{wrong1, wrong2, wrong3, wrong4, wrong5, wrong6}
use Rattle.meaning.specs.QueryRefusals.{above_limit, carries_above, unused_from, wrong10, wrong7, wrong8, wrong9, wrong_kind, wrong_records, wrong_values}
use Rattle.meaning.specs.Query.{decode, decode_kind, decode_query, query_tree}
use Rattle.meaning.specs.Refusals.{lowest}
use Rattle.meaning.specs.Below.{any_below, count_below, largest_below, list_below, list_to}
use Rattle.meaning.specs.Live.{is_live}
use Rattle.meaning.specs.CallRefusals.{range_records, ranges_needed, starts_needed, starts_short, states_needed, work_short, wrong11, wrong12_page, wrong12_pick, wrong12_search, wrong13_page, wrong14, wrong_picked}
use Rattle.meaning.specs.FullList.{full_list, matches}
use Rattle.meaning.specs.Takes.{takes}
use Rattle.meaning.specs.Score.{score}
use Rattle.meaning.specs.Ieee754.{sortable_int}
use Rattle.meaning.specs.Hits.{code, to_doc, insert_descending, descending, hits, mark}
use Rattle.meaning.specs.Pages.{first_doc, from_target, page}
use Rattle.meaning.specs.Entries.{answered, written, page_of, page_refusal, picked_list}
use Rattle.meaning.specs.Lent.{Index}
use Rattle.check_order.specs.WorkOf.{work}
use Rattle.border.specs.Border.{border_search, border_page, border_pick, top_numbers, page_numbers}
use Rattle.demands_border.specs.Calls.{SearchCall, PageCall, PickCall, hits_given, Begin}
use Rattle.demands_border.specs.Pages.{documents_given, scores_given, goes_on, Follow, joined_documents, joined_scores, goes_on_after, AnswerAlone}
use Rattle.demands_border.proofs.Pages.{PagesJoined, lot-pages-joined}

abbrev three : Index
three = record { max_doc = 3; fields = []; leaves = []; postings = []; positions = []; norms = []; live = []; columns = []; values = [] }

-- MatchAll
abbrev everything : List ℕ
everything = 5 ∷ 0 ∷ 0 ∷ 0 ∷ 0 ∷ 0 ∷ 0 ∷ 0 ∷ 0 ∷ []

abbrev words : List ℕ
words = replicate node_state_words 7

abbrev places : List ℕ
places = 7 ∷ 7 ∷ []

-- a call of lot_page for two documents, as its contract tells of it; it leaves the work buffers as they were, which it may
abbrev call : ℕ → List ℕ → PageCall three everything
call target answer =
    let r = border_page three everything target (work (length words) 0 0 0) 2 2 (length answer) in
    let p = page_of three everything target 2 in
    record {
      target = target;
      states = words;
      starts = [];
      other_starts = [];
      ranges = [];
      documents = places;
      scores = places;
      answer = answer;
      returned = r;
      states' = words;
      starts' = [];
      other_starts' = [];
      ranges' = [];
      documents' = answered r (written (map (λ h. h.doc) p.given) places) (λ n. places);
      scores' = answered r (written (map (λ h. to_bits binary32 h.score) p.given) places) (λ n. places);
      answer' = answered r (written (page_numbers p) answer) (λ n. answer);
      told = record { refusal = refl; documents_after = refl; scores_after = refl; answer_after = refl };
      kept = record { states_kept = λ h. refl; starts_kept = λ h. refl; other_starts_kept = λ h. refl; ranges_kept = λ h. refl };
    }

-- the second has room for one number only, and the third for more than it needs
abbrev calls : List (PageCall three everything)
calls = call 0 (9 ∷ 9 ∷ []) ∷ call 2 (9 ∷ []) ∷ call 2 (9 ∷ 9 ∷ 9 ∷ []) ∷ []

example-pages : (map (λ c. c.returned) calls ≡ 0 ∷ 12 ∷ 0 ∷ []) × Follow 0 calls × (joined_documents calls ≡ 0 ∷ 1 ∷ 2 ∷ []) × (joined_scores calls ≡ 0x3f80_0000 ∷ 0x3f80_0000 ∷ 0x3f80_0000 ∷ []) × (goes_on_after 0 calls ≡ no_more_docs)
unfolding wrong1 wrong2 wrong3 wrong4 wrong5 wrong6 wrong7 wrong_records wrong8 wrong_values wrong_kind unused_from wrong9 above_limit carries_above wrong10 decode_query decode decode_kind query_tree lowest any_below lt of_bits border_page wrong12_page work_short states_needed starts_short starts_needed largest_below ranges_needed range_records count_below wrong13_page matches full_list list_below is_live takes score from_target first_doc page to_bits documents_given scores_given goes_on Follow joined_documents joined_scores goes_on_after
example-pages = (refl, ((λ e. refl), ((λ e. refl), ((λ e. refl), tt))), refl, refl, refl)

example-joined : PagesJoined three everything calls
example-joined = lot-pages-joined three everything calls example-pages.1

example-alone : AnswerAlone (call 2 (9 ∷ []))
unfolding wrong1 wrong2 wrong3 wrong4 wrong5 wrong6 wrong7 wrong_records wrong8 wrong_values wrong_kind unused_from wrong9 above_limit carries_above wrong10 decode_query decode decode_kind query_tree lowest any_below lt of_bits page_refusal wrong12_page work_short states_needed starts_short starts_needed largest_below ranges_needed range_records count_below wrong13_page
example-alone = record { short = lit< tt; else-right = refl }

-- ---- a call of lot_search for k hits, and one of lot_pick, each with three places for hits
abbrev room : List ℤ
room = replicate 3 (pos 7)

abbrev search-for : (k : ℕ) → List ℕ → SearchCall three everything k 1
search-for k answer =
    let r = border_search three everything k (work (length words) 0 0 0) 3 (length answer) in
    let list = full_list three (query_tree everything) in
    record {
      states = words;
      starts = [];
      other_starts = [];
      ranges = [];
      hits = room;
      answer = answer;
      returned = r;
      states' = words;
      starts' = [];
      other_starts' = [];
      ranges' = [];
      hits' = answered r (written (hits k list) room) (λ n. room);
      answer' = answered r (written (top_numbers k 1 list) answer) (λ n. answer);
      told = record { refusal = refl; hits_after = refl; answer_after = refl };
      kept = record { states_kept = λ h. refl; starts_kept = λ h. refl; other_starts_kept = λ h. refl; ranges_kept = λ h. refl };
    }

-- what a call returned, the documents of its hits, and `answer` afterwards
abbrev found : ℕ → List ℤ → List ℕ → List (List ℕ)
found r hits' answer' = (r ∷ []) ∷ map to_doc (hits_given hits' answer') ∷ answer' ∷ []

abbrev searched : ℕ → List ℕ → List (List ℕ)
searched k answer = let c = search-for k answer in found c.returned c.hits' c.answer'

example-searches : (searched 1 (9 ∷ 9 ∷ 9 ∷ []) ≡ (0 ∷ []) ∷ (0 ∷ []) ∷ (1 ∷ 3 ∷ 1 ∷ []) ∷ []) × (searched 2 (9 ∷ 9 ∷ 9 ∷ 9 ∷ []) ≡ (0 ∷ []) ∷ (0 ∷ 1 ∷ []) ∷ (2 ∷ 3 ∷ 1 ∷ 9 ∷ []) ∷ [])
unfolding wrong1 wrong2 wrong3 wrong4 wrong5 wrong6 wrong7 wrong_records wrong8 wrong_values wrong_kind unused_from wrong9 above_limit carries_above wrong10 decode_query decode decode_kind query_tree lowest any_below lt of_bits border_search wrong11 wrong12_search work_short states_needed starts_short starts_needed largest_below ranges_needed range_records count_below matches full_list list_below is_live takes score to_bits code to_doc insert_descending descending hits mark sortable_int hits_given
example-searches = (refl, refl)

example-begins : let c = search-for 1 (9 ∷ 9 ∷ 9 ∷ []) in let c' = search-for 2 (9 ∷ 9 ∷ 9 ∷ 9 ∷ []) in Begin (hits_given c.hits' c.answer') (hits_given c'.hits' c'.answer')
unfolding wrong1 wrong2 wrong3 wrong4 wrong5 wrong6 wrong7 wrong_records wrong8 wrong_values wrong_kind unused_from wrong9 above_limit carries_above wrong10 decode_query decode decode_kind query_tree lowest any_below lt of_bits border_search wrong11 wrong12_search work_short states_needed starts_short starts_needed largest_below ranges_needed range_records count_below matches full_list list_below is_live takes score to_bits code insert_descending descending hits mark sortable_int hits_given Begin
example-begins = refl

-- two documents with one score
abbrev documents : List ℕ
documents = 3 ∷ 9 ∷ []

abbrev scores : List ℕ
scores = 0x3f80_0000 ∷ 0x3f80_0000 ∷ []

abbrev pick-for : (k : ℕ) → List ℕ → PickCall documents scores k 1
pick-for k answer =
    let r = border_pick documents scores k 3 (length answer) in
    let list = picked_list documents scores in
    record {
      hits = room;
      answer = answer;
      returned = r;
      hits' = answered r (written (hits k list) room) (λ n. room);
      answer' = answered r (written (top_numbers k 1 list) answer) (λ n. answer);
      told = record { refusal = refl; hits_after = refl; answer_after = refl };
    }

abbrev picked : ℕ → List ℕ → List (List ℕ)
picked k answer = let c = pick-for k answer in found c.returned c.hits' c.answer'

example-picks : (picked 1 (9 ∷ 9 ∷ 9 ∷ []) ≡ (0 ∷ []) ∷ (3 ∷ []) ∷ (1 ∷ 2 ∷ 1 ∷ []) ∷ []) × (picked 3 (9 ∷ 9 ∷ 9 ∷ 9 ∷ []) ≡ (0 ∷ []) ∷ (3 ∷ 9 ∷ []) ∷ (2 ∷ 2 ∷ 0 ∷ 9 ∷ []) ∷ [])
unfolding lowest any_below of_bits border_pick wrong11 wrong12_pick wrong14 wrong_picked picked_list list_to to_bits code to_doc insert_descending descending hits mark sortable_int hits_given
example-picks = (refl, refl)
