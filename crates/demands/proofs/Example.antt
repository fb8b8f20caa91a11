-- The premises of the theorems of pages and of Search can be met: three documents, the query that takes all, a refused
-- call between two pages, and a search for two hits. Assumes nothing.
use mathlib.Core.Path.{◌≡◌, refl}
use mathlib.Core.List.{List, [], ◌∷◌}
use Prim.Native.Nat.{ℕ}
use lib.Ieee.{lt, of_bits}
use Rattle.meaning.specs.Limits.{node_state_words}
use Rattle.meaning.specs.IndexRefusals.{wrong1, wrong2, wrong3, wrong4, wrong5, wrong6}
use Rattle.meaning.specs.QueryRefusals.{above_limit, carries_above, unused_from, wrong10, wrong7, wrong8, wrong9, wrong_kind, wrong_records, wrong_values}
use Rattle.meaning.specs.Query.{decode, decode_kind, decode_query, query_tree}
use Rattle.meaning.specs.Refusals.{lowest}
use Rattle.meaning.specs.Below.{any_below, count_below, largest_below, list_below}
use Rattle.meaning.specs.Live.{is_live}
use Rattle.meaning.specs.CallRefusals.{range_records, ranges_needed, starts_needed, starts_short, states_needed, work_short, wrong11, wrong12_page, wrong12_search, wrong13_page}
use Rattle.meaning.specs.FullList.{full_list, matches}
use Rattle.meaning.specs.Takes.{takes}
use Rattle.meaning.specs.Pages.{first_doc, from_target, page}
use Rattle.meaning.specs.Entries.{page_answer, page_refusal, search_refusal}
use Rattle.meaning.specs.Lent.{Index}
use Rattle.demands.specs.Demands.{Accepts, Call, call_refusal, answer_of, answered_calls, Follow}

abbrev three : Index
three = record { max_doc = 3; fields = []; leaves = []; postings = []; positions = []; norms = []; live = []; columns = []; values = [] }

-- MatchAll
abbrev everything : List ℕ
everything = 5 ∷ 0 ∷ 0 ∷ 0 ∷ 0 ∷ 0 ∷ 0 ∷ 0 ∷ 0 ∷ []

abbrev call : ℕ → Call
call target = record { target = target; documents = 7 ∷ 7 ∷ []; scores = 7 ∷ 7 ∷ []; work = record { states = node_state_words; starts = 0; other_starts = 0; ranges = 0 } }

example-accepts : Accepts three everything
unfolding wrong1 wrong2 wrong3 wrong4 wrong5 wrong6 wrong7 wrong_records wrong8 wrong_values wrong_kind unused_from wrong9 above_limit carries_above wrong10 decode_query decode decode_kind query_tree lowest any_below count_below lt of_bits
example-accepts = refl

example-follows : Follow three everything 0 (answered_calls three everything (call 0 ∷ call 9 ∷ call 2 ∷ []))
unfolding wrong1 wrong2 wrong3 wrong4 wrong5 wrong6 wrong7 wrong_records wrong8 wrong_values wrong_kind unused_from wrong9 above_limit carries_above wrong10 decode_query decode decode_kind query_tree lowest any_below lt of_bits page_refusal page_answer wrong12_page work_short states_needed starts_short starts_needed largest_below ranges_needed range_records count_below wrong13_page matches full_list list_below is_live takes from_target first_doc page Follow answered_calls call_refusal answer_of
example-follows = (refl, (refl, tt))

example-search : search_refusal three everything 2 (record { states = node_state_words; starts = 0; other_starts = 0; ranges = 0 }) 2 ≡ 0
unfolding wrong1 wrong2 wrong3 wrong4 wrong5 wrong6 wrong7 wrong_records wrong8 wrong_values wrong_kind unused_from wrong9 above_limit carries_above wrong10 decode_query decode decode_kind query_tree lowest any_below lt of_bits search_refusal wrong11 wrong12_search work_short states_needed starts_short starts_needed largest_below ranges_needed range_records count_below
example-search = refl
