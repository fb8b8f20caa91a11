-- How Search, Page and Pick answer at the border: the refusal's number is returned, and the numbers stand in a lent
-- slice, which is one buffer more for 12. Assumes nothing: these are definitions.
use Rattle.std.specs.Prelude.{◌≡◌, cond, ◌||◌, List, [], ◌∷◌, ◌++◌, map, ℕ, eqb, ltb, length, ℤ, Result, Ok, Err}
use Rattle.std.specs.Float.{binary32}
use Rattle.std.specs.Float.Ieee.{to_bits}
use Rattle.meaning.specs.Lent.{Index}
use Rattle.meaning.specs.Query.{query_tree}
use Rattle.meaning.specs.FullList.{ScoreDoc, full_list}
use Rattle.meaning.specs.Hits.{hits as hits_of, mark}
use Rattle.meaning.specs.Pages.{PageOf}
use Rattle.meaning.specs.Refusals.{◌when◌, lowest}
use Rattle.meaning.specs.CallRefusals.{Work, wrong11, wrong12_search, wrong12_page, wrong12_pick, wrong13_page, wrong14}
use Rattle.meaning.specs.Entries.{order_conditions, written, answered, Kept, page_of, picked_list}
use Rattle.collector.specs.declared.TopDocs.{TopDocs}
use Rattle.refusal.specs.declared.Refusal.{Refusal}

-- hits held, count, and 1 for the mark
abbrev pub top_numbers : ℕ → ℕ → List ScoreDoc → List ℕ
top_numbers k t list = length (hits_of k list) ∷ length list ∷ cond (mark k t (length list)) 1 0 ∷ []

-- the slice for the answer after what Search or Pick found: the same numbers of it, and as it was where it is refused
abbrev pub top_answer : Result TopDocs Refusal → List ℕ → List ℕ
top_answer (Ok top) xs = written (top.held ∷ top.count ∷ cond top.mark 1 0 ∷ []) xs
top_answer (Err r) xs = xs

-- how many are given, and the next match
abbrev pub page_numbers : PageOf → List ℕ
page_numbers p = length p.given ∷ p.next ∷ []

-- the refusals with a slice of so many places for the answer
unfoldable pub border_search : Index → List ℕ → ℕ → Work → ℕ → ℕ → ℕ
border_search ix q k w places answer =
    lowest (order_conditions ix q
    ++ ((11 when wrong11 k) ∷ (12 when (wrong12_search ix q w k places || ltb answer 3)) ∷ []))

unfoldable pub border_page : Index → List ℕ → ℕ → Work → ℕ → ℕ → ℕ → ℕ
border_page ix q target w documents scores answer =
    lowest (order_conditions ix q
    ++ ((12 when (wrong12_page ix q w documents scores || ltb answer 2)) ∷ (13 when wrong13_page ix target) ∷ []))

unfoldable pub border_pick : List ℕ → List ℕ → ℕ → ℕ → ℕ → ℕ
border_pick documents scores k places answer =
    lowest ((11 when wrong11 k) ∷ (12 when (wrong12_pick k places || ltb answer 3))
    ∷ (14 when wrong14 documents scores) ∷ [])

-- a refusal below 12 stays, and any other call is refused 12
unfoldable pub short_answer : ℕ → ℕ
short_answer refusal = cond (eqb refusal 0 || ltb 12 refusal) 12 refusal

-- what lot_search promises, with room for work of these lengths: the number that it returns, and by it the hits and
-- `answer`, before and after
pub record LotSearches (ix : Index) (q : List ℕ) (k t : ℕ) (room : Work) (hits hits' : List ℤ)
    (answer answer' : List ℕ) (r : ℕ) : Type 0 where
  pub refusal : r ≡ border_search ix q k room (length hits) (length answer)
  pub hits_after : hits' ≡ answered r (written (hits_of k (full_list ix (query_tree q))) hits) (λ n. hits)
  pub answer_after : answer' ≡ answered r (written (top_numbers k t (full_list ix (query_tree q))) answer) (λ n. answer)

-- what lot_page promises in the same way, of its two outputs and `answer`
pub record LotPages (ix : Index) (q : List ℕ) (target : ℕ) (room : Work)
    (documents documents' scores scores' answer answer' : List ℕ) (r : ℕ) : Type 0 where
  pub refusal : r ≡ border_page ix q target room (length documents) (length scores) (length answer)
  pub documents_after : documents' ≡ answered r
      (written (map (λ h. h.doc) (page_of ix q target (length documents)).given) documents) (λ n. documents)
  pub scores_after : scores' ≡ answered r
      (written (map (λ h. to_bits binary32 h.score) (page_of ix q target (length documents)).given) scores)
      (λ n. scores)
  pub answer_after : answer' ≡ answered r
      (written (page_numbers (page_of ix q target (length documents))) answer) (λ n. answer)

-- what lot_pick promises, of the hits and `answer`
pub record LotPicks (documents scores : List ℕ) (k t : ℕ) (hits hits' : List ℤ) (answer answer' : List ℕ)
    (r : ℕ) : Type 0 where
  pub refusal : r ≡ border_pick documents scores k (length hits) (length answer)
  pub hits_after : hits' ≡ answered r (written (hits_of k (picked_list documents scores)) hits) (λ n. hits)
  pub answer_after : answer' ≡ answered r (written (top_numbers k t (picked_list documents scores)) answer)
      (λ n. answer)

-- a call that returns a refusal leaves the four work buffers as they were
pub record LotKept (r : ℕ) (states states' : List ℕ) (starts starts' other_starts other_starts' : List ℤ)
    (ranges ranges' : List ℕ) : Type 0 where
  pub states_kept : Kept r states states'
  pub starts_kept : Kept r starts starts'
  pub other_starts_kept : Kept r other_starts other_starts'
  pub ranges_kept : Kept r ranges ranges'
