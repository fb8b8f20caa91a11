-- Document 01's third demand: what is said of hits and of a list of pages, over the definitions alone. Assumes nothing:
-- these are definitions.
use Rattle.std.specs.Prelude.{◌≡◌, Bool, cond, ◌&&◌, ◌||◌, List, [], ◌∷◌, ◌++◌, ℕ, ◌+◌, eqb, ltb, length, take, get_or}
use Rattle.std.specs.Float.Ieee.{le, lt}
use Rattle.meaning.specs.Lent.{Index}
use Rattle.meaning.specs.FullList.{ScoreDoc}
use Rattle.meaning.specs.Refusals.{lowest}
use Rattle.meaning.specs.CallRefusals.{Work}
use Rattle.meaning.specs.Entries.{order_conditions, page_refusal, page_answer, page_documents, page_scores}

-- "an accepted index and query (none of 1 to 10 holds)"
abbrev pub Accepts : Index → List ℕ → Type 0
Accepts ix q = lowest (order_conditions ix q) ≡ 0

-- a call of Page: its target, its two outputs and the lengths of its work buffers, all as the caller likes
pub record Call : Type 0 where
  pub target : ℕ
  pub documents : List ℕ
  pub scores : List ℕ
  pub work : Work

unfoldable pub call_refusal : Index → List ℕ → Call → ℕ
call_refusal ix q c = page_refusal ix q c.target c.work (length c.documents) (length c.scores)

-- the numbers that the call answers: its refusal, or 0, how many it wrote, and the next match
unfoldable pub answer_of : Index → List ℕ → Call → List ℕ
answer_of ix q c = page_answer ix q c.target c.work (length c.documents) (length c.scores)

-- how many a call that was not refused wrote, and the next match that it named
abbrev pub given_by : Index → List ℕ → Call → ℕ
given_by ix q c = get_or (answer_of ix q c) 1 0

abbrev pub next_by : Index → List ℕ → Call → ℕ
next_by ix q c = get_or (answer_of ix q c) 2 0

-- the documents and the scores' bits that it wrote: the front of its outputs afterwards
unfoldable pub documents_by : Index → List ℕ → Call → List ℕ
documents_by ix q c = take (given_by ix q c) (page_documents ix q c.target c.work c.documents c.scores)

unfoldable pub scores_by : Index → List ℕ → Call → List ℕ
scores_by ix q c = take (given_by ix q c) (page_scores ix q c.target c.work c.documents c.scores)

-- the calls that were not refused, in turn
unfoldable pub answered_calls : Index → List ℕ → List Call → List Call
answered_calls ix q [] = []
answered_calls ix q (c ∷ cs) = cond (eqb (call_refusal ix q c) 0) (c ∷ []) [] ++ answered_calls ix q cs

-- the first begins at s, and each later one at the next match that the one before it named
unfoldable pub Follow : Index → List ℕ → ℕ → List Call → Type 0
Follow ix q s [] = Unit
Follow ix q s (c ∷ cs) = (c.target ≡ s) × Follow ix q (next_by ix q c) cs

-- what some calls wrote, joined, and how many places they lent
unfoldable pub joined_documents : Index → List ℕ → List Call → List ℕ
joined_documents ix q [] = []
joined_documents ix q (c ∷ cs) = documents_by ix q c ++ joined_documents ix q cs

unfoldable pub joined_scores : Index → List ℕ → List Call → List ℕ
joined_scores ix q [] = []
joined_scores ix q (c ∷ cs) = scores_by ix q c ++ joined_scores ix q cs

unfoldable pub places_of_calls : List Call → ℕ
places_of_calls [] = 0
places_of_calls (c ∷ cs) = length c.documents + places_of_calls cs

-- the next match that the last of some calls named, and s where there is none
unfoldable pub last_next : Index → List ℕ → ℕ → List Call → ℕ
last_next ix q s [] = s
last_next ix q s (c ∷ cs) = last_next ix q (next_by ix q c) cs

-- "larger score first, lower document first among equals"
abbrev pub ranks_before : ScoreDoc → ScoreDoc → Bool
ranks_before g h = lt h.score g.score || (le h.score g.score && ltb g.doc h.doc)
