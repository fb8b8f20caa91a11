-- Demand 3's list of pages as calls of lot_page, by what a caller sees of each: the number returned and its buffers.
-- "index and query stay unchanged, and buffers may hold anything". Assumes nothing: these are definitions.
use Rattle.std.specs.Prelude.{◌≡◌, List, [], ◌∷◌, ◌++◌, ℕ, ◌+◌, ◌<◌, length, take, get_or}
use Rattle.meaning.specs.Lent.{Index}
use Rattle.meaning.specs.Entries.{answered, page_refusal}
use Rattle.check_order.specs.WorkOf.{work}
use Rattle.demands_border.specs.Calls.{PageCall}

module _ {ix : Index} {q : List ℕ} where
  -- how many a call gave that returned 0: the first number in its `answer`
  abbrev pub given : PageCall ix q → ℕ
  given c = get_or c.answer' 0 0

  -- "the next live match or `NO_MORE_DOCS`" that it named: the second
  abbrev pub next : PageCall ix q → ℕ
  next c = get_or c.answer' 1 0

  -- the documents that a call gave: the front of its output, and nothing where it was refused
  unfoldable pub documents_given : PageCall ix q → List ℕ
  documents_given c = answered c.returned (take (given c) c.documents') (λ n. [])

  -- .. and their scores' bits
  unfoldable pub scores_given : PageCall ix q → List ℕ
  scores_given c = answered c.returned (take (given c) c.scores') (λ n. [])

  -- how many places for documents it lent, and none where it was refused
  unfoldable pub places_lent : PageCall ix q → ℕ
  places_lent c = answered c.returned (length c.documents) (λ n. 0)

  -- where to go on after a call, where it was s before: at the next match that it named, and still at s where it was
  -- refused
  unfoldable pub goes_on : ℕ → PageCall ix q → ℕ
  goes_on s c = answered c.returned (next c) (λ n. s)

  -- .. after some calls
  unfoldable pub goes_on_after : ℕ → List (PageCall ix q) → ℕ
  goes_on_after s [] = s
  goes_on_after s (c ∷ cs) = goes_on_after (goes_on s c) cs

  -- each call that is not refused begins where to go on after those before it, and at s where there are none; a refused
  -- one begins anywhere
  unfoldable pub Follow : ℕ → List (PageCall ix q) → Type 0
  Follow s [] = Unit
  Follow s (c ∷ cs) = (c.returned ≡ 0 → c.target ≡ s) × Follow (goes_on s c) cs

  -- the documents that the calls gave, "joined"
  unfoldable pub joined_documents : List (PageCall ix q) → List ℕ
  joined_documents [] = []
  joined_documents (c ∷ cs) = documents_given c ++ joined_documents cs

  -- .. and their scores' bits
  unfoldable pub joined_scores : List (PageCall ix q) → List ℕ
  joined_scores [] = []
  joined_scores (c ∷ cs) = scores_given c ++ joined_scores cs

  -- how many places they lent in all
  unfoldable pub joined_places : List (PageCall ix q) → ℕ
  joined_places [] = 0
  joined_places (c ∷ cs) = places_lent c + joined_places cs

  -- how many of them were not refused
  unfoldable pub accepted_calls : List (PageCall ix q) → ℕ
  accepted_calls [] = 0
  accepted_calls (c ∷ cs) = answered c.returned 1 (λ n. 0) + accepted_calls cs

  -- a call whose `answer` is too short and of which Page itself would refuse nothing
  pub record AnswerAlone (c : PageCall ix q) : Type 0 where
    pub short : length c.answer < 2
    pub else-right : page_refusal ix q c.target
        (work (length c.states) (length c.starts) (length c.other_starts) (length c.ranges))
        (length c.documents) (length c.scores) ≡ 0
