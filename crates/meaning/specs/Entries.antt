-- Document 01, "Entries": what each entry answers, and what its buffers hold afterwards.
-- An answer is a list of numbers: the refusal's number alone, or 0 and then the entry's values. Assumes nothing: these are definitions.
use Rattle.std.specs.Prelude.{◌≡◌, Bool, true, cond, List, [], ◌∷◌, ◌++◌, map, ℕ, zero, suc, ◌<◌, eqb, length, drop, get_or, ℤ, pos}
use Rattle.std.proofs.Math.Option.{Option, none, some}
use Rattle.std.specs.Float.{binary32}
use Rattle.std.specs.Float.Ieee.{of_bits, to_bits}
use Rattle.meaning.specs.Below.{list_to}
use Rattle.meaning.specs.Lent.{Index}
use Rattle.meaning.specs.SmallFloat.{byte4_to_int}
use Rattle.meaning.specs.Range.{NumericRange, range_documents}
use Rattle.meaning.specs.Phrase.{phrase_frequency, stands_at}
use Rattle.meaning.specs.Query.{query_tree, phrase_terms_of}
use Rattle.meaning.specs.FullList.{ScoreDoc, full_list}
use Rattle.meaning.specs.Hits.{hits, mark}
use Rattle.meaning.specs.Pages.{PageOf, page}
use Rattle.meaning.specs.Refusals.{Condition, ◌when◌, lowest}
use Rattle.meaning.specs.IndexRefusals.{wrong1, wrong2, wrong3, wrong4, wrong5, wrong6}
use Rattle.meaning.specs.QueryRefusals.{wrong7, wrong8, wrong9, wrong10, wrong_range}
use Rattle.meaning.specs.CallRefusals.{Work, wrong11, starts_short, wrong12_search, wrong12_page, wrong12_pick, wrong12_range, wrong13_page, wrong13_place, wrong14}

-- "Output beyond what is written stays unchanged": a buffer after xs was written at its front
abbrev pub written {ℓ} : {A : Type ℓ} → List A → List A → List A
written xs buffer = xs ++ drop (length xs) buffer

-- a refused call leaves a buffer as it was, and an accepted one may leave anything in a work buffer
abbrev pub Kept {ℓ} : {A : Type ℓ} → ℕ → List A → List A → Type ℓ
Kept refusal before after = 0 < refusal → after ≡ before

-- what an entry answers, by its refusal's number
abbrev pub answered {ℓ} : {A : Type ℓ} → ℕ → A → (ℕ → A) → A
answered zero accepted refused = accepted
answered (suc n) accepted refused = refused (suc n)

-- the numbers 1 to 10 of an index and a query
abbrev pub order_conditions : Index → List ℕ → List Condition
order_conditions ix q =
    (1 when wrong1 ix) ∷ (2 when wrong2 ix) ∷ (3 when wrong3 ix) ∷ (4 when wrong4 ix) ∷ (5 when wrong5 ix) ∷ (6 when wrong6 ix) ∷ (7 when wrong7 q) ∷ (8 when wrong8 ix q) ∷ (9 when wrong9 q) ∷ (10 when wrong10 ix q) ∷ []

-- ---- Search "gives hits, count and the "at least" mark", and the numbers 1 to 12; hits buffer of so many places
unfoldable pub search_refusal : Index → List ℕ → ℕ → Work → ℕ → ℕ
search_refusal ix q k w places = lowest (order_conditions ix q ++ ((11 when wrong11 k) ∷ (12 when wrong12_search ix q w k places) ∷ []))

-- hits held, count, and 1 for the mark
abbrev pub top_docs : ℕ → ℕ → List ScoreDoc → List ℕ
top_docs k t list = 0 ∷ length (hits k list) ∷ length list ∷ cond (mark k t (length list)) 1 0 ∷ []

unfoldable pub search_answer : Index → List ℕ → ℕ → ℕ → Work → ℕ → List ℕ
search_answer ix q k t w places = answered (search_refusal ix q k w places) (top_docs k t (full_list ix (query_tree q))) (λ n. n ∷ [])

-- the hits buffer afterwards: the codes of the hits, from the front
unfoldable pub search_hits : Index → List ℕ → ℕ → Work → List ℤ → List ℤ
search_hits ix q k w buffer =
    answered (search_refusal ix q k w (length buffer)) (written (hits k (full_list ix (query_tree q))) buffer) (λ n. buffer)

-- ---- Page "takes a target and two output slices of equal length m"; the numbers 1 to 10, 12 and 13
unfoldable pub page_refusal : Index → List ℕ → ℕ → Work → ℕ → ℕ → ℕ
page_refusal ix q target w documents scores =
    lowest (order_conditions ix q ++ ((12 when wrong12_page ix q w documents scores) ∷ (13 when wrong13_page ix target) ∷ []))

abbrev pub page_of : Index → List ℕ → ℕ → ℕ → PageOf
page_of ix q target m = page target m (full_list ix (query_tree q))

-- "answers how many and the next live match or `NO_MORE_DOCS`"
unfoldable pub page_answer : Index → List ℕ → ℕ → Work → ℕ → ℕ → List ℕ
page_answer ix q target w documents scores =
    answered (page_refusal ix q target w documents scores) (0 ∷ length (page_of ix q target documents).given ∷ (page_of ix q target documents).next ∷ []) (λ n. n ∷ [])

-- the outputs afterwards: the documents, and their scores' bits
unfoldable pub page_documents : Index → List ℕ → ℕ → Work → List ℕ → List ℕ → List ℕ
page_documents ix q target w documents scores =
    answered (page_refusal ix q target w (length documents) (length scores)) (written (map (λ h. h.doc) (page_of ix q target (length documents)).given) documents) (λ n. documents)

unfoldable pub page_scores : Index → List ℕ → ℕ → Work → List ℕ → List ℕ → List ℕ
page_scores ix q target w documents scores =
    answered (page_refusal ix q target w (length documents) (length scores)) (written (map (λ h. to_bits binary32 h.score) (page_of ix q target (length documents)).given) scores) (λ n. scores)

-- ---- Range "lists a column's documents ascending"; the numbers 1, 6, 8 and 12
-- what it is lent: N, the columns and their values
abbrev pub columns_only : ℕ → List ℕ → List ℕ → Index
columns_only n columns values =
    record { max_doc = n; fields = []; leaves = []; postings = []; positions = []; norms = []; live = []; columns = columns; values = values }

unfoldable pub range_refusal : Index → NumericRange → ℕ → ℕ → ℕ
range_refusal ix r work output =
    lowest ((1 when wrong1 ix) ∷ (6 when wrong6 ix) ∷ (8 when wrong_range ix r) ∷ (12 when wrong12_range ix work output) ∷ [])

-- how many it lists
unfoldable pub range_answer : Index → NumericRange → ℕ → ℕ → List ℕ
range_answer ix r work output = answered (range_refusal ix r work output) (0 ∷ length (range_documents ix r) ∷ []) (λ n. n ∷ [])

unfoldable pub range_output : Index → NumericRange → ℕ → List ℕ → List ℕ
range_output ix r work output = answered (range_refusal ix r work (length output)) (written (range_documents ix r) output) (λ n. output)

-- ---- Pick "takes parallel lists of documents and scores, with k and t, and answers as Search does"; the numbers 11, 12 and 14
unfoldable pub pick_refusal : List ℕ → List ℕ → ℕ → ℕ → ℕ
pick_refusal documents scores k places =
    lowest ((11 when wrong11 k) ∷ (12 when wrong12_pick k places) ∷ (14 when wrong14 documents scores) ∷ [])

-- the lists as documents with scores, which are lent as bits
unfoldable pub picked_list : List ℕ → List ℕ → List ScoreDoc
picked_list documents scores = list_to (length documents) (λ i. record { doc = get_or documents i 0; score = of_bits binary32 (get_or scores i 0) })

unfoldable pub pick_answer : List ℕ → List ℕ → ℕ → ℕ → ℕ → List ℕ
pick_answer documents scores k t places =
    answered (pick_refusal documents scores k places) (top_docs k t (picked_list documents scores)) (λ n. n ∷ [])

unfoldable pub pick_hits : List ℕ → List ℕ → ℕ → List ℤ → List ℤ
pick_hits documents scores k buffer =
    answered (pick_refusal documents scores k (length buffer)) (written (hits k (picked_list documents scores)) buffer) (λ n. buffer)

-- ---- Place "takes a phrase record and a document, live or not"; the numbers 1 to 10, 12 and 13
unfoldable pub place_refusal : Index → List ℕ → ℕ → ℕ → Work → ℕ
place_refusal ix q r d w = lowest (order_conditions ix q ++ ((12 when starts_short ix q w) ∷ (13 when wrong13_place ix q r d) ∷ []))

-- "a start at which the phrase stands, any one, or none": what an accepted call may give, "none exactly where the phrase stands nowhere"
unfoldable pub place_right : Index → List ℕ → ℕ → ℕ → Option ℤ → Bool
place_right ix q r d none = eqb (phrase_frequency ix (phrase_terms_of q r) d) 0
place_right ix q r d (some s) = stands_at ix (phrase_terms_of q r) d s

-- 0, how many starts are given, and the start, which may lie below 0
abbrev pub start_numbers : Option ℤ → List ℤ
start_numbers none = pos 0 ∷ pos 0 ∷ []
start_numbers (some s) = pos 0 ∷ pos 1 ∷ s ∷ []

-- an accepted call's answer, open in nothing but which start it gives
abbrev pub PlaceFound : Index → List ℕ → ℕ → ℕ → List ℤ → Type 0
PlaceFound ix q r d answer = (start : Option ℤ) × (place_right ix q r d start ≡ true) × (answer ≡ start_numbers start)

unfoldable pub PlaceAnswer : Index → List ℕ → ℕ → ℕ → Work → List ℤ → Type 0
PlaceAnswer ix q r d w answer = answered (place_refusal ix q r d w) (PlaceFound ix q r d answer) (λ n. answer ≡ (pos n ∷ []))

-- ---- "Length decodes a norm byte"; it refuses nothing
unfoldable pub length_answer : ℕ → ℕ
length_answer b = byte4_to_int b
