-- What Page promises, with node states as words or as records, built anew or resumed.
-- Assumes nothing: these are definitions.
use Rattle.std.specs.Prelude.{◌≡◌, List, ℕ, length, Result}
use Rattle.meaning.specs.Lent.{Index}
use Rattle.meaning.specs.CallRefusals.{Work}
use Rattle.meaning.specs.Entries.{page_of, page_refusal, page_answer, page_documents, page_scores}
use Rattle.walk.specs.declared.Listed.{Listed}
use Rattle.refusal.specs.declared.Refusal.{Refusal}
use Rattle.tree_records.specs.Standing.{Standing}
use Rattle.searcher.specs.declared.buffers.Buffers.{Buffers}
use Rattle.searcher.specs.Answers.{paged_numbers}
use Rattle.searcher.specs.WorkBuffers.{KeptBuffers, SameWorkBuffers}

-- by the room in work buffers of these lengths in words: the answer and the two outputs; a refused call leaves each
-- buffer as it was, an accepted one leaves the order's tree in the words of the node states, at the next live match
pub record Pages {S : Type 0} (ix : Index) (q : List ℕ) (target : ℕ) (room : Work) (words' : List ℕ) (b b' : Buffers S)
    (documents documents' scores scores' : List ℕ) (r : Result Listed Refusal) : Type 0 where
  pub numbers : paged_numbers r ≡ page_answer ix q target room (length documents) (length scores)
  pub documents_after : documents' ≡ page_documents ix q target room documents scores
  pub scores_after : scores' ≡ page_scores ix q target room documents scores
  pub kept : KeptBuffers (page_refusal ix q target room (length documents) (length scores)) b b'
  pub standing : page_refusal ix q target room (length documents) (length scores) ≡ 0
      → Standing ix q b'.ranges.now words' (page_of ix q target (length documents)).next
  pub same_buffers : SameWorkBuffers b b'

-- what a resumed call asks: where it is not refused, the words hold the order's tree, to be asked from the target on
abbrev pub Resumable : {S : Type 0} → Index → List ℕ → ℕ → Work → List ℕ → Buffers S → List ℕ → List ℕ → Type 0
Resumable ix q target room words b documents scores =
    page_refusal ix q target room (length documents) (length scores) ≡ 0 → Standing ix q b.ranges.now words target
