-- What Search promises, with node states as words or as records. Assumes nothing: this is a definition.
use Rattle.std.specs.Prelude.{◌≡◌, List, ℕ, length, ℤ, Result}
use Rattle.meaning.specs.Limits.{no_more_docs}
use Rattle.meaning.specs.Lent.{Index}
use Rattle.meaning.specs.CallRefusals.{Work}
use Rattle.meaning.specs.Entries.{search_refusal, search_answer, search_hits}
use Rattle.collector.specs.declared.TopDocs.{TopDocs}
use Rattle.refusal.specs.declared.Refusal.{Refusal}
use Rattle.tree_records.specs.Standing.{Standing}
use Rattle.searcher.specs.declared.buffers.Buffers.{Buffers}
use Rattle.searcher.specs.Answers.{searched_numbers}
use Rattle.searcher.specs.WorkBuffers.{KeptBuffers, SameWorkBuffers}

-- by the room in work buffers of these lengths in words: the answer and the hits; a refused call leaves each buffer as
-- it was, an accepted one leaves the order's tree in the words of the node states, asked for every document
pub record Searches {S : Type 0} (ix : Index) (q : List ℕ) (k t : ℕ) (room : Work) (words' : List ℕ) (b b' : Buffers S)
    (hits hits' : List ℤ) (r : Result TopDocs Refusal) : Type 0 where
  pub numbers : searched_numbers r ≡ search_answer ix q k t room (length hits)
  pub hits_after : hits' ≡ search_hits ix q k room hits
  pub kept : KeptBuffers (search_refusal ix q k room (length hits)) b b'
  pub standing : search_refusal ix q k room (length hits) ≡ 0 → Standing ix q b'.ranges.now words' no_more_docs
  pub same_buffers : SameWorkBuffers b b'
