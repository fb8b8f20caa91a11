-- Search on the words of as many states as an order can need, and on all records: the same answer, and the same tree. Assumes nothing.
use mathlib.Core.Path.{◌≡◌, ap, ◌∙◌, subst}
use mathlib.Core.List.{List}
use Prim.Native.Nat.{ℕ, ◌*◌, ◌≤◌}
use lib.ListN.{length}
use lib.IntN.{ℤ}
use Rattle.meaning.specs.Limits.{no_more_docs, node_state_words}
use Rattle.meaning.specs.Lent.{Index}
use Rattle.meaning.specs.Entries.{search_refusal}
use Rattle.meaning.specs.CallRefusals.{Work}
use Rattle.collector.specs.declared.TopDocs.{TopDocs}
use Rattle.std.specs.Prelude.{Result}
use Rattle.refusal.specs.declared.Refusal.{Refusal}
use Rattle.searcher.specs.Answers.{used}
use Rattle.searcher.specs.declared.buffers.Buffers.{Buffers}
use Rattle.searcher.specs.WorkBuffers.{lengths_of, records_room, KeptBuffers, SameWorkBuffers, WordsLent, ReadBack}
use Rattle.searcher.specs.Searches.{Searches}
use Rattle.searcher.proofs.Fewer.{search-refusal-same, search-answer-by, search-hits-by}
use Rattle.searcher.proofs.OnRecords.{search-told, lengths-are, records-kept, records-stand}
use Rattle.tree_words.specs.declared.state.NodeState.{NodeState}
use Rattle.tree_records.specs.Records.{record_words, held}

-- a call on the words of the records
module _ (ix : Index) (q : List ℕ) (k t : ℕ) (words : List ℕ) (b b' : Buffers NodeState) (w w' : Buffers ℕ) (hits hits' : List ℤ) (r : Result TopDocs Refusal)
    (long : node_state_words * held (length b.states.now) ≤ length words) (lent : WordsLent words b w) where
  same : search_refusal ix q k (lengths_of w) (length hits) ≡ search_refusal ix q k (records_room b) (length hits)
  same =
      ap (λ (u : Work). search_refusal ix q k u (length hits)) (lengths-are words b w long lent)
      ∙ search-refusal-same ix q (length b.starts.now) (length b.other_starts.now) (length b.ranges.now) (length b.states.now) k (length hits)

  pub on-records : Searches ix q k t (lengths_of w) w'.states.now w w' hits hits' r → ReadBack words b b' w' (used r (held (length b.states.now))) → SameWorkBuffers b b'
      → Searches ix q k t (records_room b) (record_words b'.states.now) b b' hits hits' r
  on-records s back all =
      let v = lengths_of w in
      let told = search-told ix q v k t (length hits) r s.numbers ∙ same in
      record {
        numbers = s.numbers ∙ search-answer-by ix q v (records_room b) k t (length hits) same;
        hits_after = s.hits_after ∙ search-hits-by ix q v (records_room b) k hits same;
        kept = records-kept words b w long lent b' w' s.same_buffers r back _ told (subst (λ (z : ℕ). KeptBuffers z w w') same s.kept);
        standing = λ z. records-stand words b w long lent b' w' s.same_buffers r back ix q no_more_docs (told ∙ z) (s.standing (same ∙ z));
        same_buffers = all;
      }
