-- Page on the words of as many states as an order can need, and on all records: the same answer, and the same tree. Assumes nothing.
use mathlib.Core.Path.{◌≡◌, refl, sym, ap, ◌∙◌, subst}
use mathlib.Core.List.{List}
use mathlib.Core.Option.{none}
use Prim.Native.Nat.{ℕ, ◌*◌, ◌≤◌}
use native.Mathlib.Omega.{arith}
use lib.ListN.{length, take}
use Rattle.meaning.specs.Limits.{node_state_words}
use Rattle.meaning.specs.Lent.{Index}
use Rattle.meaning.specs.Bm25.{one}
use Rattle.meaning.specs.CallRefusals.{Work, states_needed}
use Rattle.meaning.specs.Entries.{page_refusal}
use Rattle.tree_weight.specs.State.{size_of}
use Rattle.tree_weight.proofs.Queries.{query-size}
use Rattle.check_order.proofs.Rooms.{states-room}
use Rattle.check_order.proofs.CallConditions.{page-lends}
use Rattle.std.specs.Prelude.{Result}
use Rattle.walk.specs.declared.Listed.{Listed}
use Rattle.refusal.specs.declared.Refusal.{Refusal}
use Rattle.searcher.specs.Answers.{used}
use Rattle.searcher.specs.declared.buffers.Buffers.{Buffers}
use Rattle.searcher.specs.WorkBuffers.{lengths_of, records_room, KeptBuffers, SameWorkBuffers, WordsLent, ReadBack}
use Rattle.searcher.specs.Pages.{Pages, Resumable}
use Rattle.searcher.proofs.Fewer.{page-refusal-same, page-answer-by, page-documents-by, page-scores-by}
use Rattle.searcher.proofs.OnRecords.{page-told, lengths-are, records-out, records-kept, records-stand}
use Rattle.tree_words.specs.declared.state.NodeState.{NodeState}
use Rattle.tree_records.specs.Records.{record_words, held}
use Rattle.tree_records.specs.Standing.{order_tree}

-- the tree of an order that is not refused has room in the words
tree-room : (ix : Index) (q : List ℕ) (target : ℕ) (v : Work) (documents scores : ℕ) → page_refusal ix q target v documents scores ≡ 0 → size_of (order_tree ix q) ≤ v.states
unfolding states_needed
tree-room ix q target v documents scores z =
    let l = page-lends ix q target v documents scores 0 (sym z) refl in
    let size = query-size q l.asks.records-right ix one none in
    let enough = states-room ix q v l.long in
    omega (arith, size, enough)

-- a call with the words of the records in their place
module _ (ix : Index) (q : List ℕ) (target : ℕ) (words : List ℕ) (b : Buffers NodeState) (w : Buffers ℕ) (documents scores : List ℕ) (long : node_state_words * held (length b.states.now) ≤ length words) (lent : WordsLent words b w) where
  abbrev v : Work
  v = lengths_of w

  same : page_refusal ix q target v (length documents) (length scores) ≡ page_refusal ix q target (records_room b) (length documents) (length scores)
  same =
      ap (λ (u : Work). page_refusal ix q target u (length documents) (length scores)) (lengths-are words b w long lent)
      ∙ page-refusal-same ix q (length b.starts.now) (length b.other_starts.now) (length b.ranges.now) (length b.states.now) target (length documents) (length scores)

  -- what stands in the records stands in the words that were copied out
  pub copied-out : take (node_state_words * held (length b.states.now)) words ≡ record_words (take (held (length b.states.now)) b.states.now)
      → Resumable ix q target (records_room b) (record_words b.states.now) b documents scores → Resumable ix q target v w.states.now w documents scores
  copied-out e s z = records-out words b w long lent ix q target e (tree-room ix q target v (length documents) (length scores) z) (s (sym same ∙ z))

  -- the records that the call used were read from the words
  pub on-records : (b' : Buffers NodeState) (w' : Buffers ℕ) (documents' scores' : List ℕ) (r : Result Listed Refusal) → Pages ix q target v w'.states.now w w' documents documents' scores scores' r → ReadBack words b b' w' (used r (held (length b.states.now))) → SameWorkBuffers b b'
      → Pages ix q target (records_room b) (record_words b'.states.now) b b' documents documents' scores scores' r
  on-records b' w' documents' scores' r p back all =
      let told = page-told ix q v target (length documents) (length scores) r p.numbers ∙ same in
      record {
        numbers = p.numbers ∙ page-answer-by ix q v (records_room b) target (length documents) (length scores) same;
        documents_after = p.documents_after ∙ page-documents-by ix q v (records_room b) target documents scores same;
        scores_after = p.scores_after ∙ page-scores-by ix q v (records_room b) target documents scores same;
        kept = records-kept words b w long lent b' w' p.same_buffers r back _ told (subst (λ (z : ℕ). KeptBuffers z w w') same p.kept);
        standing = λ z. records-stand words b w long lent b' w' p.same_buffers r back ix q _ (told ∙ z) (p.standing (same ∙ z));
        same_buffers = all;
      }
