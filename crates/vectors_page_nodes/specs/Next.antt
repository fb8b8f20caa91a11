-- The next match that a page tells. Assumes nothing: these are definitions.
use Rattle.std.specs.Prelude.{List, ℕ, cond, eqb, Option, Some, None, IfSome, Result, Ok, Err}
use Rattle.meaning.specs.Limits.{no_more_docs}
use Rattle.meaning.specs.Lent.{Index}
use Rattle.walk.specs.declared.Listed.{Listed}
use Rattle.refusal.specs.declared.Refusal.{Refusal}
use Rattle.searcher.specs.declared.buffers.Buffers.{Buffers}
use Rattle.tree_words.specs.declared.state.NodeState.{NodeState}
use Rattle.tree_records.specs.Records.{record_words}
use Rattle.tree_records.specs.Standing.{Standing}

-- none where the call was refused, or no match is left
abbrev pub next_of : Result Listed Refusal → Option ℕ
next_of (Err _) = None
next_of (Ok l) = cond (eqb l.next no_more_docs) None (Some l.next)

-- such a match's tree stands in the records
pub record StandsNext (ix : Index) (q : List ℕ) (r : Result Listed Refusal) (b : Buffers NodeState) : Type 0 where
  pub stands : IfSome (next_of r) (Standing ix q b.ranges.now (record_words b.states.now))
