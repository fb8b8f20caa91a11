-- No document from `from` up to the target is a live match; each turn moves the target on.
use Prim.Native.Nat.{◌-◌, ◌≤◌}
use Rattle.meaning.specs.Limits.{no_more_docs}
use Rattle.scorer.specs.Calls.{lists_of}
use Rattle.scorer_leaf.specs.Buffers.{SameBuffers}
use Rattle.walk.proofs.Walking.{WalkAt}
use Rattle.walk.proofs.next_match.Given as goal

abbrev pub invariant-loop-from : goal.invariant-loop-from
invariant-loop-from l =
    record {
      same_buffers : SameBuffers l.initial.buffers l.buffers;
      from : l.from ≤ l.target;
      top : l.target ≤ no_more_docs;
      passed : WalkAt (lists_of l.reader) l.reader.live.now l.initial.states l.from l.depth l.states l.target;
    }

abbrev pub decreases-loop-from : goal.decreases-loop-from
decreases-loop-from l = no_more_docs - l.target
