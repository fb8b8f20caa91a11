-- Children are one level deeper. The sum is that of the children before `at`, added in the order of their parts.
use Prim.Native.Nat.{◌+◌, ◌-◌, ◌*◌}
use lib.ListN.{length}
use mathlib.Core.Path.{◌≡◌}
use Rattle.scorer_leaf.specs.Buffers.{places_in, SameBuffers}
use Rattle.score.proofs.Loops.{RequiredAt, OptionalAt}
use Rattle.score.proofs.+joined_optional_required_score.Given as goal

abbrev pub decreases-joined : goal.decreases-joined
decreases-joined l = l.depth * 8 + 4

abbrev pub decreases-optional : goal.decreases-optional
decreases-optional l = l.depth * 8 + 3

abbrev pub decreases-required : goal.decreases-required
decreases-required l = l.depth * 8 + 3

abbrev pub decreases-score : goal.decreases-score
decreases-score l = l.depth * 8 + 1

abbrev pub invariant-optional-loop-at : goal.invariant-optional-loop-at
invariant-optional-loop-at l =
    record {
      long : length l.kids ≡ length l.initial.kids;
      same_buffers : SameBuffers l.initial.buffers l.buffers;
      sum : OptionalAt l.initial.kids l.reader (places_in l.initial.buffers) l.doc l.depth l.kids l.at l.sum;
    }

abbrev pub decreases-optional-loop-at : goal.decreases-optional-loop-at
decreases-optional-loop-at l = length l.kids - l.at

abbrev pub invariant-required-loop-at : goal.invariant-required-loop-at
invariant-required-loop-at l =
    record {
      long : length l.kids ≡ length l.initial.kids;
      same_buffers : SameBuffers l.initial.buffers l.buffers;
      sum : RequiredAt l.initial.kids l.start l.reader (places_in l.initial.buffers) l.doc l.depth l.kids l.at l.sum;
    }

abbrev pub decreases-required-loop-at : goal.decreases-required-loop-at
decreases-required-loop-at l = length l.kids - l.at
