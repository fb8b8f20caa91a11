-- Children are one level deeper. The scores of the children before `at` are added to the sums, in the order of their
-- parts.
use Rattle.std.proofs.Common.{length, ◌-◌, ◌≡◌, ◌+◌, ◌*◌}
use Rattle.scorer_leaf.specs.Buffers.{room, other_room, SameBuffers}
use Rattle.window_score.specs.Asked.{reads_of}
use Rattle.window_score.proofs.Required.{RequiredAt}
use Rattle.window_score.proofs.Optional.{OptionalAt}
use Rattle.window_score.proofs.+boolean_scores_group_scores_node_scores_optional_scores_part_scores_required_scores_separate_scores_shared_scores.Given as goal

abbrev pub decreases-boolean_scores : goal.decreases-boolean_scores
decreases-boolean_scores l = 8 * l.depth + 5

abbrev pub decreases-group_scores : goal.decreases-group_scores
decreases-group_scores l = 8 * l.depth + 2

abbrev pub decreases-separate_scores : goal.decreases-separate_scores
decreases-separate_scores l = 8 * l.depth + 3

abbrev pub decreases-shared_scores : goal.decreases-shared_scores
decreases-shared_scores l = 8 * l.depth + 2

abbrev pub decreases-node_scores : goal.decreases-node_scores
decreases-node_scores l = 8 * l.depth

abbrev pub decreases-optional_scores : goal.decreases-optional_scores
decreases-optional_scores l = 8 * l.depth + 1

abbrev pub decreases-part_scores : goal.decreases-part_scores
decreases-part_scores l = 8 * l.depth + 4

abbrev pub decreases-required_scores : goal.decreases-required_scores
decreases-required_scores l = 8 * l.depth + 1

abbrev pub decreases-optional_scores-loop-at : goal.decreases-optional_scores-loop-at
decreases-optional_scores-loop-at l = length l.kids - l.at

abbrev pub decreases-required_scores-loop-at : goal.decreases-required_scores-loop-at
decreases-required_scores-loop-at l = length l.kids - l.at

abbrev pub invariant-optional_scores-loop-at : goal.invariant-optional_scores-loop-at
invariant-optional_scores-loop-at l =
    record {
      long : length l.kids ≡ length l.fn.kids;
      buffers : SameBuffers l.fn.buffers l.buffers;
      at : OptionalAt l.fn.kids l.fn.need (reads_of l.fn.window) (room l.fn.buffers) (other_room l.fn.buffers) l.fn.want l.fn.sums l.fn.depth l.kids l.at l.sums;
    }

abbrev pub invariant-required_scores-loop-at : goal.invariant-required_scores-loop-at
invariant-required_scores-loop-at l =
    record {
      long : length l.kids ≡ length l.fn.kids;
      buffers : SameBuffers l.fn.buffers l.buffers;
      at : RequiredAt l.fn.kids (reads_of l.fn.window) (room l.fn.buffers) (other_room l.fn.buffers) l.fn.want l.fn.sums l.fn.depth l.kids l.at l.sums;
    }
