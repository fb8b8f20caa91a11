-- The range's bitmap is a part of the range buffer, and its next set bit the range's next document.
use Rattle.scorer_leaf.proofs.Bitmaps.{range-slice}
use Rattle.scorer_leaf.proofs.seek_range.Goals as goal

pub returns : goal.returns
returns c = range-slice c.args.ranges.now c.args.states.now c.args.target c.next_set.result c.next_set.ensures
