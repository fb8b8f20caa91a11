-- Shifting the sign through all bits makes the mask that inverts a negative int's lower bits.
use Rattle.collector.proofs.Halves.{turned}
use Rattle.collector.proofs.codes.flipped.Goals as goal

pub returns : goal.returns
returns c = turned c.args.i c.ranges.i
