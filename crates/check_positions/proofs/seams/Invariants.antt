-- `falls` counts the records before the i-th whose first position is below the one before it.
use Rattle.std.proofs.Common.{◌≡◌}
use Rattle.meaning.specs.Below.{count_below}
use Rattle.check_positions.specs.Places.{seam_at}
use Rattle.check_positions.proofs.seams.Given as goal

abbrev pub invariant-loop-i : goal.invariant-loop-i
invariant-loop-i l = l.falls ≡ count_below l.i (seam_at l.run l.positions)
