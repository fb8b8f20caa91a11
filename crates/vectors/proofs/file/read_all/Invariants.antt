-- No more was read than there is room for; each turn leaves less room.
use Rattle.std.proofs.Common.{◌≤◌, length, ◌-◌}
use Rattle.vectors.proofs.file.read_all.Given as goal

abbrev pub invariant-loop-done : goal.invariant-loop-done
invariant-loop-done g l = l.done ≤ length l.bytes

abbrev pub decreases-loop-done : goal.decreases-loop-done
decreases-loop-done g l = length l.initial.bytes - l.done
