-- The records before `done` are plainly right, but that `fallen` of their documents are not above the one before.
use Rattle.std.proofs.Common.{◌≤◌, min}
use Rattle.check_leaves.proofs.Blocks.{Passed}
use Rattle.check_leaves.proofs.plain_run.Given as goal

abbrev pub invariant-loop-done : goal.invariant-loop-done
invariant-loop-done l = Passed l.run l.positions (min l.done l.count) l.fallen × (1 ≤ l.done)
