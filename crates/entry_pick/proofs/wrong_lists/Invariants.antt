-- The flag says whether one of the documents passed is wrong, the first among them.
use Rattle.std.proofs.Common.{◌≡◌}
use Rattle.meaning.specs.Below.{any_below}
use Rattle.meaning.specs.CallRefusals.{wrong_picked}
use Rattle.entry_pick.proofs.wrong_lists.Given as goal

abbrev pub invariant-loop-i : goal.invariant-loop-i
invariant-loop-i l = l.bad ≡ any_below l.i (wrong_picked l.documents l.scores)
