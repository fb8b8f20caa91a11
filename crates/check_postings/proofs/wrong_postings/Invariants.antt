-- `bad` says whether a leaf before `l` has a wrong run; each turn leaves fewer leaves.
use Rattle.std.proofs.Common.{◌≡◌, ◌-◌, ◌≤◌}
use Rattle.meaning.specs.Below.{any_below}
use Rattle.index.specs.IndexOf.{index_of}
use Rattle.check_postings.proofs.From.{wrong_leaf_run}
use Rattle.check_postings.proofs.wrong_postings.Given as goal

abbrev pub invariant-loop-l : goal.invariant-loop-l
invariant-loop-l l = (l.bad ≡ any_below l.l (wrong_leaf_run (index_of l.lent))) × (l.l ≤ l.count)

abbrev pub decreases-loop-l : goal.decreases-loop-l
decreases-loop-l l = l.count - l.l
