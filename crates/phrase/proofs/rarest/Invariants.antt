-- Of the records before the one at `at`, that at `best` is the first with the least frequency.
use Rattle.std.proofs.Common.{◌≡◌, ◌+◌, get_or}
use Rattle.phrase.proofs.LeastFrequency.{Passed}
use Rattle.phrase.proofs.rarest.Given as goal

abbrev pub invariant-loop-at : goal.invariant-loop-at
invariant-loop-at l = (l.least ≡ get_or l.terms (l.best + 1) 0) × Passed l.terms l.best l.at
