-- Nothing is wrong before place i, and the next document must be at least `least`.
use Rattle.vectors_collector.proofs.Checks.{Seen}
use Rattle.vectors_collector.proofs.is_good.Given as goal

abbrev pub invariant-loop-i : goal.invariant-loop-i
invariant-loop-i l = Seen l.documents l.scores l.least l.i
