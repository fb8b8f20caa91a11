-- The terms before the word `at` are good, and the first one's starts have room.
use Rattle.vectors_phrase.proofs.Checks.{Seen}
use Rattle.vectors_phrase.proofs.is_good.Given as goal

abbrev pub invariant-loop-at : goal.invariant-loop-at
invariant-loop-at l = Seen l.positions l.terms l.places l.at
