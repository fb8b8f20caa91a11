-- The first i words of the record stand at the front, and the others are as they were.
use Rattle.std.proofs.Common.{◌≡◌, ◌++◌, ◌≤◌, take, drop}
use Rattle.meaning.specs.Limits.{node_state_words}
use Rattle.tree_words.proofs.place.put.Given as goal

abbrev pub invariant-loop-i : goal.invariant-loop-i
invariant-loop-i l = record { written : l.states ≡ take l.i l.words ++ drop l.i l.initial.states; within : l.i ≤ node_state_words }
