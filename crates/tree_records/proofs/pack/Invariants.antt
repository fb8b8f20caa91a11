-- After i turns the records are those that the first i turns take from the words.
use Rattle.std.proofs.Common.{◌≡◌}
use Rattle.tree_records.proofs.Turns.{take_nodes}
use Rattle.tree_records.proofs.pack.Given as goal

abbrev pub invariant-loop-i : goal.invariant-loop-i
invariant-loop-i l = l.nodes ≡ take_nodes l.words l.i l.initial.nodes
