-- After i turns the words are those that the first i turns put.
use Rattle.std.proofs.Common.{◌≡◌}
use Rattle.tree_records.proofs.Turns.{put_all}
use Rattle.tree_records.proofs.unpack.Given as goal

abbrev pub invariant-loop-i : goal.invariant-loop-i
invariant-loop-i l = l.words ≡ put_all l.nodes l.i l.initial.words
