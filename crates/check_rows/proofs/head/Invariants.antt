-- `t` has what is gathered of the first i records.
use Rattle.check_rows.specs.Rows.{Over}
use Rattle.check_rows.proofs.head.Given as goal

abbrev pub invariant-loop-i : goal.invariant-loop-i
invariant-loop-i l = Over l.run l.i l.t
