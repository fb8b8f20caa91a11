-- The three arrays have what is gathered of the rows before i, and of row i the words before j.
use Rattle.check_rows.proofs.Filling.{Filled}
use Rattle.check_rows.proofs.rows.Given as goal

abbrev pub invariant-loop-i : goal.invariant-loop-i
invariant-loop-i l = Filled l.part l.i 0 l.rises l.apart l.all

abbrev pub invariant-loop-j : goal.invariant-loop-j
invariant-loop-j l = Filled l.part l.i l.j l.rises l.apart l.all
