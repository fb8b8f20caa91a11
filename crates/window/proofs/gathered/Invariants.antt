-- The documents of the postings before the i-th are set in `w`, and all are below the window's end.
use Rattle.window.proofs.Gathering.{Gathering}
use Rattle.window.proofs.gathered.Given as goal

abbrev pub invariant-loop-i : goal.invariant-loop-i
invariant-loop-i l = Gathering l.postings.words.now l.postings.stride l.postings.first l.postings.count l.base l.from l.i l.w
