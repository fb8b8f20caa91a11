-- The frequencies of the postings from the cursor to the i-th are added to their documents' counts.
use Rattle.token_norms.proofs.Adding.{Adding}
use Rattle.token_norms.proofs.add_run.Given as goal

abbrev pub invariant-loop-i : goal.invariant-loop-i
invariant-loop-i l = Adding l.postings l.first l.number l.base l.initial.counts l.i l.counts
