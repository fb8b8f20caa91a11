-- The live documents of the postings before this one are collected.
use Rattle.bulk_term.proofs.TermRoot.{TermsAt}
use Rattle.bulk_term.proofs.collect_term.Given as goal

abbrev pub invariant-loop-doc : goal.invariant-loop-doc
invariant-loop-doc l = TermsAt l.fn.reader l.n l.doc_base l.fn.c l.fn.heap l.c l.heap l.doc-index
