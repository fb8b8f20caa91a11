-- The norm bytes of the fields before f are written.
use Rattle.token_norms.proofs.Norms.{Coded}
use Rattle.token_norms.proofs.write_norms.Given as goal

abbrev pub invariant-loop-f : goal.invariant-loop-f
invariant-loop-f l = Coded l.max_doc l.fields l.leaf_fields l.postings l.runs l.initial.norms l.f l.at l.norms
