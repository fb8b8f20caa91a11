-- Each or has its mark just where a record before this one is wrong; without a high bit, documents rise up to `floor`.
use Rattle.check_postings.proofs.Records.{Records}
use Rattle.check_postings.proofs.wrong_records.Given as goal

abbrev pub invariant-loop-doc : goal.invariant-loop-doc
invariant-loop-doc l = Records l.run l.doc-index l.steps l.frequencies l.indexes l.floor
