-- The documents from the cursor up to `at` are below the target.
use Rattle.run.proofs.Runs.{Front}
use Rattle.run.proofs.Postings.lower.Given as goal

abbrev pub invariant-loop-at : goal.invariant-loop-at
invariant-loop-at l = Front l.self.words.now l.self.stride l.self.first l.self.count l.from l.target l.at
