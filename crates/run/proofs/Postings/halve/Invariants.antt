-- Documents before `low` are below the target, those from `high` on are not; each turn halves what is between.
use Rattle.std.proofs.Common.{◌-◌}
use Rattle.run.proofs.Runs.{Ends}
use Rattle.run.proofs.Postings.halve.Given as goal

abbrev pub invariant-loop-low : goal.invariant-loop-low
invariant-loop-low l = Ends l.self.words.now l.self.stride l.self.first l.self.count l.from l.target l.low l.high

abbrev pub decreases-loop-low : goal.decreases-loop-low
decreases-loop-low l = l.high - l.low
