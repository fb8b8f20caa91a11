-- The documents from the cursor up to `low` are below the target; each turn moves `low` on.
use Rattle.std.proofs.Common.{◌-◌}
use Rattle.run.proofs.Runs.{Front}
use Rattle.run.proofs.Postings.gallop.Given as goal

abbrev pub invariant-loop-step : goal.invariant-loop-step
invariant-loop-step l = Front l.self.words.now l.self.stride l.self.first l.self.count l.from l.target l.low

abbrev pub decreases-loop-step : goal.decreases-loop-step
decreases-loop-step l = l.self.count - l.low
