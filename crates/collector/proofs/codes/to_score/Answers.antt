-- The score is the float that has the code's upper half as its bits.
use Rattle.std.proofs.Common.{rules}
use Rattle.meaning.specs.Hits.{to_score}
use Rattle.collector.proofs.codes.to_score.Goals as goal

pub returns : goal.returns
unfolding to_score
returns c = search rules
