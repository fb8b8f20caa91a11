-- The value rises with the pattern, so one pattern is the least that overflows.
use Rattle.ieee754.proofs.PatternSteps.{overflow-is}
use Rattle.ieee754.proofs.convert_format.overflows.Goals as goal

pub returns : goal.returns
returns c = overflow-is c.args.pattern
