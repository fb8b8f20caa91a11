-- `ByteLengths` holds the table to SmallFloat's lengths, byte by byte.
use Rattle.sim.proofs.ByteLengths.{entry-is}
use Rattle.sim.proofs.lengths.length_of.Goals as goal

pub returns : goal.returns
returns c = entry-is c.args.norm c.requires
