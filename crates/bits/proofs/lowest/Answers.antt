use Rattle.bits.proofs.Laws as laws
use Rattle.bits.proofs.lowest.Goals as goal

pub returns : goal.returns
returns c = laws.lowest c.args.w c.ranges.w.fits c.requires
