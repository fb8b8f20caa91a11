use Rattle.bits.proofs.Laws.{bit-cleared}
use Rattle.bits.proofs.without.Goals as goal

pub returns : goal.returns
returns c = λ q h. bit-cleared q c.args.a c.args.b c.ranges.b.fits h
