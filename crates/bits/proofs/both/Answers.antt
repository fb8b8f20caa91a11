use Rattle.bits.proofs.Laws.{bit-and}
use Rattle.bits.proofs.both.Goals as goal

pub returns : goal.returns
returns c = λ q. bit-and q c.args.a c.args.b
