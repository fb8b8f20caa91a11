use Rattle.bits.proofs.Laws.{bit-or}
use Rattle.bits.proofs.either.Goals as goal

pub returns : goal.returns
returns c = λ q. bit-or q c.args.a c.args.b
