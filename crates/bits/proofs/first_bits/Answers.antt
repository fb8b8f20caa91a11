use Rattle.bits.proofs.Laws.{bit-first}
use Rattle.bits.proofs.first_bits.Goals as goal

pub returns : goal.returns
returns c = λ q. bit-first q c.args.n c.requires
