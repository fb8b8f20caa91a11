use Rattle.bits.proofs.Laws.{bit-set}
use Rattle.bits.proofs.set_bit.Goals as goal

pub returns : goal.returns
returns c = λ q. bit-set q c.args.w c.args.p c.requires
