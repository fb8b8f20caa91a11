-- The bit is tested as the lowest digit of the shifted word.
use Rattle.bits.proofs.Laws.{bit-tested}
use Rattle.bits.proofs.is_set.Goals as goal

pub returns : goal.returns
returns c = bit-tested c.args.p c.args.w
