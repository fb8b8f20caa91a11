use Rattle.bits.proofs.Laws.{bit-others}
use Rattle.bits.proofs.Lists.{first-set}
use Rattle.bits.proofs.without_lowest.Goals as goal

pub returns-clause-others : goal.returns-clause-others
returns-clause-others c = λ t l q. bit-others q t c.args.w l.set l.below

pub returns-clause-listed : goal.returns-clause-listed
returns-clause-listed c = λ t l. first-set c.args.w t l
