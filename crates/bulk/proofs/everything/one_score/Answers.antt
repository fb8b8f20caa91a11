-- Where there is no frequency a document scores the constant, or 0 without one.
use Rattle.bulk.proofs.AnyRoot.{constant_number, score-or-zero}
use Rattle.bulk.proofs.everything.one_score.Goals as goal

pub constant_score-requires : goal.constant_score-requires
constant_score-requires c = λ e. constant_number c.requires.0 c.args.n c.requires.1

pub returns : goal.returns
returns c = rw c.unwrap_or.ensures (score-or-zero c.args.n _ c.constant_score.ensures)
