use Rattle.bits.proofs.Ranks as ranks
use Rattle.bits.proofs.rank.Goals as goal

pub returns : goal.returns
returns c = ranks.rank c.args.p c.args.w c.requires
