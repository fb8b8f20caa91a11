-- One addition in binary64.
use Rattle.std.proofs.Common.{refl}
use Rattle.ieee754.proofs.add_score.Goals as goal

pub returns : goal.returns
returns c = refl
