use Rattle.std.proofs.Common.{refl}
use Rattle.meaning.specs.QueryRefusals.{wrong_range}
use Rattle.index.proofs.columns.wrong_range.Goals as goal

pub returns : goal.returns
unfolding wrong_range
returns c = refl
