use Rattle.std.proofs.Common.{refl}
use Rattle.meaning.specs.IndexRefusals.{wrong1}
use Rattle.index.proofs.wrong_max_doc.Goals as goal

pub returns : goal.returns
unfolding wrong1
returns c = refl
