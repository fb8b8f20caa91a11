use Rattle.std.proofs.Common.{arith}
use Rattle.std.proofs.lemmas.Grind.{common_steps}
use Rattle.phrase.specs.Step.{unmet_from}
use Rattle.phrase.proofs.unmet.Goals as goal

pub returns : goal.returns
unfolding unmet_from
returns c = grind (arith, common_steps)
