-- The steps give what `narrow` of the definitions gives.
use mathlib.Core.Path.{◌∙◌}
use Rattle.ieee754.proofs.InSteps.{in-steps-all}
use Rattle.ieee754.proofs.narrow.Goals as goal

pub returns : goal.returns
returns c = c.narrow_in_steps.ensures ∙ in-steps-all c.args.x
