-- Rounding to 24 digits takes 29 of the 53 away.
use mathlib.Core.Path.{ap, ◌∙◌}
use Prim.Native.Nat.{ℕ, ◌+◌, ◌^◌}
use Rattle.ieee754.proofs.PatternSteps.{rounded-pattern}
use Rattle.ieee754.proofs.convert_format.rounded.Goals as goal

pub returns : goal.returns
returns c = ap (λ (p : ℕ). p + 2 ^ 23) c.nearest.ensures ∙ rounded-pattern c.args.bits
