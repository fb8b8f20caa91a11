-- The unit of 2^-149 divides the digits, and the multiple is the pattern.
use mathlib.Core.Path.{◌≡◌, sym, ap, ◌∙◌, subst}
use Prim.Native.Nat.{ℕ, ◌+◌, ◌-◌, ◌/◌, ◌%◌, ◌^◌, ◌≤◌}
use native.Mathlib.Nat.{le_trans}
use native.Mathlib.Omega.{arith}
use lib.Dec.{lit≤}
use lib.Ieee.{binary32, of_bits}
use lib.Ieee.Nearest.{closest}
use Rattle.ieee754.proofs.NarrowSteps.{nan-free, unit-is, small-le}
use Rattle.ieee754.proofs.PatternSteps.{steps-zero, steps-subnormal}
use Rattle.ieee754.proofs.convert_format.subnormal.Goals as goal

pub returns-then-bits-lt3931642474694443008 : goal.returns-then-bits-lt3931642474694443008
returns-then-bits-lt3931642474694443008 c = steps-zero c.args.bits c.if-bits-lt3931642474694443008.true

-- the call, at the unit without the machine's modulus
first : (c : goal.After-nearest) → c.nearest.result ≡ closest (c.args.bits % 2 ^ 52 + 2 ^ 52) (2 ^ (926 - c.args.bits / 2 ^ 52))
first c = c.nearest.ensures ∙ ap (λ (u : ℕ). closest (c.args.bits % 2 ^ 52 + 2 ^ 52) u) (unit-is c.args.bits c.if-bits-lt3931642474694443008.false)

first-le : (c : goal.After-nearest) → c.nearest.result ≤ 2 ^ 23
first-le c = subst (λ (q : ℕ). q ≤ 2 ^ 23) (sym (first c)) (small-le c.args.bits c.requires)

pub overflow_cast-result : goal.overflow_cast-result
overflow_cast-result c = omega (arith, first-le c)

pub float_from_bits-result : goal.float_from_bits-result
float_from_bits-result c = nan-free c.nearest.result (le_trans (first-le c) (lit≤ tt))

pub returns : goal.returns
returns c = ap (of_bits binary32) (first c) ∙ steps-subnormal c.args.bits c.if-bits-lt3931642474694443008.false c.requires
