-- The rounded pattern overflows, is normal or is subnormal: what each of the three gives.
use mathlib.Core.Path.{sym, ap, ◌∙◌, subst}
use Prim.Native.Nat.{ℕ, ◌-◌, ◌*◌, ◌^◌, ◌≤◌, ◌<◌}
use native.Mathlib.Omega.{arith}
use lib.Ieee.{binary32, of_bits}
use Rattle.ieee754.proofs.NarrowSteps.{nan-free}
use Rattle.ieee754.proofs.PatternSteps.{pattern-is, overflow-large, overflow-small, steps-normal, steps-large}
use Rattle.ieee754.proofs.convert_format.in_steps.Goals as goal

pub returns-then-overflows : goal.returns-then-overflows
returns-then-overflows c =
    let p = c.rounded-pattern.result in
    let l = overflow-large p (sym c.overflows.ensures ∙ c.if-overflows.true) in
    steps-large c.args.bits c.requires (subst (λ (n : ℕ). 1151 * 2 ^ 23 ≤ n) (pattern-is c.args.bits p c.rounded-pattern.ensures) l)

-- where step 2 does not hold
small : (c : goal.Else-bits-lt4039728865751334912) → c.rounded-pattern.result < 1151 * 2 ^ 23
small c = overflow-small c.rounded-pattern.result (sym c.overflows.ensures ∙ c.if-overflows.false)

pub overflow_cast-result : goal.overflow_cast-result
overflow_cast-result c = omega (arith, small c)

pub float_from_bits-result : goal.float_from_bits-result
float_from_bits-result c = nan-free (c.rounded-pattern.result - 896 * 2 ^ 23) (omega (arith, small c))

pub returns : goal.returns
returns c =
    let e = pattern-is c.args.bits c.rounded-pattern.result c.rounded-pattern.ensures in
    ap (λ (n : ℕ). of_bits binary32 (n - 896 * 2 ^ 23)) e
    ∙ steps-normal c.args.bits c.requires c.if-bits-lt4039728865751334912.false (subst (λ (n : ℕ). n < 1151 * 2 ^ 23) e (small c))
