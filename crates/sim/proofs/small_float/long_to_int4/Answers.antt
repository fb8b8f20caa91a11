-- 64 less the leading zeros is how many digits there are.
use Rattle.std.proofs.Common.{ℕ, ◌+◌, ◌-◌, ◌*◌, ◌/◌, ◌%◌, ◌^◌, ◌≤◌, ◌<◌, ap, ◌∙◌, subst, arith}
use Rattle.sim.proofs.Codes.{size-leading, size_few, long-few, long-many}
use Rattle.sim.proofs.small_float.long_to_int4.Goals as goal

pub overflow_cast-result : goal.overflow_cast-result
overflow_cast-result c =
    let i = c.args.i in
    let few = subst (λ (z : ℕ). z < 4) (size-leading i (omega (arith, c.ranges.i))) c.if-digits-lt4.true in
    omega (arith, size_few i few)

pub returns-then-digits-lt4 : goal.returns-then-digits-lt4
returns-then-digits-lt4 c =
    let i = c.args.i in
    long-few i (subst (λ (z : ℕ). z < 4) (size-leading i (omega (arith, c.ranges.i))) c.if-digits-lt4.true)

pub returns-else-digits-lt4 : goal.returns-else-digits-lt4
returns-else-digits-lt4 c =
    let i = c.args.i in
    let is = size-leading i (omega (arith, c.ranges.i)) in
    ap (λ (z : ℕ). (z - 4 + 1) * 8 + i / 2 ^ (z - 4) % 8) is ∙ long-many i (subst (λ (z : ℕ). 4 ≤ z) is c.if-digits-lt4.false)
