-- The pattern is rounded without its sign, and the sign goes through.
use mathlib.Core.Path.{sym, ap, ◌∙◌, subst}
use Prim.Native.Nat.{◌-◌, ◌^◌}
use mathlib.Core.Bool.{Bool, not}
use lib.Dec.{T}
use lib.Ieee.{binary64, fits, is_nan, neg, of_bits, to_bits}
use Rattle.ieee754.proofs.NarrowSteps.{plain-le, signed_le, plain-is, signed_is, nan_is}
use Rattle.ieee754.proofs.InSteps.{in-steps-all}
use Rattle.ieee754.proofs.convert_format.narrow_in_steps.Goals as goal

-- what is known once the first test failed
module _ (c : goal.Else-is_nan) where
  F : T (fits binary64 c.args.x)
  F = subst T (sym c.well_formed.0.1) tt

  N : T (not (is_nan c.args.x))
  N = subst (λ (b : Bool). T (not b)) (sym (sym c.is_nan.ensures.value ∙ c.if-is_nan.false)) tt

pub returns-then-is_nan : goal.returns-then-is_nan
returns-then-is_nan c = nan_is c.args.x (sym c.is_nan.ensures.value ∙ c.if-is_nan.true) ∙ sym (in-steps-all c.args.x)

pub float_to_bits-bits : goal.float_to_bits-bits
float_to_bits-bits c = N c

pub in_steps-requires : goal.in_steps-requires
in_steps-requires c = plain-le c.args.x (F c.before) (N c.before) c.if-bits-lt9223372036854775808.true

pub in_steps-requires-else-bits-lt9223372036854775808 : goal.in_steps-requires-else-bits-lt9223372036854775808
in_steps-requires-else-bits-lt9223372036854775808 c = signed_le c.args.x (F c.before) (N c.before) c.if-bits-lt9223372036854775808.false

pub returns-then-bits-lt9223372036854775808 : goal.returns-then-bits-lt9223372036854775808
returns-then-bits-lt9223372036854775808 c =
    let e = c.before.before in
    c.in_steps.ensures ∙ in-steps-all (of_bits binary64 (to_bits binary64 c.args.x)) ∙ plain-is c.args.x (F e) (N e) ∙ sym (in-steps-all c.args.x)

pub returns-else-bits-lt9223372036854775808 : goal.returns-else-bits-lt9223372036854775808
returns-else-bits-lt9223372036854775808 c =
    let e = c.before.before in
    ap neg (c.in_steps-else-bits-lt9223372036854775808.ensures ∙ in-steps-all (of_bits binary64 (to_bits binary64 c.args.x - 2 ^ 63)))
    ∙ signed_is c.args.x (F e) (N e) c.if-bits-lt9223372036854775808.false
    ∙ sym (in-steps-all c.args.x)
