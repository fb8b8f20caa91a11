-- Narrowing at every border: binary64 patterns, the binary32 pattern of each and the step that decides (request
-- 2026-04). Values are compared, since `to_bits` would give 2^128 the pattern of the infinity. Assumes nothing.
use mathlib.Core.Path.{◌≡◌, refl}
use Prim.Native.Nat.{ℕ}
use lib.Ieee.{Float, binary32, binary64, of_bits, of_fields, round, units, odd, size, span, climb}
use lib.Count.{count_trailing_zeros}
use Rattle.meaning.specs.Ieee754.{narrow}
use Rattle.meaning.specs.Narrowing.{narrow_in_steps}

data Row : Type 0 where
  -- 1 + 2^-24 and 1 + 3 × 2^-24, the f64 below 2^128 - 2^103: step 1
  tie_down tie_up largest : Row
  -- 2^128 - 2^103, the largest f64: step 2, the first after a carry
  carry beyond : Row
  -- 2^-126 and 2^-125 + 2^-149: step 1, neither is tiny
  least_normal tie_above_normal : Row
  -- 2^-126 - 2^-150 and the f64 below 2^-126: step 3
  tie_below_normal below_normal : Row
  -- the f64 below 1.5 × 2^-149, which rounded twice would be 2 × 2^-149: step 3
  twice : Row
  -- 2^-150, the f64 above it, 2^-1074, 0: step 3
  half above_half least_subnormal zero_row : Row

pattern : Row → ℕ
pattern tie_down = 0x3ff0_0000_1000_0000
pattern tie_up = 0x3ff0_0000_3000_0000
pattern largest = 0x47ef_ffff_efff_ffff
pattern carry = 0x47ef_ffff_f000_0000
pattern beyond = 0x7fef_ffff_ffff_ffff
pattern least_normal = 0x3810_0000_0000_0000
pattern tie_above_normal = 0x3820_0000_1000_0000
pattern tie_below_normal = 0x380f_ffff_e000_0000
pattern below_normal = 0x380f_ffff_ffff_ffff
pattern twice = 0x36a7_ffff_ffff_ffff
pattern half = 0x3690_0000_0000_0000
pattern above_half = 0x3690_0000_0000_0001
pattern least_subnormal = 1
pattern zero_row = 0

expected : Row → ℕ
expected tie_down = 0x3f80_0000
expected tie_up = 0x3f80_0002
expected largest = 0x7f7f_ffff
expected carry = 0x7f80_0000
expected beyond = 0x7f80_0000
expected least_normal = 0x0080_0000
expected tie_above_normal = 0x0100_0000
expected tie_below_normal = 0x0080_0000
expected below_normal = 0x0080_0000
expected twice = 1
expected half = 0
expected above_half = 1
expected least_subnormal = 0
expected zero_row = 0

abbrev value : Row → Float
value r = of_bits binary64 (pattern r)

table : (r : Row) → narrow_in_steps (value r) ≡ of_bits binary32 (expected r)
unfolding pattern expected narrow_in_steps of_bits of_fields odd size span climb count_trailing_zeros
table tie_down = refl
table tie_up = refl
table largest = refl
table carry = refl
table beyond = refl
table least_normal = refl
table tie_above_normal = refl
table tie_below_normal = refl
table below_normal = refl
table twice = refl
table half = refl
table above_half = refl
table least_subnormal = refl
table zero_row = refl

table_in_one_piece : (r : Row) → narrow (value r) ≡ of_bits binary32 (expected r)
unfolding pattern expected narrow of_bits of_fields round units odd size span climb count_trailing_zeros
table_in_one_piece tie_down = refl
table_in_one_piece tie_up = refl
table_in_one_piece largest = refl
table_in_one_piece carry = refl
table_in_one_piece beyond = refl
table_in_one_piece least_normal = refl
table_in_one_piece tie_above_normal = refl
table_in_one_piece tie_below_normal = refl
table_in_one_piece below_normal = refl
table_in_one_piece twice = refl
table_in_one_piece half = refl
table_in_one_piece above_half = refl
table_in_one_piece least_subnormal = refl
table_in_one_piece zero_row = refl
