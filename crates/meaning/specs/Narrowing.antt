-- convertFormat to binary32 in the steps of IEEE 754-2019's text, to be read beside it. `narrow` of Ieee754 is the same function in one piece (`ieee754` InSteps).
-- A value is m × 2^e with the sign s, any number m and any exponent e. Rounding is to nearest, at a tie to even (roundTiesToEven). Assumes nothing: these are definitions.
use Rattle.std.specs.Prelude.{Bool, cond, ℕ, suc, ◌+◌, ◌-◌, ◌*◌, ◌/◌, ◌%◌, ◌^◌, leb, ltb, ℤ, pos, negsuc, Float}
use Prim.Native.Nat.{compare}
use Rattle.std.specs.Float.{nan, inf, fin}
use Rattle.std.specs.Float.Ieee.{up, down, size, nearest, odd}

-- n / u to the nearest whole number, at a tie to the even one
abbrev pub to_nearest : ℕ → ℕ → ℕ
to_nearest n u = nearest (n / u) (compare (n % u * 2) u)

-- the binary digits of m beyond the 24 that binary32 keeps
abbrev pub dropped : ℕ → ℕ
dropped m = size m - 24

-- 1. (4.3.1, and 7.4's "were the exponent range unbounded") Round as if the exponent had no limits. The result is `rounded m` × 2^(e + dropped m);
-- `rounded m` has 24 digits, or fewer where m has, or is 2^24 after a carry.
abbrev pub rounded : ℕ → ℕ
rounded m = to_nearest m (2 ^ dropped m)

-- 2. (7.4) Overflow: the result of step 1 exceeds the largest finite value, so it is 2^128 or more. Rounding to nearest then gives the infinity of its sign (4.3.1).
abbrev pub overflows : ℕ → ℤ → Bool
overflows m e = leb (2 ^ 128 * down e) (rounded m * 2 ^ dropped m * up e)

-- 3. (7.5, "before rounding") The subnormal case: the value itself lies below 2^-126, the least normal value.
abbrev pub tiny : ℕ → ℤ → Bool
tiny m e = ltb (m * up e * 2 ^ 126) (down e)

-- Then the result is the multiple of 2^-149 that is nearest to the value itself, not to the result of step 1.
abbrev pub subnormal : Bool → ℕ → ℤ → Float
subnormal s m e = odd 25 s (to_nearest (m * up e * 2 ^ 149) (down e)) 0 149

-- q × 2^(k + e) as a Float, in the one way in which it is written; q has at most 25 digits
abbrev pub float : Bool → ℕ → ℕ → ℤ → Float
float s q k (pos e) = odd 25 s q (k + e) 0
float s q k (negsuc e) = odd 25 s q k (suc e)

-- The steps in their order; where neither 2 nor 3 holds the result is that of step 1. NaN and the infinities stay.
unfoldable pub narrow_in_steps : Float → Float
unfolding odd size
narrow_in_steps nan = nan
narrow_in_steps (inf s) = inf s
narrow_in_steps (fin s m e) = cond (overflows m e) (inf s) (cond (tiny m e) (subnormal s m e) (float s (rounded m) (dropped m) e))
