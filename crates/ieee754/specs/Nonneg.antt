-- Floats that are not negative, and bounds on them. Assumes nothing: these are definitions.
use Rattle.std.specs.Prelude.{ℕ, ◌*◌, ◌≤◌, Bool, false, not, T, Float}
use Rattle.std.specs.Float.{nan, inf, fin}
use Rattle.std.specs.Float.Ieee.Positive.{num, den}

-- finite, and the sign is clear
abbrev pub nonneg : Float → Bool
nonneg nan = false
nonneg (inf s) = false
nonneg (fin s m e) = not s

-- no NaN, and the sign is clear: plus infinity too
abbrev pub sign_clear : Float → Bool
sign_clear nan = false
sign_clear (inf s) = not s
sign_clear (fin s m e) = not s

-- finite, not negative, and at most the whole number p
pub record AtMost (p : ℕ) (x : Float) : Type 0 where
  pub sign : T (nonneg x)
  pub most : num x ≤ p * den x
