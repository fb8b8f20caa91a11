-- A score that the code keeps or not, and a Bool as 1 or 0. Assumes nothing.
use mathlib.Core.Path.{◌≡◌, refl}
use mathlib.Core.Bool.{Bool, true, false, cond}
use Prim.Native.Nat.{ℕ}
use native.Mathlib.Omega.{arith}
use mir.Val.{bool_byte}
use lib.Ieee.{Float, binary32, of_bits}
use Rattle.std.specs.Prelude.{Option, Some, None, is_some}
use Rattle.std.specs.Option.{unwrap_or}
use Rattle.tree_words.specs.Placed.{kept_score}

-- the score that is kept, or another
pub kept-or : (o : Option Float) (x : Float) → unwrap_or o x ≡ cond (is_some o) (kept_score o) x
kept-or (Some y) x = refl
kept-or None x = refl

-- the score that is kept, or 0
pub unwrap-zero : (o : Option Float) → unwrap_or o (of_bits binary32 0) ≡ kept_score o
unwrap-zero (Some y) = refl
unwrap-zero None = refl

pub not-none : (b : Bool) → b ≡ true → ◌≡◌ {A = ℕ} (cond b 1 0) 0 → ⊥
not-none true e z = omega (arith, z)
not-none false e z = cc

pub byte-is : (b : Bool) → bool_byte b ≡ cond b 1 0
byte-is true = refl
byte-is false = refl
