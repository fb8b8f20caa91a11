-- Which patterns are numbers. Assumes nothing.
use mathlib.Core.Path.{sym, ◌∙◌, subst}
use mathlib.Core.Bool.{Bool, not}
use Prim.Native.Nat.{ℕ, ◌*◌, ◌%◌, ◌≤◌}
use lib.Dec.{T}
use lib.Ieee.{Format, nan_bits, top, ones, hid}
use lib.Ieee.Bits.{nan_bits_above}
use borrow.Author.Tests.{le-ltb}

-- a pattern that is at most infinity's, the sign apart, is no NaN's
pub number : (f : Format) (n : ℕ) → n % top f ≤ ones f * hid f → T (not (nan_bits f n))
number f n h = subst (λ (z : Bool). T (not z)) (sym (nan_bits_above f n ∙ le-ltb (ones f * hid f) (n % top f) h)) tt
