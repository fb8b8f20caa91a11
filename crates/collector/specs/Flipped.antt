-- An int whose 31 lower bits are inverted where it is negative. Assumes nothing: this is a definition.
use Rattle.std.specs.Prelude.{◌-◌, ◌^◌, ℤ, pos, negsuc}

abbrev pub flipped : ℤ → ℤ
flipped (pos n) = pos n
flipped (negsuc n) = negsuc (2 ^ 31 - 1 - n)
