-- Bit planes: at each place a number, its binary digits one in each word, the lowest first. Assumes nothing: these are
-- definitions.
use Rattle.std.specs.Prelude.{Bool, cond, List, [], ◌∷◌, ℕ, ◌+◌, ◌*◌}
use Rattle.bits.specs.Bit.{bit}

abbrev pub as_digit : Bool → ℕ
as_digit b = cond b 1 0

unfoldable pub count : ℕ → List ℕ → ℕ
count p [] = 0
count p (a ∷ rest) = as_digit (bit p a) + 2 * count p rest
