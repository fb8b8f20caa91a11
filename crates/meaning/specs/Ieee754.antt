-- What document 01 takes from IEEE 754 beyond the operations of `lib.Ieee`. Assumes nothing: these are definitions.
use Rattle.std.specs.Prelude.{Bool, true, false, cond, List, [], ◌∷◌, ℕ, zero, suc, ◌+◌, ◌-◌, ◌*◌, ◌%◌, ◌^◌, leb, ltb, ℤ, pos, negsuc, Float}
use Rattle.std.specs.Float.{nan, inf, fin, binary32, binary64}
use Rattle.std.specs.Float.Ieee.{up, down, round, add, of_bits, to_bits}

-- +0, where sums begin
abbrev pub zero_float : Float
zero_float = fin false 0 (pos 0)

-- convertFormat to binary32, to the nearest value, at a tie to the even one: "narrowed to f32"
unfoldable pub narrow : Float → Float
narrow nan = nan
narrow (inf s) = inf s
narrow (fin s m e) = round binary32 s (m * up e) (down e)

-- "added in f64 from 0", from the left
unfoldable pub sum_from : Float → List Float → Float
sum_from x [] = x
sum_from x (y ∷ ys) = sum_from (add binary64 x y) ys

-- "added in f64 from 0 .. then narrowed to f32"
unfoldable pub narrowed_sum : List Float → Float
narrowed_sum xs = narrow (sum_from zero_float xs)

-- totalOrder of two binary64 patterns, strictly: by the sign, then by the magnitude, which a negative pattern turns round
unfoldable pub total_below : ℕ → ℕ → Bool
total_below a b =
    cond (leb (2 ^ 63) a) (cond (leb (2 ^ 63) b) (ltb (b % 2 ^ 63) (a % 2 ^ 63)) true) (cond (leb (2 ^ 63) b) false (ltb a b))

-- nextUp of a binary32 value: the least one that compares greater
unfoldable pub next_up : Float → Float
next_up nan = nan
next_up (inf false) = inf false
next_up (inf true) = of_bits binary32 0xff7f_ffff
next_up (fin s zero e) = of_bits binary32 1
next_up (fin false (suc m) e) = of_bits binary32 (to_bits binary32 (fin false (suc m) e) + 1)
next_up (fin true (suc m) e) = of_bits binary32 (to_bits binary32 (fin true (suc m) e) - 1)

-- the sortable bits of a binary32 pattern (Lucene's floatToSortableInt): a negative one has its 31 lower bits turned over
unfoldable pub sortable_int : ℕ → ℤ
sortable_int b = cond (leb (2 ^ 31) b) (negsuc (b % 2 ^ 31)) (pos b)

-- and the pattern from them (sortableIntToFloat)
unfoldable pub sortable_bits : ℤ → ℕ
sortable_bits (pos n) = n
sortable_bits (negsuc n) = 2 ^ 31 + n
