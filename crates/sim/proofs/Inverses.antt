-- The inverse of a length from 0 to 2 ^ 31 and an average from 1 to 2 ^ 24 lies between its values at the ends: finite,
-- and above zero; of a length of any size it is finite and not negative. Assumes nothing.
use Prim.Native.Nat.{ℕ, zero-le, ◌*◌, ◌≤◌, ◌<◌, ◌^◌}
use native.Mathlib.Nat.{le_trans, le_of_eq, zero-mul, mul-le-mul_right}
use native.Mathlib.Omega.{arith}
use lib.IntN.{pos}
use lib.Dec.{T, lit<, lit≤}
use mathlib.Core.Bool.{true, false}
use mathlib.Core.Path.{◌≡◌, refl, sym, subst}
use lib.Ieee.{Float, nan, inf, fin, binary32, round, add, sub, mul, div, fits, of_bits, to_bits, of_int}
use lib.Ieee.Bits.{of_bits-to_bits}
use lib.Ieee.Fits.{round-fits}
use lib.Ieee.Positive.{num, den}
use Rattle.meaning.specs.Ieee754.{zero_float}
use Rattle.meaning.specs.Limits.{least_average, largest_average}
use Rattle.meaning.specs.SmallFloat.{byte4_to_int}
use Rattle.meaning.specs.Bm25.{one, k1, b, length_of, inverse}
use Rattle.ieee754.specs.Nonneg.{nonneg, sign_clear}
use Rattle.ieee754.proofs.Patterns.{bits-finite}
use Rattle.ieee754.proofs.Ranges.{Within, round-within, round-clear, add-within, mul-within, div-within, within-self}
use Rattle.ieee754.proofs.Bounds.{pattern-within}
use Rattle.sim.proofs.Codes.{byte4_to_int-le}
use Rattle.sim.specs.declared.bm25.TheConstants.{INVERSES}

-- the ends
abbrev pub two_to : ℕ → Float
two_to k = fin false 1 (pos k)

abbrev pub least-inverse : Float
least-inverse = inverse (two_to 0) (two_to 31)

abbrev pub most-inverse : Float
most-inverse = inverse (two_to 24) zero_float

-- what is computed once: each upper end is finite, and each divisor's lower end is above zero
abbrev Fine : Float → Type 0
Fine x = T (nonneg x)

abbrev part : Float → Float → Float
part average len = add binary32 (sub binary32 one b) (div binary32 (mul binary32 b len) average)

abbrev whole : Float → Float → Float
whole average len = mul binary32 k1 (part average len)

fine-consts : Fine b × Fine k1 × Fine one × Fine (sub binary32 one b)
unfolding of_bits sub
fine-consts = (tt, tt, tt, tt)

pub fine-one : T (nonneg one)
fine-one = fine-consts.2

whole-fine : Fine (whole (two_to 24) zero_float)
unfolding of_bits mul div add sub
whole-fine = tt

whole-positive : 0 < num (whole (two_to 24) zero_float)
unfolding of_bits mul div add sub
whole-positive = lit< tt

bottom-fine : Fine (mul binary32 b zero_float) × Fine (div binary32 (mul binary32 b zero_float) (two_to 24)) × Fine (part (two_to 24) zero_float) × Fine most-inverse
unfolding of_bits mul div add sub
bottom-fine = (tt, tt, tt, tt)

-- a largest length at which each operation is finite
record Top (top : Float) : Type 0 where
  itself : Fine top
  scaled : Fine (mul binary32 b top)
  ratio : Fine (div binary32 (mul binary32 b top) (two_to 0))
  sum : Fine (part (two_to 0) top)
  product : Fine (whole (two_to 0) top)

top-31 : Top (two_to 31)
unfolding of_bits mul div add sub
top-31 = record { itself = tt; scaled = tt; ratio = tt; sum = tt; product = tt }

pub fine-inverse : T (nonneg least-inverse) × T (nonneg most-inverse)
unfolding of_bits mul div add sub
fine-inverse = (tt, tt)

-- each operation at the ends of its operands
inverse-under : (top average len : Float) → Top top → Within (two_to 0) average (two_to 24) → Within zero_float len top → Within (inverse (two_to 0) top) (inverse average len) most-inverse
inverse-under top average len F A L =
    let scaled = mul-within binary32 (fine-consts.0, fine-consts.0) (tt, F.itself) (within-self b fine-consts.0) L F.scaled in
    let ratio = div-within binary32 (bottom-fine.0, F.scaled) (tt, tt) scaled A (lit< tt) F.ratio in
    let sum = add-within binary32 (fine-consts.3, fine-consts.3) (bottom-fine.1, F.ratio) (within-self (sub binary32 one b) fine-consts.3) ratio F.sum in
    let product = mul-within binary32 (fine-consts.1, fine-consts.1) (bottom-fine.2, F.sum) (within-self k1 fine-consts.1) sum F.product in
    div-within binary32 (fine-consts.2, fine-consts.2) (whole-fine, F.product) (within-self one fine-consts.2) product whole-positive bottom-fine.3

pub inverse-within : (average len : Float) → Within (two_to 0) average (two_to 24) → Within zero_float len (two_to 31) → Within least-inverse (inverse average len) most-inverse
inverse-within average len A L = inverse-under (two_to 31) average len top-31 A L

-- ---- the lengths of bytes, and the averages that document 01 admits
rounded-within : (n : ℕ) → n ≤ 2 ^ 31 → Within zero_float (of_int binary32 (pos n)) (two_to 31)
unfolding of_int round
rounded-within n h = round-within binary32 n 1 0 1 (2 ^ 31) 1 (lit< tt) (lit< tt) (lit< tt) zero-le (mul-le-mul_right 1 h) tt

pub length-within : (n : ℕ) → n < 256 → Within zero_float (length_of n) (two_to 31)
unfolding length_of
length-within n h = rounded-within (byte4_to_int n) (le_trans (byte4_to_int-le n h) (lit≤ tt))

ends : (of_bits binary32 least_average ≡ two_to 0) × (of_bits binary32 largest_average ≡ two_to 24)
unfolding of_bits
ends = (refl, refl)

pub average-within : (n : ℕ) → least_average ≤ n → n ≤ largest_average → Within (two_to 0) (of_bits binary32 n) (two_to 24)
average-within n h k =
    let x = of_bits binary32 n in
    subst (λ (z : Float). Within z x (two_to 24)) ends.0
    (subst (λ (z : Float). Within (of_bits binary32 least_average) x z) ends.1 (pattern-within least_average n largest_average h k (lit< tt)))

-- the inverse that a field's cache holds for a byte
pub byte-inverse-within : (average n : ℕ) → least_average ≤ average → average ≤ largest_average → n < 256 → Within least-inverse (inverse (of_bits binary32 average) (length_of n)) most-inverse
byte-inverse-within average n h k l = inverse-within (of_bits binary32 average) (length_of n) (average-within average h k) (length-within n l)

-- ---- a length of any size: a finite f32, or plus infinity
abbrev largest : Float
largest = fin false 16777215 (pos 104)

top-largest : Top largest
unfolding of_bits mul div add sub
top-largest = record { itself = tt; scaled = tt; ratio = tt; sum = tt; product = tt }

last-finite : (of_bits binary32 0 ≡ zero_float) × (of_bits binary32 0x7f7f_ffff ≡ largest)
unfolding of_bits
last-finite = (refl, refl)

finite-within : (x : Float) → T (fits binary32 x) → T (nonneg x) → Within zero_float x largest
finite-within x F p =
    let n = to_bits binary32 x in
    let few = bits-finite x F p in
    subst (λ (z : Float). Within z x largest) last-finite.0
    (subst (λ (z : Float). Within (of_bits binary32 0) x z) last-finite.1
    (subst (λ (z : Float). Within (of_bits binary32 0) z (of_bits binary32 0x7f7f_ffff)) (of_bits-to_bits binary32 x F) (pattern-within 0 n 0x7f7f_ffff zero-le (below n few) (lit< tt))))
  where
    below : (n : ℕ) → n < 255 * 2 ^ 23 → n ≤ 0x7f7f_ffff
    below n h = omega arith

infinite-inverse : (average : Float) → T (nonneg average) → inverse average (inf false) ≡ zero_float
unfolding of_bits mul div add sub
infinite-inverse nan p = absurd p
infinite-inverse (inf s) p = absurd p
infinite-inverse (fin true m e) p = absurd p
infinite-inverse (fin false m e) p = refl

from_zero : {lo x hi : Float} → Within lo x hi → Within zero_float x hi
from_zero {lo} {x} {hi} w = record { sign = w.sign; least = le_trans (le_of_eq (zero-mul (den x))) zero-le; most = w.most }

clear-inverse : (average len : Float) → Within (two_to 0) average (two_to 24) → T (fits binary32 len) → T (sign_clear len) → Within zero_float (inverse average len) most-inverse
clear-inverse average nan A F p = absurd p
clear-inverse average (inf true) A F p = absurd p
clear-inverse average (inf false) A F p =
    subst (λ (z : Float). Within zero_float z most-inverse) (sym (infinite-inverse average A.sign)) (record { sign = tt; least = zero-le; most = le_trans (le_of_eq (zero-mul (den most-inverse))) zero-le })
clear-inverse average (fin s m e) A F p = from_zero (inverse-under largest average (fin s m e) top-largest A (finite-within (fin s m e) F p))

-- for every number in a byte's place
pub any-inverse-within : (average n : ℕ) → least_average ≤ average → average ≤ largest_average → Within zero_float (inverse (of_bits binary32 average) (length_of n)) most-inverse
unfolding length_of of_int
any-inverse-within average n h k =
    let v = byte4_to_int n in
    clear-inverse (of_bits binary32 average) (round binary32 false v 1) (average-within average h k) (round-fits binary32 false v 1) (round-clear binary32 v 1)

-- a norm byte has 256 values, and each has its inverse
pub each-byte : INVERSES ≡ 256
each-byte = refl
