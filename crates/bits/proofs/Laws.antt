-- The bits of words that are combined, shifted, cut and joined, and of a word without its lowest set bit.
-- Assumes nothing.
use Rattle.std.proofs.Common.{◌≡◌, refl, sym, ap, ap₂, ◌∙◌, Bool, true, false, not, ◌&&◌, ◌||◌, ⊎_elim, ℕ, zero, suc, ◌+◌, ◌-◌, ◌*◌, ◌/◌, ◌%◌, ◌^◌, ◌≤◌, ◌<◌, min, max, eqb, ltb, bit_and, bit_or, bit_xor, w64, mod-lt, arith, eq-eqb, ne_eqb, lt-ltb, le-ltb}
use mathlib.Core.Bool.{xor, and-true, and-false, false≢true}
use native.Mathlib.Nat.{zero-min, min-zero, suc-min-suc, zero-max, max-zero, suc-max-suc}
use lib.Bits.{and_step, and_self}
use lib.Count.{count_trailing_zeros}
use lib.Dec.{eqb-suc-zero, eqb-suc-suc}
use mir.Val.{bits}
use Rattle.std.specs.Int.{Width, bit_at, bit_not}
use Rattle.std.proofs.lemmas.Bool.{cases_eq, cases_lt, and_left}
use Rattle.std.proofs.lemmas.Nat.{one_shl}
use Rattle.std.proofs.lemmas.Nat.Bits.{bit_at_lowest, bit_at-suc, bit_at-zero, bit_at-lt, bit_at_and, bit_at_or, bit_at_xor, bit_at_not, bit_at-pow_same, bit_at-pow_other, bit_at_ones, bit_at_ones_above, bit_at_cat_low, bit_at_cat_high, bit_at-trailing_zeros}
use Rattle.bits.specs.Bit.{digit, bit, LowestBit}

-- ---- a bit is std's digit `n / 2 ^ p % 2`, which has most of the laws
bit-is : (p w : ℕ) → bit p w ≡ digit (bit_at w p)
unfolding bit
bit-is zero w = ap digit (sym (bit_at_lowest w))
bit-is (suc p) w = bit-is p (w / 2) ∙ ap digit (sym (bit_at-suc w p))

-- the bit by a shift
pub bit-shift : (p w : ℕ) → bit p w ≡ bit 0 (w / 2 ^ p)
unfolding bit
bit-shift p w = bit-is p w

-- its test
digit-one : (x : ℕ) → x < 2 → eqb x 1 ≡ digit x
digit-one zero h = refl
digit-one (suc zero) h = refl
digit-one (suc (suc x)) h = absurd (omega arith)

pub bit-tested : (p w : ℕ) → eqb (w / 2 ^ p % 2) 1 ≡ bit p w
unfolding bit
bit-tested p w = digit-one (w / 2 ^ p % 2) (mod-lt (w / 2 ^ p) (omega arith)) ∙ sym (bit-shift p w)

pub bit-zero : (p : ℕ) → bit p 0 ≡ false
bit-zero p = bit-is p 0 ∙ ap digit (bit_at-zero p)

-- ---- combined
digit-min : (x y : ℕ) → digit (min x y) ≡ digit x && digit y
digit-min zero y = ap digit (zero-min y)
digit-min (suc x) zero = ap digit (min-zero (suc x))
digit-min (suc x) (suc y) = ap digit (suc-min-suc x y)

digit-max : (x y : ℕ) → digit (max x y) ≡ digit x || digit y
digit-max zero y = ap digit (zero-max y)
digit-max (suc x) zero = ap digit (max-zero (suc x))
digit-max (suc x) (suc y) = ap digit (suc-max-suc x y)

digit-xor : (x y : ℕ) → x < 2 → y < 2 → digit ((x + y) % 2) ≡ xor (digit x) (digit y)
unfolding xor
digit-xor zero zero a b = refl
digit-xor zero (suc zero) a b = refl
digit-xor (suc zero) zero a b = refl
digit-xor (suc zero) (suc zero) a b = refl
digit-xor zero (suc (suc y)) a b = absurd (omega arith)
digit-xor (suc zero) (suc (suc y)) a b = absurd (omega arith)
digit-xor (suc (suc x)) y a b = absurd (omega arith)

digit-not : (x : ℕ) → x < 2 → digit (1 - x) ≡ not (digit x)
digit-not zero h = refl
digit-not (suc zero) h = refl
digit-not (suc (suc x)) h = absurd (omega arith)

pub bit-and : (p a b : ℕ) → bit p (bit_and a b) ≡ bit p a && bit p b
bit-and p a b = bit-is p (bit_and a b) ∙ ap digit (bit_at_and a b p) ∙ digit-min (bit_at a p) (bit_at b p) ∙ sym (ap₂ (λ (x y : Bool). x && y) (bit-is p a) (bit-is p b))

pub bit-or : (p a b : ℕ) → bit p (bit_or a b) ≡ bit p a || bit p b
bit-or p a b = bit-is p (bit_or a b) ∙ ap digit (bit_at_or a b p) ∙ digit-max (bit_at a p) (bit_at b p) ∙ sym (ap₂ (λ (x y : Bool). x || y) (bit-is p a) (bit-is p b))

pub bit-xor : (p a b : ℕ) → bit p (bit_xor a b) ≡ xor (bit p a) (bit p b)
bit-xor p a b =
    bit-is p (bit_xor a b) ∙ ap digit (bit_at_xor a b p) ∙ digit-xor (bit_at a p) (bit_at b p) (bit_at-lt a p) (bit_at-lt b p)
    ∙ sym (ap₂ xor (bit-is p a) (bit-is p b))

-- `!a` at a width
pub bit-not : (w : Width) (p a : ℕ) → a < 2 ^ bits w → p < bits w → bit p (bit_not w a) ≡ not (bit p a)
bit-not w p a h l = bit-is p (bit_not w a) ∙ ap digit (bit_at_not w a p h l) ∙ digit-not (bit_at a p) (bit_at-lt a p) ∙ sym (ap not (bit-is p a))

-- `a & !b`
pub bit-cleared : (p a b : ℕ) → b < 2 ^ 64 → p < 64 → bit p (bit_and a (2 ^ 64 - 1 - b)) ≡ bit p a && not (bit p b)
bit-cleared p a b h l = bit-and p a (2 ^ 64 - 1 - b) ∙ ap (λ (x : Bool). bit p a && x) (bit-not w64 p b h l)

-- ---- one bit, and the first bits
pub bit-pow : (q p : ℕ) → bit q (2 ^ p) ≡ eqb q p
bit-pow q p = bit-is q (2 ^ p) ∙ ⊎_elim same other (cases_eq q p)
  where
    same : q ≡ p → digit (bit_at (2 ^ p) q) ≡ eqb q p
    same e = ap (λ (i : ℕ). digit (bit_at (2 ^ p) i)) e ∙ ap digit (bit_at-pow_same p) ∙ sym (eq-eqb q p e)

    other : (q ≡ p → ⊥) → digit (bit_at (2 ^ p) q) ≡ eqb q p
    other n = ap digit (bit_at-pow_other p q n) ∙ sym (ne_eqb q p n)

-- `w | 1 << p`
pub bit-set : (q w p : ℕ) → p < 64 → bit q (bit_or w (1 * 2 ^ p % 2 ^ 64)) ≡ bit q w || eqb q p
bit-set q w p h = bit-or q w (1 * 2 ^ p % 2 ^ 64) ∙ ap (λ (x : Bool). bit q w || x) (ap (bit q) (one_shl p 64 h) ∙ bit-pow q p)

pub bit-ones : (p n : ℕ) → bit p (2 ^ n - 1) ≡ ltb p n
bit-ones p n = bit-is p (2 ^ n - 1) ∙ ⊎_elim (λ l. ap digit (bit_at_ones n p l) ∙ sym (lt-ltb p n l)) (λ g. ap digit (bit_at_ones_above n p g) ∙ sym (le-ltb p n g)) (cases_lt p n)

-- `(1 << n) - 1`
pub bit-first : (p n : ℕ) → n < 64 → bit p (1 * 2 ^ n % 2 ^ 64 - 1) ≡ ltb p n
bit-first p n h = ap (λ (x : ℕ). bit p (x - 1)) (one_shl n 64 h) ∙ bit-ones p n

-- the largest word has each bit
pub full : (p : ℕ) → p < 64 → bit p 18446744073709551615 ≡ true
full p h = bit-ones p 64 ∙ lt-ltb p 64 h

-- ---- parts of a word: its k lowest digits and the rest
pub bit-low : (k p hi lo : ℕ) → p < k → bit p (hi * 2 ^ k + lo) ≡ bit p lo
bit-low k p hi lo l = bit-is p (hi * 2 ^ k + lo) ∙ ap digit (bit_at_cat_low hi k lo p l) ∙ sym (bit-is p lo)

pub bit-high : (k p hi lo : ℕ) → lo < 2 ^ k → k ≤ p → bit p (hi * 2 ^ k + lo) ≡ bit (p - k) hi
bit-high k p hi lo h g = bit-is p (hi * 2 ^ k + lo) ∙ ap digit (bit_at_cat_high hi k lo p h g) ∙ sym (bit-is (p - k) hi)

-- a word stored as two of 32 bits
pub halves-joined : (w : ℕ) → w % 4294967296 + 4294967296 * (w / 4294967296) ≡ w
halves-joined w = omega arith

-- a digit that is not 1 is 0
digit-false : (x : ℕ) → digit x ≡ false → x ≡ 0
digit-false zero e = refl
digit-false (suc x) e = absurd (false≢true (sym e))

-- ---- the lowest set bit
digit-true : (x : ℕ) → x < 2 → digit x ≡ true → x ≡ 1
digit-true zero h e = absurd (false≢true e)
digit-true (suc zero) h e = refl
digit-true (suc (suc x)) h e = absurd (omega arith)

pub lowest : (w : ℕ) → w < 2 ^ 64 → 0 < w → LowestBit w (count_trailing_zeros 64 w)
lowest w h g =
    let t = bit_at-trailing_zeros w64 w g h in
    record {
      within = t.0;
      set = bit-is (count_trailing_zeros 64 w) w ∙ ap digit t.1;
      below = λ q l. bit-is q w ∙ ap digit (t.2 q l);
    }

-- the rest of `w & (w - 1)`: its lowest digit is 0
others-even : (w : ℕ) → bit_and w (w - 1) % 2 ≡ 0
others-even w = omega (arith, and_step w (w - 1))

odd-half : (w : ℕ) → w % 2 ≡ 1 → bit_and w (w - 1) / 2 ≡ w / 2
odd-half w e = let h : (w - 1) / 2 ≡ w / 2 = omega arith in omega (arith, and_step w (w - 1), ap (bit_and (w / 2)) h, and_self (w / 2))

even-half : (w : ℕ) → w % 2 ≡ 0 → bit_and w (w - 1) / 2 ≡ bit_and (w / 2) (w / 2 - 1)
even-half w e = let h : (w - 1) / 2 ≡ w / 2 - 1 = omega arith in omega (arith, and_step w (w - 1), ap (bit_and (w / 2)) h)

-- it has the bits of w but the lowest one
pub bit-others : (q t w : ℕ) → bit t w ≡ true → ((i : ℕ) → i < t → bit i w ≡ false) → bit q (bit_and w (w - 1)) ≡ bit q w && not (eqb q t)
unfolding bit
bit-others zero zero w s b = ap digit (others-even w) ∙ sym (and-false (bit 0 w))
bit-others (suc q) zero w s b = ap (bit q) (odd-half w (digit-true (w % 2) (mod-lt w (omega arith)) s)) ∙ sym (ap (λ (x : Bool). bit q (w / 2) && not x) (eqb-suc-zero q) ∙ and-true (bit q (w / 2)))
bit-others zero (suc t) w s b = ap digit (others-even w) ∙ sym (and_left (bit 0 w) (not (eqb 0 (suc t))) (b 0 (omega arith)))
bit-others (suc q) (suc t) w s b = ap (bit q) (even-half w (digit-false (w % 2) (b 0 (omega arith)))) ∙ bit-others q t (w / 2) s (λ i l. b (suc i) (omega arith)) ∙ sym (ap (λ (x : Bool). bit q (w / 2) && not x) (eqb-suc-suc q t))
