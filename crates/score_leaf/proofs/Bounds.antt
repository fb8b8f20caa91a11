-- Small multiples of 2^29 are binary32 values, so narrowing keeps them as bounds. Assumes nothing.
use mathlib.Core.Path.{◌≡◌, refl, sym, subst, ◌∙◌}
use mathlib.Core.Bool.{false}
use Prim.Native.Nat.{ℕ, ◌+◌, ◌*◌, ◌^◌, ◌≤◌, ◌<◌}
use native.Mathlib.Nat.{mul-one, mul_assoc, mul-le-mul_right, lt_of_le_of_lt}
use native.Mathlib.Omega.{arith}
use lib.Dec.{lit<}
use lib.Ieee.{Float, binary32, binary64, add, of_bits}
use lib.Ieee.Exact.{round_exact}
use Rattle.meaning.specs.Ieee754.{zero_float, narrow}
use Rattle.ieee754.specs.Nonneg.{AtMost}
use Rattle.ieee754.proofs.Bounds.{Held, atmost-more, sum-two-atmost, narrow-atmost}

-- binary32 holds n × 2^29
pub held-scores : (n : ℕ) → n ≤ 256 → Held binary32 (n * 2 ^ 29)
held-scores n h =
    round_exact binary32 false (n * 2 ^ 29) 1 n 178 (lit< tt) (few n h) (room n h)
    (mul_assoc n (2 ^ 29) (2 ^ 149) ∙ sym (mul-one (n * 2 ^ 178)))
  where
    few : (n : ℕ) → n ≤ 256 → n < 2 ^ 24
    few n h = omega arith

    room : (n : ℕ) → n ≤ 256 → n * 2 ^ 178 < 2 ^ 277
    room n h = lt_of_le_of_lt (mul-le-mul_right (2 ^ 178) h) (lit< tt)

-- a sum of two such, and one narrowed
pub scores-add : (p q : ℕ) (x y : Float) → p + q ≤ 256 → AtMost (p * 2 ^ 29) x → AtMost (q * 2 ^ 29) y → AtMost ((p + q) * 2 ^ 29) (add binary64 x y)
scores-add p q x y h i j =
    let e : p * 2 ^ 29 + q * 2 ^ 29 ≡ (p + q) * 2 ^ 29 = omega arith in
    let m : p * 2 ^ 29 + q * 2 ^ 29 ≤ 2 ^ 53 = omega arith in
    subst (λ (n : ℕ). AtMost n (add binary64 x y)) e (sum-two-atmost (p * 2 ^ 29) (q * 2 ^ 29) x y i j m)

pub scores-narrow : (p : ℕ) (x : Float) → p ≤ 256 → AtMost (p * 2 ^ 29) x → AtMost (p * 2 ^ 29) (narrow x)
scores-narrow p x h i = narrow-atmost (p * 2 ^ 29) x i (held-scores p h)

pub scores-more : (p q : ℕ) (x : Float) → p ≤ q → AtMost (p * 2 ^ 29) x → AtMost (q * 2 ^ 29) x
scores-more p q x h i = let m : p * 2 ^ 29 ≤ q * 2 ^ 29 = omega arith in atmost-more m i

-- the code's 0.0
pub zero-32 : of_bits binary32 0 ≡ zero_float
unfolding of_bits
zero-32 = refl

pub zero-64 : of_bits binary64 0 ≡ zero_float
unfolding of_bits
zero-64 = refl
