-- Values that are finite, not negative, and at most a whole number: what rounding, the operations, narrowing and
-- patterns make of them. Assumes nothing.
use mathlib.Core.Path.{◌≡◌, refl, sym, ap, ◌∙◌, subst}
use Prim.Native.Nat.{ℕ, ◌+◌, ◌*◌, ◌^◌, ◌≤◌, ◌<◌, zero-le}
use native.Mathlib.Nat.{le_trans, le_of_eq, lt_of_le_of_lt, add-mul, mul-one, one-mul, zero-mul, mul_comm, mul_assoc, mul-mul-mul_comm, mul-le-mul, mul-le-mul_right, mul-pos, add-le-add}
use native.Mathlib.Omega.{arith}
use mathlib.Core.Bool.{true, false, not, true≢false}
use lib.Dec.{T, lit<, le→leb}
use lib.Pow.{pow-add, pow-lt}
use borrow.Author.Tests.{ltb-false}
use lib.Ieee.{Float, nan, inf, fin, Format, binary32, binary64, round, add, mul, le, lt, is_nan, of_bits, to_bits}
use lib.Ieee.Bits.{of_bits-fits}
use lib.Ieee.Exact.{HasValue, round_exact}
use lib.Ieee.Back.{round_whole}
use lib.Ieee.Positive.{num, den, den_pos, value→cross, through}
use Rattle.meaning.specs.Ieee754.{zero_float, narrow}
use Rattle.ieee754.specs.Nonneg.{nonneg, sign_clear, AtMost}
use Rattle.ieee754.proofs.Nonneg.{nonneg-of-value, no_nan}
use Rattle.ieee754.proofs.Patterns.{lt-is, pattern-nonneg, pattern-back, pattern-clear, clear-le}
use Rattle.ieee754.proofs.Ranges.{Within, add_is, mul_is, round-nonneg, round-cross, cross→le, le→cross}
use Rattle.ieee754.proofs.Narrowing.{narrow-is}

-- finite, not negative, and at most w
pub record UpTo (w x : Float) : Type 0 where
  pub sign : T (nonneg x)
  pub most : num x * den w ≤ num w * den x

-- the format holds the whole number p
abbrev pub Held : Format → ℕ → Type 0
Held f p = HasValue (round f false p 1) false p 1

-- binary32 holds the powers of two up to 2 ^ 127
pub held-power : (k : ℕ) → k ≤ 127 → Held binary32 (2 ^ k)
held-power k h =
    round_exact binary32 false (2 ^ k) 1 1 (k + 149) (lit< tt) (lit< tt)
    (subst (λ (z : ℕ). z < 2 ^ 277) (sym (one-mul (2 ^ (k + 149)))) (pow-lt (room k h)))
    (sym (pow-add 2 k 149) ∙ sym (one-mul (2 ^ (k + 149))) ∙ sym (mul-one (1 * 2 ^ (k + 149))))
  where
    room : (k : ℕ) → k ≤ 127 → k + 149 < 277
    room k h = omega arith

-- ---- bounds
pub atmost-more : {p q : ℕ} {x : Float} → p ≤ q → AtMost p x → AtMost q x
atmost-more {p} {q} {x} h m = record { sign = m.sign; most = le_trans m.most (mul-le-mul_right (den x) h) }

pub atmost-number : {p : ℕ} {x : Float} → AtMost p x → T (not (is_nan x))
atmost-number {p} {x} m = no_nan x m.sign

pub zero-atmost : (p : ℕ) → AtMost p zero_float
zero-atmost p = record { sign = tt; most = zero-le }

-- what is at most a weight is at most what that is
pub upto-atmost : (p : ℕ) (w x : Float) → AtMost p w → UpTo w x → AtMost p x
upto-atmost p w x i u =
    let m : num x * 1 ≤ p * den x = through (num x) (num w) p (den x) (den w) 1 (den_pos w) u.most (subst (λ (z : ℕ). z ≤ p * den w) (sym (mul-one (num w))) i.most) in
    record { sign = u.sign; most = subst (λ (z : ℕ). z ≤ p * den x) (mul-one (num x)) m }

pub zero-le-nonneg : (x : Float) → T (nonneg x) → T (le zero_float x)
zero-le-nonneg x p = cross→le zero_float x tt p (le_trans (le_of_eq (zero-mul (den x))) zero-le)

-- in the words of `le`
pub upto_le : (w x : Float) → T (nonneg w) → UpTo w x → T (le zero_float x) × T (le x w)
upto_le w x W u = (zero-le-nonneg x u.sign, cross→le x w u.sign W u.most)

-- what is not above a limit
inf-above : (w : Float) → T (nonneg w) → lt w (inf false) ≡ true
unfolding lt
inf-above nan p = absurd p
inf-above (inf s) p = absurd p
inf-above (fin s m e) p = refl

pub limit-upto : (w x : Float) → T (nonneg w) → T (sign_clear x) → lt w x ≡ false → UpTo w x
limit-upto w nan W p h = absurd p
limit-upto w (inf true) W p h = absurd p
limit-upto w (inf false) W p h = absurd (true≢false (sym (inf-above w W) ∙ h))
limit-upto w (fin true m e) W p h = absurd p
limit-upto w (fin false m e) W p h =
    let x = fin false m e in
    record { sign = tt; most = ltb-false (num w * den x) (num x * den w) (sym (lt-is w x W tt) ∙ h) }

-- a fraction a / b of at most p rounds to at most p
pub round-atmost : (f : Format) (a b p : ℕ) → 0 < b → Held f p → a ≤ p * b → AtMost p (round f false a b)
round-atmost f a b p B H h =
    let r = round f false a b in
    let t = round f false p 1 in
    let fine : T (nonneg t) = nonneg-of-value t p 1 H in
    let one-pos : 0 < 1 = lit< tt in
    let k : a * 1 ≤ p * b = subst (λ (z : ℕ). z ≤ p * b) (sym (mul-one a)) h in
    let c : num r * den t ≤ num t * den r = round-cross f a b p 1 B one-pos k fine in
    let v : num t * 1 ≤ p * den t = le_of_eq (value→cross t p 1 H) in
    let m : num r * 1 ≤ p * den r = through (num r) (num t) p (den r) (den t) 1 (den_pos t) c v in
    record { sign = round-nonneg f a b p 1 B one-pos k fine; most = subst (λ (z : ℕ). z ≤ p * den r) (mul-one (num r)) m }

pub add-atmost : (f : Format) (p q : ℕ) (x y : Float) → AtMost p x → AtMost q y → Held f (p + q) → AtMost (p + q) (add f x y)
add-atmost f p q x y i j H =
    subst (λ (z : Float). AtMost (p + q) z) (sym (add_is f x y i.sign j.sign))
    (round-atmost f (num x * den y + num y * den x) (den x * den y) (p + q) (mul-pos (den_pos x) (den_pos y)) H
    (le_trans (add-le-add (le_trans (mul-le-mul_right (den y) i.most) (le_of_eq (mul_assoc p (den x) (den y)))) (le_trans (mul-le-mul_right (den x) j.most) (le_of_eq (mul_assoc q (den y) (den x) ∙ ap (λ (z : ℕ). q * z) (mul_comm (den y) (den x))))))
    (le_of_eq (sym (add-mul p q (den x * den y))))))

-- in binary64, up to 2 ^ 53
pub sum-two-atmost : (p q : ℕ) (x y : Float) → AtMost p x → AtMost q y → p + q ≤ 2 ^ 53 → AtMost (p + q) (add binary64 x y)
sum-two-atmost p q x y i j h = add-atmost binary64 p q x y i j (round_whole binary64 false (p + q) h)

pub narrow-atmost : (p : ℕ) (x : Float) → AtMost p x → Held binary32 p → AtMost p (narrow x)
narrow-atmost p x i H = subst (λ (z : Float). AtMost p z) (sym (narrow-is x i.sign)) (round-atmost binary32 (num x) (den x) p (den_pos x) H i.most)

pub mul-atmost : (f : Format) (p q : ℕ) (x y : Float) → AtMost p x → AtMost q y → Held f (p * q) → AtMost (p * q) (mul f x y)
mul-atmost f p q x y i j H =
    subst (λ (z : Float). AtMost (p * q) z) (sym (mul_is f x y i.sign j.sign))
    (round-atmost f (num x * num y) (den x * den y) (p * q) (mul-pos (den_pos x) (den_pos y)) H
    (le_trans (mul-le-mul i.most j.most) (le_of_eq (mul-mul-mul_comm p (den x) q (den y)))))

-- ---- patterns up to a finite one
pattern-cross : (a b : ℕ) → a ≤ b → b < 0x7f80_0000 → num (of_bits binary32 a) * den (of_bits binary32 b) ≤ num (of_bits binary32 b) * den (of_bits binary32 a)
pattern-cross a b h k =
    let x = of_bits binary32 a in
    let y = of_bits binary32 b in
    let A : a < 0x7f80_0000 = lt_of_le_of_lt h k in
    let m : a ≤ 0x7f80_0000 = below a A in
    let n : b ≤ 0x7f80_0000 = below b k in
    le→cross x y (pattern-nonneg a A) (pattern-nonneg b k)
    (subst T (sym (clear-le x y (of_bits-fits binary32 a) (of_bits-fits binary32 b) (pattern-clear a m) (pattern-clear b n)))
    (le→leb (to_bits binary32 x) (to_bits binary32 y) (subst (λ (z : ℕ). z ≤ to_bits binary32 y) (sym (pattern-back a m)) (subst (λ (z : ℕ). a ≤ z) (sym (pattern-back b n)) h))))
  where
    below : (a : ℕ) → a < 0x7f80_0000 → a ≤ 0x7f80_0000
    below a h = omega arith

pub pattern-within : (lo n hi : ℕ) → lo ≤ n → n ≤ hi → hi < 0x7f80_0000 → Within (of_bits binary32 lo) (of_bits binary32 n) (of_bits binary32 hi)
pattern-within lo n hi h k t = record {
  sign = pattern-nonneg n (lt_of_le_of_lt k t);
  least = pattern-cross lo n h (lt_of_le_of_lt k t);
  most = pattern-cross n hi k t;
}

pub pattern-atmost : (p n hi : ℕ) → n ≤ hi → hi < 0x7f80_0000 → AtMost p (of_bits binary32 hi) → AtMost p (of_bits binary32 n)
pattern-atmost p n hi k t i =
    upto-atmost p (of_bits binary32 hi) (of_bits binary32 n) i (record { sign = pattern-nonneg n (lt_of_le_of_lt k t); most = pattern-cross n hi k t })
