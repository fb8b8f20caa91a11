-- How `narrow` is worked out from a binary64 pattern whose sign is clear, by the three ranges of the pattern, and how
-- the sign goes through. Assumes nothing.
use mathlib.Core.Path.{◌≡◌, refl, sym, ap, ◌∙◌, subst}
use mathlib.Core.Logic.{inl, inr}
use Prim.Native.Nat.{ℕ, zero, suc, ◌+◌, ◌-◌, ◌*◌, ◌/◌, ◌%◌, ◌^◌, ◌≤◌, ◌<◌, zero-le, compare, Ordering}
use native.Mathlib.Nat.{le_trans, le_of_eq, le_of_lt, le_antisymm, lt_of_lt_of_le, lt_of_le_of_lt, lt_of_not-le, lt_irrefl, le_of_suc-le-suc, eq-or-lt_of_le, not-le_of_lt, zero-add, mul-one, one-mul, mul_comm, mul_assoc, mul-le-mul_right, mul-pos, mul-lt-mul_of_pos_right, mul-div_cancel, div-one, mod-lt, mod-eq_of_lt, div-add-mod', div-lt_iff_lt-mul, le-div_iff_mul-le, le-add_right, add_comm, add-mul-div_right, add-mul-mod_self_right, mod-le, mul-le-mul}
use native.Mathlib.Omega.{arith}
use mathlib.Core.Bool.{Bool, true, false, not, cond, false≢true}
use lib.Dec.{T, not_T, le→leb, ltb, leb, eqb, is_le, compare_is_eq, ltb→lt, lt→ltb, lit≤, lit<, leb→le, nleb→lt, eqb→eq, eqb_refl}
use lib.Pow.{pow-add, pow_pos, pow_mono, pow-lt, shl_lt, shl-shr, shl_exact}
use lib.Ieee.{Float, nan, inf, fin, Format, binary32, binary64, low, size, nearest, odd, units, of_fields, of_bits, to_bits, nan_bits, is_nan, fits, neg, round}
use lib.Ieee.Fits.{odd-fits, round_is}
use lib.Ieee.Bits.{is_true, is_false, of_bits-to_bits, nan_bits_above, to_bits-lt}
use lib.Ieee.Digits.{size-lt, size-le}
use lib.Ieee.Exact.{HasValue, odd_sign}
use lib.Ieee.Nearest.{closest, closest_mono, closest_same, nearest-ge}
use lib.Ieee.Positive.{den, den_pos, value→cross}
use Rattle.meaning.specs.Ieee754.{narrow}
use Rattle.ieee754.specs.Nonneg.{nonneg}
use Rattle.ieee754.proofs.Nonneg.{nonneg-of-value, in_units, pattern, to_bits-units}
use Rattle.ieee754.proofs.Patterns.{number-bits, pattern-infinite}
use Rattle.ieee754.proofs.Narrowing.{narrow_at, narrow-neg, narrow-nan, odd-neg}

-- ---- a whole even number added before rounding is added after it
even-more : (c w : ℕ) (o : Ordering) → nearest (w + 2 * c) o ≡ 2 * c + nearest w o
even-more c w Ordering.lt = omega arith
even-more c w Ordering.eq = omega arith
even-more c w Ordering.gt = omega arith

pub closest-shift : (c y u : ℕ) → 0 < u → closest (y + 2 * c * u) u ≡ 2 * c + closest y u
closest-shift c y u U =
    ap (λ (z : ℕ). nearest z (compare ((y + 2 * c * u) % u * 2) u)) (add-mul-div_right y (2 * c) U)
    ∙ ap (λ (z : ℕ). nearest (y / u + 2 * c) (compare (z * 2) u)) (add-mul-mod_self_right y (2 * c) u)
    ∙ even-more c (y / u) (compare (y % u * 2) u)

-- ---- the pattern of `units`
pub size_exact : (a n : ℕ) → 2 ^ a ≤ n → n < 2 ^ suc a → size n ≡ suc a
size_exact a n lo hi = le_antisymm (size-le n (suc a) hi) (lt_of_not-le (λ (g : size n ≤ a). not-le_of_lt (lt_of_lt_of_le (size-lt n) (pow_mono g)) lo))

pub few : (z p : ℕ) → z ≤ p → z - p ≡ 0
few z p h = omega arith

one_more : (k : ℕ) → suc (23 + k) - 24 ≡ k
one_more k = omega arith

two-more : (k : ℕ) → suc (24 + k) - 24 ≡ suc k
two-more k = omega arith

-- q * 2 ^ k units have the pattern k * 2 ^ 23 + q, where q has 24 digits, or at most 24 and k is 0, or q is 2 ^ 24
pattern-full : (q k : ℕ) → 2 ^ 23 ≤ q → q < 2 ^ 24 → pattern binary32 (q * 2 ^ k) ≡ k * 2 ^ 23 + q
pattern-full q k lo hi =
    let n = q * 2 ^ k in
    let z : size n - 24 ≡ k =
    ap (λ (x : ℕ). x - 24) (size_exact (23 + k) n (le_trans (le_of_eq (pow-add 2 23 k)) (mul-le-mul_right (2 ^ k) lo)) (subst (λ (x : ℕ). n < 2 ^ x) (next k) (shl_lt 24 k hi))) ∙ one_more k in
    ap (λ (x : ℕ). x * 2 ^ 23 + n / 2 ^ x) z ∙ ap (λ (x : ℕ). k * 2 ^ 23 + x) (shl-shr q k)
  where
    next : (k : ℕ) → 24 + k ≡ suc (23 + k)
    next k = omega arith

pattern-carry : (k : ℕ) → pattern binary32 (2 ^ 24 * 2 ^ k) ≡ k * 2 ^ 23 + 2 ^ 24
pattern-carry k =
    let n = 2 ^ 24 * 2 ^ k in
    let e : n ≡ 2 ^ (24 + k) = sym (pow-add 2 24 k) in
    let h : 2 ^ 23 * 2 ^ suc k ≡ n = sym (pow-add 2 23 (suc k)) ∙ ap (λ (x : ℕ). 2 ^ x) (shift k) ∙ pow-add 2 24 k in
    let z : size n - 24 ≡ suc k = ap (λ (x : ℕ). x - 24) (size_exact (24 + k) n (le_of_eq (sym e)) (lt_of_le_of_lt (le_of_eq e) (pow-lt (lt-next (24 + k))))) ∙ two-more k in
    ap (λ (x : ℕ). x * 2 ^ 23 + n / 2 ^ x) z ∙ ap (λ (x : ℕ). suc k * 2 ^ 23 + x / 2 ^ suc k) (sym h) ∙ ap (λ (x : ℕ). suc k * 2 ^ 23 + x) (shl-shr (2 ^ 23) (suc k)) ∙ total k
  where
    shift : (k : ℕ) → 23 + suc k ≡ 24 + k
    shift k = omega arith

    lt-next : (a : ℕ) → a < suc a
    lt-next a = omega arith

    total : (k : ℕ) → suc k * 2 ^ 23 + 2 ^ 23 ≡ k * 2 ^ 23 + 2 ^ 24
    total k = omega arith

pattern-low : (q : ℕ) → q < 2 ^ 24 → pattern binary32 (q * 2 ^ 0) ≡ 0 * 2 ^ 23 + q
pattern-low q h =
    ap (pattern binary32) (mul-one q)
    ∙ ap (λ (x : ℕ). x * 2 ^ 23 + q / 2 ^ x) (few (size q) 24 (size-le q 24 h))
    ∙ ap (λ (x : ℕ). 0 * 2 ^ 23 + x) (div-one q)

abbrev Packs : ℕ → ℕ → Type 0
Packs q k = pattern binary32 (q * 2 ^ k) ≡ k * 2 ^ 23 + q

packs : (q k : ℕ) → 2 ^ 23 ≤ q → q ≤ 2 ^ 24 → Packs q k
packs q k lo hi = elim (eq-or-lt_of_le hi) [
  | inl e ↦ subst (λ (x : ℕ). Packs x k) (sym e) (pattern-carry k)
  | inr l ↦ pattern-full q k lo l
]

pub units_of : (f : Format) (x : Float) (a : ℕ) → HasValue x false a (2 ^ low f) → in_units f x ≡ a
units_of f x a h = ap (λ (z : ℕ). z / den x) (value→cross x a (2 ^ low f) h) ∙ mul-div_cancel a (den_pos x)

pub wide : (q : ℕ) → q ≤ 2 ^ 24 → q < 2 ^ 25
wide q h = omega arith

pub units_small : (q k : ℕ) → q * 2 ^ k < 2 ^ 277 → units binary32 false q k ≡ odd 25 false q k 149
unfolding units
units_small q k h = go (ltb (q * 2 ^ k) (2 ^ 277)) (lt→ltb (q * 2 ^ k) (2 ^ 277) h)
  where
    go : (b : Bool) → T b → cond b (odd 25 false q k 149) (inf false) ≡ odd 25 false q k 149
    go true t = refl
    go false t = absurd t

pub units-large : (q k : ℕ) → 2 ^ 277 ≤ q * 2 ^ k → units binary32 false q k ≡ inf false
unfolding units
units-large q k h = go (ltb (q * 2 ^ k) (2 ^ 277)) (ltb→lt (q * 2 ^ k) (2 ^ 277))
  where
    go : (b : Bool) → (T b → q * 2 ^ k < 2 ^ 277) → cond b (odd 25 false q k 149) (inf false) ≡ inf false
    go true t = absurd (not-le_of_lt (t tt) h)
    go false t = refl

pub units-bits : (q k : ℕ) → q ≤ 2 ^ 24 → Packs q k → q * 2 ^ k < 2 ^ 277 → units binary32 false q k ≡ of_bits binary32 (k * 2 ^ 23 + q)
units-bits q k hi p h =
    let x = odd 25 false q k 149 in
    let v : HasValue x false (q * 2 ^ k) (2 ^ 149) = odd_sign 25 false q k 149 in
    units_small q k h
    ∙ sym (of_bits-to_bits binary32 x (odd-fits binary32 25 false q k (wide q hi) hi h))
    ∙ ap (of_bits binary32) (to_bits-units binary32 x (nonneg-of-value x (q * 2 ^ k) (2 ^ 149) v) ∙ ap (pattern binary32) (units_of binary32 x (q * 2 ^ k) v) ∙ p)

zero_bits : of_bits binary32 0 ≡ fin false 0 (lib.IntN.pos 0)
unfolding of_bits
zero_bits = refl

-- ---- m * 2 ^ j units of 2 ^ -1074, rounded to binary32
-- from 2 ^ -126 on, with an m of 53 digits: 29 digits go, whatever the exponent
module _ (m i : ℕ) (lo : 2 ^ 52 ≤ m) (hi : m < 2 ^ 53) where
  abbrev n : ℕ
  n = m * 2 ^ (i + 896) * 2 ^ 149

  n-is : n ≡ m * 2 ^ i * 2 ^ 1045
  n-is =
      ap (λ (z : ℕ). m * z * 2 ^ 149) (pow-add 2 i 896)
      ∙ ap (λ (z : ℕ). z * 2 ^ 149) (sym (mul_assoc m (2 ^ i) (2 ^ 896)))
      ∙ mul_assoc (m * 2 ^ i) (2 ^ 896) (2 ^ 149)

  below : n / 2 ^ 1074 < 2 ^ suc (23 + i)
  below =
      (div-lt_iff_lt-mul (pow_pos 1074)).1
      (subst (λ (z : ℕ). z < 2 ^ suc (23 + i) * 2 ^ 1074) (sym n-is)
      (subst (λ (z : ℕ). m * 2 ^ i * 2 ^ 1045 < z) (sym (pow-add 2 (53 + i) 1045) ∙ ap (λ (z : ℕ). 2 ^ z) (same i) ∙ pow-add 2 (suc (23 + i)) 1074)
      (mul-lt-mul_of_pos_right (shl_lt 53 i hi) (pow_pos 1045))))
    where
      same : (i : ℕ) → 53 + i + 1045 ≡ suc (23 + i) + 1074
      same i = omega arith

  reached : 2 ^ (23 + i) ≤ n / 2 ^ 1074
  reached =
      (le-div_iff_mul-le (pow_pos 1074)).1
      (subst (λ (z : ℕ). 2 ^ (23 + i) * 2 ^ 1074 ≤ z) (sym n-is)
      (le_trans (le_of_eq (sym (pow-add 2 (23 + i) 1074) ∙ ap (λ (z : ℕ). 2 ^ z) (same i) ∙ pow-add 2 (52 + i) 1045 ∙ ap (λ (z : ℕ). z * 2 ^ 1045) (pow-add 2 52 i)))
      (mul-le-mul_right (2 ^ 1045) (mul-le-mul_right (2 ^ i) lo))))
    where
      same : (i : ℕ) → 23 + i + 1074 ≡ 52 + i + 1045
      same i = omega arith

  drops : size (n / 2 ^ 1074) - 24 ≡ i
  drops = ap (λ (z : ℕ). z - 24) (size_exact (23 + i) (n / 2 ^ 1074) reached below) ∙ one_more i

  normal : round binary32 false (m * 2 ^ (i + 896)) (2 ^ 1074) ≡ units binary32 false (closest m (2 ^ 29)) i
  normal =
      round_is binary32 false (m * 2 ^ (i + 896)) (2 ^ 1074)
      ∙ ap (λ (k : ℕ). units binary32 false (closest n (2 ^ 1074 * 2 ^ k)) k) drops
      ∙ ap (λ (q : ℕ). units binary32 false q i) (closest_same n (2 ^ 1074 * 2 ^ i) m (2 ^ 29) (mul-pos (pow_pos 1074) (pow_pos i)) (pow_pos 29) cross)
    where
      cross : n * 2 ^ 29 ≡ m * (2 ^ 1074 * 2 ^ i)
      cross =
          ap (λ (z : ℕ). z * 2 ^ 29) n-is
          ∙ mul_assoc (m * 2 ^ i) (2 ^ 1045) (2 ^ 29)
          ∙ mul_assoc m (2 ^ i) (2 ^ 1074)
          ∙ ap (λ (z : ℕ). m * z) (mul_comm (2 ^ i) (2 ^ 1074))

-- below 2 ^ -126: no digit of the whole part goes, and what is left is the fraction
low-drops : (a : ℕ) → a < 2 ^ 949 → size (a * 2 ^ 149 / 2 ^ 1074) - 24 ≡ 0
low-drops a h =
    few (size (a * 2 ^ 149 / 2 ^ 1074)) 24
    (size-le (a * 2 ^ 149 / 2 ^ 1074) 24 ((div-lt_iff_lt-mul (pow_pos 1074)).1 (mul-lt-mul_of_pos_right h (pow_pos 149))))

subnormal : (a : ℕ) → a < 2 ^ 949 → round binary32 false a (2 ^ 1074) ≡ units binary32 false (closest (a * 2 ^ 149) (2 ^ 1074)) 0
subnormal a h =
    round_is binary32 false a (2 ^ 1074)
    ∙ ap (λ (k : ℕ). units binary32 false (closest (a * 2 ^ 149) (2 ^ 1074 * 2 ^ k)) k) (low-drops a h)

-- ---- what a pattern is read as, where that is finite and the sign is clear
-- the digits with the leading one, if the field e has one, and the power of two that they count
abbrev digits : ℕ → ℕ → ℕ
digits zero t = t
digits (suc j) t = 2 ^ 52 + t

abbrev place : ℕ → ℕ
place zero = 0
place (suc j) = j

sign_of : (x : Float) (s : Bool) (a c : ℕ) → T (nonneg x) → HasValue x s a c → s ≡ false
sign_of nan s a c p h = absurd p
sign_of (inf t) s a c p h = absurd p
sign_of (fin true m e) s a c p h = absurd p
sign_of (fin false m e) s a c p h = sym h.0

at_top : (a b s : Bool) (v : Float) → T (nonneg (cond a (cond b (inf s) nan) v)) → cond a (cond b (inf s) nan) v ≡ v
at_top true true s v p = absurd p
at_top true false s v p = absurd p
at_top false b s v p = refl

abbrev Read : Bool → Float → ℕ → Type 0
Read s v a = (s ≡ false) × HasValue v false a (2 ^ 1074)

read-odd : (s : Bool) (q j : ℕ) → T (nonneg (odd 53 s q j 1074)) → Read s (odd 53 s q j 1074) (q * 2 ^ j)
read-odd s q j p =
    let v = odd 53 s q j 1074 in
    let h : HasValue v s (q * 2 ^ j) (2 ^ 1074) = odd_sign 53 s q j 1074 in
    let e : s ≡ false = sign_of v s (q * 2 ^ j) (2 ^ 1074) p h in
    (e, subst (λ (k : Bool). HasValue v k (q * 2 ^ j) (2 ^ 1074)) e h)

read-fields : (s : Bool) (e t : ℕ) → T (nonneg (of_fields binary64 s e t)) → Read s (of_fields binary64 s e t) (digits e t * 2 ^ place e)
unfolding of_fields
read-fields s zero t p = read-odd s t 0 p
read-fields s (suc j) t p =
    let v = odd 53 s (2 ^ 52 + t) j 1074 in
    let is = at_top (eqb (suc j) 2047) (eqb t 0) s v p in
    subst (λ (z : Float). Read s z ((2 ^ 52 + t) * 2 ^ j)) (sym is) (read-odd s (2 ^ 52 + t) j (subst (λ (z : Float). T (nonneg z)) is p))

of_bits_is : (b : ℕ) → of_bits binary64 b ≡ of_fields binary64 (leb (2 ^ 63) b) (b % 2 ^ 63 / 2 ^ 52) (b % 2 ^ 52)
unfolding of_bits
of_bits_is b = refl

not-true : (b : Bool) → b ≡ false → T (not b)
not-true b h = subst (λ (z : Bool). T (not z)) (sym h) tt

module _ (b : ℕ) (N : T (nonneg (of_bits binary64 b))) where
  abbrev e : ℕ
  e = b / 2 ^ 52

  abbrev t : ℕ
  t = b % 2 ^ 52

  t-lt : t < 2 ^ 52
  t-lt = mod-lt b (pow_pos 52)

  read : HasValue (of_bits binary64 b) false (digits e t * 2 ^ place e) (2 ^ 1074)
  read =
      let x = b % 2 ^ 63 / 2 ^ 52 in
      let s = leb (2 ^ 63) b in
      let r = read-fields s x t (subst (λ (z : Float). T (nonneg z)) (of_bits_is b) N) in
      let small : b < 2 ^ 63 = nleb→lt (2 ^ 63) b (not-true s r.0) in
      subst (λ (z : Float). HasValue z false (digits e t * 2 ^ place e) (2 ^ 1074)) (sym (of_bits_is b))
      (subst (λ (z : ℕ). HasValue (of_fields binary64 s x t) false (digits (z / 2 ^ 52) t * 2 ^ place (z / 2 ^ 52)) (2 ^ 1074)) (mod-eq_of_lt small) r.1)

  narrows : narrow (of_bits binary64 b) ≡ round binary32 false (digits e t * 2 ^ place e) (2 ^ 1074)
  narrows = narrow_at (of_bits binary64 b) (digits e t * 2 ^ place e) (2 ^ 1074) (pow_pos 1074) read

-- ---- the three ranges of a pattern b, of the exponent's field e and the digits t
lead-lt : (t : ℕ) → t < 2 ^ 52 → 2 ^ 52 + t < 2 ^ 53
lead-lt t h = omega arith

digits-lt53 : (e t : ℕ) → t < 2 ^ 52 → digits e t < 2 ^ 53
digits-lt53 zero t h = lt_of_lt_of_le h (lit≤ tt)
digits-lt53 (suc j) t h = lead-lt t h

place-le : (e k : ℕ) → e ≤ suc k → place e ≤ k
place-le zero k h = zero-le
place-le (suc j) k h = le_of_suc-le-suc h

-- below 2 ^ -150
tiny : (a : ℕ) → a < 2 ^ 924 → round binary32 false a (2 ^ 1074) ≡ of_bits binary32 0
tiny a h =
    subnormal a (lt_of_lt_of_le h (lit≤ tt))
    ∙ ap (λ (q : ℕ). units binary32 false q 0) (le-zero (closest_mono (a * 2 ^ 149) (2 ^ 1074) 1 2 (pow_pos 1074) (lit< tt) half))
    ∙ units-bits 0 0 zero-le (pattern-low 0 (pow_pos 24)) (pow_pos 277)
  where
    le-zero : {q : ℕ} → q ≤ 0 → q ≡ 0
    le-zero {q} h = omega arith

    half : a * 2 ^ 149 * 2 ≤ 1 * 2 ^ 1074
    half = le_trans (le_of_eq (mul_assoc a (2 ^ 149) 2)) (mul-le-mul_right (2 ^ 150) (le_of_lt h))

-- from 2 ^ -150 up to 2 ^ -126
module _ (m j : ℕ) (M : m < 2 ^ 53) (J : j < 896) where
  abbrev q : ℕ
  q = closest m (2 ^ (925 - j))

  shift-pos : 30 ≤ 925 - j
  shift-pos = omega arith

  q-le : q ≤ 2 ^ 23
  q-le =
      closest_mono m (2 ^ (925 - j)) (2 ^ 53) (2 ^ 30) (pow_pos (925 - j)) (pow_pos 30)
      (le_trans (mul-le-mul_right (2 ^ 30) (le_of_lt M)) (le_trans (le_of_eq (mul_comm (2 ^ 53) (2 ^ 30))) (le_trans (mul-le-mul_right (2 ^ 53) (pow_mono shift-pos)) (le_of_eq (mul_comm (2 ^ (925 - j)) (2 ^ 53))))))

  a_lt : m * 2 ^ j < 2 ^ 949
  a_lt = lt_of_lt_of_le (shl_lt 53 j M) (pow_mono (room j J))
    where
      room : (j : ℕ) → j < 896 → 53 + j ≤ 949
      room j h = omega arith

  small : round binary32 false (m * 2 ^ j) (2 ^ 1074) ≡ of_bits binary32 q
  small =
      subnormal (m * 2 ^ j) a_lt
      ∙ ap (λ (z : ℕ). units binary32 false z 0) (closest_same (m * 2 ^ j * 2 ^ 149) (2 ^ 1074) m (2 ^ (925 - j)) (pow_pos 1074) (pow_pos (925 - j)) cross)
      ∙ units-bits q 0 (le_trans q-le (lit≤ tt)) (pattern-low q q-lt) (subst (λ (z : ℕ). z < 2 ^ 277) (sym (mul-one q)) (lt_of_lt_of_le q-lt (lit≤ tt)))
      ∙ ap (of_bits binary32) (zero-add q)
    where
      q-lt : q < 2 ^ 24
      q-lt = lt_of_le_of_lt q-le (lit< tt)

      sum : (j : ℕ) → j < 896 → j + 149 + (925 - j) ≡ 1074
      sum j h = omega arith

      cross : m * 2 ^ j * 2 ^ 149 * 2 ^ (925 - j) ≡ m * 2 ^ 1074
      cross =
          ap (λ (z : ℕ). z * 2 ^ (925 - j)) (mul_assoc m (2 ^ j) (2 ^ 149) ∙ ap (λ (z : ℕ). m * z) (sym (pow-add 2 j 149)))
          ∙ mul_assoc m (2 ^ (j + 149)) (2 ^ (925 - j))
          ∙ ap (λ (z : ℕ). m * z) (sym (pow-add 2 (j + 149) (925 - j)) ∙ ap (λ (z : ℕ). 2 ^ z) (sum j J))

-- from 2 ^ -126 on: q has 24 digits, or is 2 ^ 24
module _ (m i : ℕ) (lo : 2 ^ 52 ≤ m) (hi : m < 2 ^ 53) where
  abbrev Q : ℕ
  Q = closest m (2 ^ 29)

  Q-ge : 2 ^ 23 ≤ Q
  Q-ge = closest_mono (2 ^ 52) (2 ^ 29) m (2 ^ 29) (pow_pos 29) (pow_pos 29) (mul-le-mul_right (2 ^ 29) lo)

  Q-le : Q ≤ 2 ^ 24
  Q-le = closest_mono m (2 ^ 29) (2 ^ 53) (2 ^ 29) (pow_pos 29) (pow_pos 29) (mul-le-mul_right (2 ^ 29) (le_of_lt hi))

  held : i * 2 ^ 23 + Q < 255 * 2 ^ 23 → Q * 2 ^ i < 2 ^ 277
  held h = elim (eq-or-lt_of_le Q-le) [
    | inl c ↦ subst (λ (z : ℕ). z * 2 ^ i < 2 ^ 277) (sym c) (lt_of_le_of_lt (le_of_eq (sym (pow-add 2 24 i))) (pow-lt (carried i Q c h)))
    | inr l ↦ lt_of_lt_of_le (shl_lt 24 i l) (pow_mono (full i Q Q-ge h))
  ]
    where
      carried : (i q : ℕ) → q ≡ 2 ^ 24 → i * 2 ^ 23 + q < 255 * 2 ^ 23 → 24 + i < 277
      carried i q a b = omega arith

      full : (i q : ℕ) → 2 ^ 23 ≤ q → i * 2 ^ 23 + q < 255 * 2 ^ 23 → 24 + i ≤ 277
      full i q a b = omega arith

  over : 255 * 2 ^ 23 ≤ i * 2 ^ 23 + Q → 2 ^ 277 ≤ Q * 2 ^ i
  over h = elim (eq-or-lt_of_le Q-le) [
    | inl c ↦ subst (λ (z : ℕ). 2 ^ 277 ≤ z * 2 ^ i) (sym c) (le_trans (pow_mono (carried i Q c h)) (le_of_eq (pow-add 2 24 i)))
    | inr l ↦ le_trans (pow_mono (full i Q l h)) (le_trans (le_of_eq (pow-add 2 23 i)) (mul-le-mul_right (2 ^ i) Q-ge))
  ]
    where
      carried : (i q : ℕ) → q ≡ 2 ^ 24 → 255 * 2 ^ 23 ≤ i * 2 ^ 23 + q → 277 ≤ 24 + i
      carried i q a b = omega arith

      full : (i q : ℕ) → q < 2 ^ 24 → 255 * 2 ^ 23 ≤ i * 2 ^ 23 + q → 277 ≤ 23 + i
      full i q a b = omega arith

  finite-bits : i * 2 ^ 23 + Q < 255 * 2 ^ 23 → round binary32 false (m * 2 ^ (i + 896)) (2 ^ 1074) ≡ of_bits binary32 (i * 2 ^ 23 + Q)
  finite-bits h = normal m i lo hi ∙ units-bits Q i Q-le (packs Q i Q-ge Q-le) (held h)

  infinite-bits : 255 * 2 ^ 23 ≤ i * 2 ^ 23 + Q → round binary32 false (m * 2 ^ (i + 896)) (2 ^ 1074) ≡ of_bits binary32 0x7f80_0000
  infinite-bits h = normal m i lo hi ∙ units-large Q i (over h) ∙ sym pattern-infinite

-- ---- what the code works out, of a pattern b whose value is finite with the sign clear
module _ (b : ℕ) (N : T (nonneg (of_bits binary64 b))) where
  pub at-tiny : b < 873 * 2 ^ 52 → narrow (of_bits binary64 b) ≡ of_bits binary32 0
  at-tiny h =
      narrows b N
      ∙ tiny (digits (b / 2 ^ 52) (b % 2 ^ 52) * 2 ^ place (b / 2 ^ 52))
      (lt_of_lt_of_le (shl_lt 53 (place (b / 2 ^ 52)) (digits-lt53 (b / 2 ^ 52) (b % 2 ^ 52) (mod-lt b (pow_pos 52))))
      (pow_mono (room (place (b / 2 ^ 52)) (place-le (b / 2 ^ 52) 871 (le_of_suc-le-suc ((div-lt_iff_lt-mul (pow_pos 52)).1 h))))))
    where
      room : (p : ℕ) → p ≤ 871 → 53 + p ≤ 924
      room p h = omega arith

  pub at_small : 873 * 2 ^ 52 ≤ b → b < 897 * 2 ^ 52 → narrow (of_bits binary64 b) ≡ of_bits binary32 (closest (b % 2 ^ 52 + 2 ^ 52) (2 ^ (926 - b / 2 ^ 52)))
  at_small h k =
      narrows b N ∙ go (b / 2 ^ 52) ((le-div_iff_mul-le (pow_pos 52)).1 h) ((div-lt_iff_lt-mul (pow_pos 52)).1 k)
    where
      go : (e : ℕ) → 873 ≤ e → e < 897 → round binary32 false (digits e (b % 2 ^ 52) * 2 ^ place e) (2 ^ 1074) ≡ of_bits binary32 (closest (b % 2 ^ 52 + 2 ^ 52) (2 ^ (926 - e)))
      go zero h k = absurd (no_zero h)
        where
          no_zero : 873 ≤ 0 → ⊥
          no_zero h = omega arith
      go (suc j) h k =
          small (2 ^ 52 + b % 2 ^ 52) j (lead-lt (b % 2 ^ 52) (mod-lt b (pow_pos 52))) (le_of_suc-le-suc k)
          ∙ ap (λ (z : ℕ). of_bits binary32 (closest z (2 ^ (925 - j)))) (add_comm (2 ^ 52) (b % 2 ^ 52))
          ∙ ap (λ (z : ℕ). of_bits binary32 (closest (b % 2 ^ 52 + 2 ^ 52) (2 ^ z))) (same j)
        where
          same : (j : ℕ) → 925 - j ≡ 926 - suc j
          same j = omega arith

  -- the pattern is i + 897 times 2 ^ 52, and the digits
  abbrev Split : Type 0
  Split = (i : ℕ) × (b / 2 ^ 52 ≡ suc (i + 896)) × (closest b (2 ^ 29) - 896 * 2 ^ 23 ≡ i * 2 ^ 23 + closest (2 ^ 52 + b % 2 ^ 52) (2 ^ 29))

  split_at : 897 * 2 ^ 52 ≤ b → Split
  split_at h = go (b / 2 ^ 52) refl ((le-div_iff_mul-le (pow_pos 52)).1 h)
    where
      t : ℕ
      t = b % 2 ^ 52

      whole : (e i t b : ℕ) → e ≡ suc (i + 896) → e * 2 ^ 52 + t ≡ b → b ≡ 2 ^ 52 + t + 2 * ((i + 896) * 2 ^ 22) * 2 ^ 29
      whole e i t b p r = omega arith

      less : (i q : ℕ) → 2 * ((i + 896) * 2 ^ 22) + q - 896 * 2 ^ 23 ≡ i * 2 ^ 23 + q
      less i q = omega arith

      back : (e : ℕ) → 897 ≤ e → e ≡ suc (e - 897 + 896)
      back e h = omega arith

      go : (e : ℕ) → b / 2 ^ 52 ≡ e → 897 ≤ e → Split
      go e p r =
          let i = e - 897 in
          let d : b / 2 ^ 52 ≡ suc (i + 896) = p ∙ back e r in
          let q = closest (2 ^ 52 + b % 2 ^ 52) (2 ^ 29) in (
            i,
            d,
            ap (λ (z : ℕ). closest z (2 ^ 29) - 896 * 2 ^ 23) (whole (b / 2 ^ 52) i (b % 2 ^ 52) b d (div-add-mod' b (2 ^ 52)))
                ∙ ap (λ (z : ℕ). z - 896 * 2 ^ 23) (closest-shift ((i + 896) * 2 ^ 22) (2 ^ 52 + b % 2 ^ 52) (2 ^ 29) (pow_pos 29))
                ∙ less i q,
          )

  m-lt : 2 ^ 52 + b % 2 ^ 52 < 2 ^ 53
  m-lt = lead-lt (b % 2 ^ 52) (mod-lt b (pow_pos 52))

  m-ge : 2 ^ 52 ≤ 2 ^ 52 + b % 2 ^ 52
  m-ge = le-add_right (2 ^ 52) (b % 2 ^ 52)

  pub at-normal : 897 * 2 ^ 52 ≤ b → closest b (2 ^ 29) - 896 * 2 ^ 23 < 255 * 2 ^ 23 → narrow (of_bits binary64 b) ≡ of_bits binary32 (closest b (2 ^ 29) - 896 * 2 ^ 23)
  at-normal h k =
      let s = split_at h in
      narrows b N
      ∙ ap (λ (z : ℕ). round binary32 false (digits z (b % 2 ^ 52) * 2 ^ place z) (2 ^ 1074)) s.1
      ∙ finite-bits (2 ^ 52 + b % 2 ^ 52) s.0 m-ge m-lt (subst (λ (z : ℕ). z < 255 * 2 ^ 23) s.2 k)
      ∙ ap (of_bits binary32) (sym s.2)

  pub at-large : 897 * 2 ^ 52 ≤ b → 255 * 2 ^ 23 ≤ closest b (2 ^ 29) - 896 * 2 ^ 23 → narrow (of_bits binary64 b) ≡ of_bits binary32 0x7f80_0000
  at-large h k =
      let s = split_at h in
      narrows b N
      ∙ ap (λ (z : ℕ). round binary32 false (digits z (b % 2 ^ 52) * 2 ^ place z) (2 ^ 1074)) s.1
      ∙ infinite-bits (2 ^ 52 + b % 2 ^ 52) s.0 m-ge m-lt (subst (λ (z : ℕ). 255 * 2 ^ 23 ≤ z) s.2 k)

-- ---- rounding by the three ways that twice the remainder r compares with the divisor u
module _ (q r u : ℕ) where
  pub nearest-below : r * 2 < u → q ≡ nearest q (compare (r * 2) u)
  nearest-below h = go (compare (r * 2) u) (nleb→lt (r * 2) u) (eqb→eq (r * 2) u)
    where
      no_eq : r * 2 ≡ u → r * 2 < u → ⊥
      no_eq a b = omega arith

      no-gt : u < r * 2 → r * 2 < u → ⊥
      no-gt a b = omega arith

      go : (o : Ordering) → (T (not (is_le o)) → u < r * 2) → (T (compare_is_eq o) → r * 2 ≡ u) → q ≡ nearest q o
      go Ordering.lt g e = refl
      go Ordering.eq g e = absurd (no_eq (e tt) h)
      go Ordering.gt g e = absurd (no-gt (g tt) h)

  pub nearest-above : u < r * 2 → suc q ≡ nearest q (compare (r * 2) u)
  nearest-above h = go (compare (r * 2) u) (leb→le (r * 2) u)
    where
      no_le : r * 2 ≤ u → u < r * 2 → ⊥
      no_le a b = omega arith

      go : (o : Ordering) → (T (is_le o) → r * 2 ≤ u) → suc q ≡ nearest q o
      go Ordering.lt g = absurd (no_le (g tt) h)
      go Ordering.eq g = absurd (no_le (g tt) h)
      go Ordering.gt g = refl

  pub nearest-half : r * 2 ≡ u → q + q % 2 ≡ nearest q (compare (r * 2) u)
  nearest-half h = subst (λ (z : ℕ). q + q % 2 ≡ nearest q (compare (r * 2) z)) h (go (compare (r * 2) (r * 2)) (eqb_refl (r * 2)))
    where
      go : (o : Ordering) → T (compare_is_eq o) → q + q % 2 ≡ nearest q o
      go Ordering.lt t = absurd t
      go Ordering.eq t = refl
      go Ordering.gt t = absurd t

-- ---- what the proof of `magnitude` cites, of a pattern b that is at most the infinity's
pub nan-free : (n : ℕ) → n ≤ 255 * 2 ^ 23 → T (not (nan_bits binary32 n))
nan-free n h =
    subst (λ (z : Bool). T (not z)) (sym (nan_bits_above binary32 n))
    (not_T (ltb (255 * 2 ^ 23) (n % 2 ^ 31)) (λ t. lt_irrefl (255 * 2 ^ 23) (lt_of_lt_of_le (ltb→lt (255 * 2 ^ 23) (n % 2 ^ 31) t) (le_trans (mod-le n (2 ^ 31)) h))))

fine-odd : (q j : ℕ) → T (nonneg (odd 53 false q j 1074))
fine-odd q j = nonneg-of-value (odd 53 false q j 1074) (q * 2 ^ j) (2 ^ 1074) (odd_sign 53 false q j 1074)

fine-fields : (e t : ℕ) → e < 2047 → T (nonneg (of_fields binary64 false e t))
unfolding of_fields
fine-fields zero t h = fine-odd t 0
fine-fields (suc j) t h = go (eqb (suc j) 2047) (eqb→eq (suc j) 2047)
  where
    go : (z : Bool) → (T z → suc j ≡ 2047) → T (nonneg (cond z (cond (eqb t 0) (inf false) nan) (odd 53 false (2 ^ 52 + t) j 1074)))
    go true k = absurd (lt_irrefl 2047 (subst (λ (z : ℕ). z < 2047) (k tt) h))
    go false k = fine-odd (2 ^ 52 + t) j

finite-pattern : (b : ℕ) → b < 2047 * 2 ^ 52 → T (nonneg (of_bits binary64 b))
finite-pattern b h =
    let small : b < 2 ^ 63 = lt_of_lt_of_le h (lit≤ tt) in
    let s : leb (2 ^ 63) b ≡ false = is_false (leb (2 ^ 63) b) (not_T (leb (2 ^ 63) b) (λ t. not-le_of_lt small (leb→le (2 ^ 63) b t))) in
    subst (λ (z : Float). T (nonneg z)) (sym (of_bits_is b ∙ ap (λ (z : Bool). of_fields binary64 z (b % 2 ^ 63 / 2 ^ 52) (b % 2 ^ 52)) s ∙ ap (λ (z : ℕ). of_fields binary64 false (z / 2 ^ 52) (b % 2 ^ 52)) (mod-eq_of_lt small)))
    (fine-fields (b / 2 ^ 52) (b % 2 ^ 52) ((div-lt_iff_lt-mul (pow_pos 52)).1 h))

at-infinity : narrow (of_bits binary64 (2047 * 2 ^ 52)) ≡ of_bits binary32 0x7f80_0000
unfolding narrow of_bits
at-infinity = refl

-- the unit, as the machine shifts it
pub unit-is : (b : ℕ) → 873 * 2 ^ 52 ≤ b → 1 * 2 ^ (926 - b / 2 ^ 52) % 2 ^ 64 ≡ 2 ^ (926 - b / 2 ^ 52)
unit-is b h = shl_exact 1 (926 - b / 2 ^ 52) 64 (lit< tt) (room (b / 2 ^ 52) ((le-div_iff_mul-le (pow_pos 52)).1 h)) ∙ one-mul (2 ^ (926 - b / 2 ^ 52))
  where
    room : (e : ℕ) → 873 ≤ e → 1 + (926 - e) ≤ 64
    room e h = omega arith

pub small-le : (b : ℕ) → b < 897 * 2 ^ 52 → closest (b % 2 ^ 52 + 2 ^ 52) (2 ^ (926 - b / 2 ^ 52)) ≤ 2 ^ 23
small-le b h =
    closest_mono (b % 2 ^ 52 + 2 ^ 52) (2 ^ (926 - b / 2 ^ 52)) (2 ^ 53) (2 ^ 30) (pow_pos (926 - b / 2 ^ 52)) (pow_pos 30)
    (mul-le-mul (wide53 b) (pow_mono (room (b / 2 ^ 52) ((div-lt_iff_lt-mul (pow_pos 52)).1 h))))
  where
    wide53 : (b : ℕ) → b % 2 ^ 52 + 2 ^ 52 ≤ 2 ^ 53
    wide53 b = omega arith

    room : (e : ℕ) → e < 897 → 30 ≤ 926 - e
    room e h = omega arith

pub short-ge : (b : ℕ) → 897 * 2 ^ 52 ≤ b → 896 * 2 ^ 23 ≤ closest b (2 ^ 29)
short-ge b h = le_trans (room b h) (nearest-ge (b / 2 ^ 29) (compare (b % 2 ^ 29 * 2) (2 ^ 29)))
  where
    room : (b : ℕ) → 897 * 2 ^ 52 ≤ b → 896 * 2 ^ 23 ≤ b / 2 ^ 29
    room b h = omega arith

pub gives-zero : (b : ℕ) → b < 873 * 2 ^ 52 → of_bits binary32 0 ≡ narrow (of_bits binary64 b)
gives-zero b h = sym (at-tiny b (finite-pattern b (lt_of_lt_of_le h (lit≤ tt))) h)

pub gives-small : (b : ℕ) → 873 * 2 ^ 52 ≤ b → b < 897 * 2 ^ 52 → of_bits binary32 (closest (b % 2 ^ 52 + 2 ^ 52) (2 ^ (926 - b / 2 ^ 52))) ≡ narrow (of_bits binary64 b)
gives-small b h k = sym (at_small b (finite-pattern b (lt_of_lt_of_le k (lit≤ tt))) h k)

pub gives-normal : (b : ℕ) → b ≤ 2047 * 2 ^ 52 → 897 * 2 ^ 52 ≤ b → closest b (2 ^ 29) - 896 * 2 ^ 23 < 255 * 2 ^ 23 → of_bits binary32 (closest b (2 ^ 29) - 896 * 2 ^ 23) ≡ narrow (of_bits binary64 b)
gives-normal b B h k = elim (eq-or-lt_of_le B) [
  | inl e ↦ absurd (no (subst (λ (z : ℕ). closest z (2 ^ 29) - 896 * 2 ^ 23 < 255 * 2 ^ 23) e k))
  | inr l ↦ sym (at-normal b (finite-pattern b l) h k)
]
  where
    no : 1151 * 2 ^ 23 < 255 * 2 ^ 23 → ⊥
    no h = omega arith

pub gives-large : (b : ℕ) → b ≤ 2047 * 2 ^ 52 → 897 * 2 ^ 52 ≤ b → 255 * 2 ^ 23 ≤ closest b (2 ^ 29) - 896 * 2 ^ 23 → of_bits binary32 0x7f80_0000 ≡ narrow (of_bits binary64 b)
gives-large b B h k = elim (eq-or-lt_of_le B) [
  | inl e ↦ sym (ap (λ (z : ℕ). narrow (of_bits binary64 z)) e ∙ at-infinity)
  | inr l ↦ sym (at-large b (finite-pattern b l) h k)
]

-- ---- the sign: what the proof of `narrow` cites
fields_neg : (e t : ℕ) → neg (of_fields binary64 false e t) ≡ of_fields binary64 true e t
unfolding of_fields neg
fields_neg zero t = odd-neg 53 false t 0 1074
fields_neg (suc j) t = go (eqb (suc j) 2047) (eqb t 0)
  where
    go : (y z : Bool) → neg (cond y (cond z (inf false) nan) (odd 53 false (2 ^ 52 + t) j 1074)) ≡ cond y (cond z (inf true) nan) (odd 53 true (2 ^ 52 + t) j 1074)
    go true true = refl
    go true false = refl
    go false z = odd-neg 53 false (2 ^ 52 + t) j 1074

-- a pattern with the sign set is the negation of the rest
bits-neg : (b : ℕ) → 2 ^ 63 ≤ b → b < 2 ^ 64 → neg (of_bits binary64 (b - 2 ^ 63)) ≡ of_bits binary64 b
bits-neg b h k =
    let r = b - 2 ^ 63 in
    let small : r < 2 ^ 63 = less b h k in
    ap neg (of_bits_is r ∙ ap (λ (z : Bool). of_fields binary64 z (r % 2 ^ 63 / 2 ^ 52) (r % 2 ^ 52)) (is_false (leb (2 ^ 63) r) (not_T (leb (2 ^ 63) r) (λ t. not-le_of_lt small (leb→le (2 ^ 63) r t)))))
    ∙ fields_neg (r % 2 ^ 63 / 2 ^ 52) (r % 2 ^ 52)
    ∙ ap (λ (z : ℕ). of_fields binary64 true (z / 2 ^ 52) (r % 2 ^ 52)) (top b h)
    ∙ ap (λ (z : ℕ). of_fields binary64 true (b % 2 ^ 63 / 2 ^ 52) z) (low52 b h)
    ∙ sym (of_bits_is b ∙ ap (λ (z : Bool). of_fields binary64 z (b % 2 ^ 63 / 2 ^ 52) (b % 2 ^ 52)) (is_true (leb (2 ^ 63) b) (le→leb (2 ^ 63) b h)))
  where
    less : (b : ℕ) → 2 ^ 63 ≤ b → b < 2 ^ 64 → b - 2 ^ 63 < 2 ^ 63
    less b h k = omega arith

    top : (b : ℕ) → 2 ^ 63 ≤ b → (b - 2 ^ 63) % 2 ^ 63 ≡ b % 2 ^ 63
    top b h = omega arith

    low52 : (b : ℕ) → 2 ^ 63 ≤ b → (b - 2 ^ 63) % 2 ^ 52 ≡ b % 2 ^ 52
    low52 b h = omega arith

module _ (x : Float) (F : T (fits binary64 x)) (N : T (not (is_nan x))) where
  abbrev b : ℕ
  b = to_bits binary64 x

  is : of_bits binary64 b ≡ x
  is = of_bits-to_bits binary64 x F

  -- with the sign taken off, the pattern is at most the infinity's
  rest_le : b % 2 ^ 63 ≤ 2047 * 2 ^ 52
  rest_le = number-bits binary64 x F N

  b_lt : b < 2 ^ 64
  b_lt = to_bits-lt binary64 x F

  pub plain-le : b < 2 ^ 63 → b ≤ 2047 * 2 ^ 52
  plain-le h = subst (λ (z : ℕ). z ≤ 2047 * 2 ^ 52) (mod-eq_of_lt h) rest_le

  pub signed_le : 2 ^ 63 ≤ b → b - 2 ^ 63 ≤ 2047 * 2 ^ 52
  signed_le h = go b h b_lt rest_le
    where
      go : (b : ℕ) → 2 ^ 63 ≤ b → b < 2 ^ 64 → b % 2 ^ 63 ≤ 2047 * 2 ^ 52 → b - 2 ^ 63 ≤ 2047 * 2 ^ 52
      go b h k l = omega arith

  pub plain-is : narrow (of_bits binary64 b) ≡ narrow x
  plain-is = ap narrow is

  pub signed_is : 2 ^ 63 ≤ b → neg (narrow (of_bits binary64 (b - 2 ^ 63))) ≡ narrow x
  signed_is h = narrow-neg (of_bits binary64 (b - 2 ^ 63)) ∙ ap narrow (bits-neg b h b_lt ∙ is)

nan-pattern : of_bits binary32 0x7fc0_0000 ≡ nan
unfolding of_bits
nan-pattern = refl

-- a NaN by its value, where the code's test says so
pub nan_is : (x : Float) → is_nan x ≡ true → of_bits binary32 0x7fc0_0000 ≡ narrow x
unfolding is_nan
nan_is nan e = nan-pattern ∙ sym narrow-nan
nan_is (inf s) e = absurd (false≢true e)
nan_is (fin s m x) e = absurd (false≢true e)
