-- The steps of IEEE 754's text (`narrow_in_steps`) give what `narrow` gives: for every value, whether or not binary64
-- holds it. Assumes nothing.
use mathlib.Core.Path.{◌≡◌, refl, sym, ap, ◌∙◌, subst}
use mathlib.Core.Bool.{Bool, true, false, not, cond}
use Prim.Native.Nat.{ℕ, zero, suc, ◌+◌, ◌-◌, ◌*◌, ◌/◌, ◌%◌, ◌^◌, ◌≤◌, ◌<◌, compare}
use native.Mathlib.Decide.{dec_le}
use native.Mathlib.Nat.{le_trans, le_of_eq, lt_of_lt_of_le, lt_of_le_of_lt, lt_irrefl, not-le_of_lt, mul-one, one-mul, mul_assoc, mul_comm, mul-le-mul_right, mul-le-mul_left, le_antisymm, pow-suc, div-add-mod', lt_of_mul-lt-mul_right, le_of_mul-le-mul_right, eq_of_mul-eq-mul_right, div-one, mod-one, div-lt_iff_lt-mul, le-div_iff_mul-le, div-mul-le_self, div-div-eq-div-mul, div-eq_of_lt}
use native.Mathlib.Omega.{arith}
use lib.Dec.{T, leb, ltb, leb→le, ltb→lt, nleb→lt, nltb→le, lit≤, lit<}
use lib.IntN.{ℤ, pos, negsuc}
use lib.Count.{count_trailing_zeros}
use lib.Pow.{pow-add, pow_pos, pow_mono, pow-lt, shl_lt}
use lib.Ieee.{Float, nan, inf, fin, binary32, up, down, minus, size, nearest, odd, units, neg, of_bits}
use lib.Ieee.Digits.{size-lt, size-le, size_reaches}
use lib.Ieee.Exact.{HasValue, odd_sign}
use lib.Ieee.Fits.{down_pos, nearest-le, kept-lt, odd-fits, round_is}
use lib.Ieee.Bits.{of_bits-to_bits}
use lib.Ieee.Nearest.{closest, closest_mono, closest_same, nearest-ge}
use Rattle.meaning.specs.Ieee754.{narrow}
use Rattle.meaning.specs.Narrowing.{dropped, rounded, overflows, tiny, subnormal, float, narrow_in_steps}
use Rattle.ieee754.proofs.Nonneg.{nonneg-of-value, pattern, to_bits-units}
use Rattle.ieee754.proofs.Narrowing.{narrow-is, narrow-nan, narrow-inf, narrow-neg, neg-fin, odd-neg}
use Rattle.ieee754.proofs.NarrowSteps.{size_exact, few, units_of, wide, units_small, units-large, nearest-below}

-- ---- the number of digits
-- y digits fewer where the y lowest are cut off
size-cut : (x y : ℕ) → size (x / 2 ^ y) ≡ size x - y
size-cut x y = go (size x) (size-lt x) (size_reaches x)
  where
    none : (z y : ℕ) → z ≤ y → 0 ≡ z - y
    none z y h = omega arith

    more : (z y : ℕ) → y ≤ z → suc (z - y) ≡ suc z - y
    more z y h = omega arith

    under : (z y : ℕ) → y ≤ z → suc z ≡ suc (z - y) + y
    under z y h = omega arith

    back : (z y : ℕ) → y ≤ z → z - y + y ≡ z
    back z y h = omega arith

    below : (z : ℕ) → z < suc z
    below z = omega arith

    go : (z : ℕ) → x < 2 ^ z → ((j : ℕ) → j < z → 2 ^ j ≤ x) → size (x / 2 ^ y) ≡ z - y
    go z h k = elim (dec_le z y) as (λ _. size (x / 2 ^ y) ≡ z - y) [
      | yes g ↦ ap size (div-eq_of_lt (lt_of_lt_of_le h (pow_mono g))) ∙ size-zero ∙ none z y g
      | no g ↦ up-to z h k (omega arith)
    ]
      where
        size-zero : size 0 ≡ 0
        size-zero = few-digits (size-le 0 0 (pow_pos 0))
          where
            few-digits : {z : ℕ} → z ≤ 0 → z ≡ 0
            few-digits {z} h = omega arith

        up-to : (z : ℕ) → x < 2 ^ z → ((j : ℕ) → j < z → 2 ^ j ≤ x) → y < z → size (x / 2 ^ y) ≡ z - y
        up-to zero h k g = absurd (not-lt-zero g)
          where
            not-lt-zero : y < 0 → ⊥
            not-lt-zero g = omega arith
        up-to (suc z) h k g =
            let l : y ≤ z = omega arith in
            size_exact (z - y) (x / 2 ^ y)
            ((le-div_iff_mul-le (pow_pos y)).1 (le_trans (le_of_eq (sym (pow-add 2 (z - y) y) ∙ ap (λ (e : ℕ). 2 ^ e) (back z y l))) (k z (below z))))
            ((div-lt_iff_lt-mul (pow_pos y)).1 (lt_of_lt_of_le h (le_of_eq (ap (λ (e : ℕ). 2 ^ e) (under z y l) ∙ pow-add 2 (suc (z - y)) y))))
            ∙ more z y l

-- w digits more where a number that is not 0 is shifted up
size_shift : (m w : ℕ) → 0 < m → size (m * 2 ^ w) ≡ size m + w
size_shift m w M = go (size m) (size-lt m) (size_reaches m)
  where
    below : (z : ℕ) → z < suc z
    below z = omega arith

    go : (z : ℕ) → m < 2 ^ z → ((j : ℕ) → j < z → 2 ^ j ≤ m) → size (m * 2 ^ w) ≡ z + w
    go zero h k = absurd (no h)
      where
        no : m < 1 → ⊥
        no h = omega arith
    go (suc z) h k =
        size_exact (z + w) (m * 2 ^ w)
        (le_trans (le_of_eq (pow-add 2 z w)) (mul-le-mul_right (2 ^ w) (k z (below z))))
        (subst (λ (e : ℕ). m * 2 ^ w < 2 ^ e) (one-out z w) (shl_lt (suc z) w h))
        ∙ sym (one-out z w)
      where
        one-out : (z w : ℕ) → suc z + w ≡ suc (z + w)
        one-out z w = omega arith

-- ---- step 1, by which power of two the value is written as a whole number
whole : (x : ℕ) → closest x 1 ≡ x
whole x = ap (λ (q : ℕ). nearest q (compare (x % 1 * 2) 1)) (div-one x) ∙ ap (λ (r : ℕ). nearest x (compare (r * 2) 1)) (mod-one x)

-- with 24 digits kept, the rounded value does not depend on a common power of two
rounds-alike : (m w j : ℕ) → j + 24 ≡ size m + w → closest (m * 2 ^ w) (2 ^ j) * 2 ^ j ≡ rounded m * 2 ^ dropped m * 2 ^ w
rounds-alike m w j h = elim (dec_le (size m) 24) as (λ _. closest (m * 2 ^ w) (2 ^ j) * 2 ^ j ≡ rounded m * 2 ^ dropped m * 2 ^ w) [
  | yes g ↦ exact (24 - size m) (fill (size m) w j h g) (few (size m) 24 g)
  | no g ↦ cut (dropped m) (more (size m) w j h (omega arith))
]
  where
    fill : (z w j : ℕ) → j + 24 ≡ z + w → z ≤ 24 → w ≡ 24 - z + j
    fill z w j h g = omega arith

    more : (z w j : ℕ) → j + 24 ≡ z + w → 24 < z → j ≡ z - 24 + w
    more z w j h g = omega arith

    -- no digit goes
    exact : (g : ℕ) → w ≡ g + j → dropped m ≡ 0 → closest (m * 2 ^ w) (2 ^ j) * 2 ^ j ≡ rounded m * 2 ^ dropped m * 2 ^ w
    exact g e z =
        let x = m * 2 ^ g in
        let y : m * 2 ^ w ≡ x * 2 ^ j = ap (λ (i : ℕ). m * 2 ^ i) e ∙ ap (λ (i : ℕ). m * i) (pow-add 2 g j) ∙ sym (mul_assoc m (2 ^ g) (2 ^ j)) in
        ap (λ (i : ℕ). closest i (2 ^ j) * 2 ^ j) y
        ∙ ap (λ (i : ℕ). i * 2 ^ j) (closest_same (x * 2 ^ j) (2 ^ j) x 1 (pow_pos j) (lit< tt) (mul-one (x * 2 ^ j)) ∙ whole x)
        ∙ sym y
        ∙ ap (λ (i : ℕ). i * 2 ^ w) (sym (ap (λ (d : ℕ). closest m (2 ^ d) * 2 ^ d) z ∙ mul-one (closest m 1) ∙ whole m))

    -- the digits beyond 24 go
    cut : (d : ℕ) → j ≡ d + w → closest (m * 2 ^ w) (2 ^ j) * 2 ^ j ≡ closest m (2 ^ d) * 2 ^ d * 2 ^ w
    cut d e =
        let p : 2 ^ j ≡ 2 ^ d * 2 ^ w = ap (λ (i : ℕ). 2 ^ i) e ∙ pow-add 2 d w in
        ap (λ (q : ℕ). q * 2 ^ j) (closest_same (m * 2 ^ w) (2 ^ j) m (2 ^ d) (pow_pos j) (pow_pos d) (cross m (2 ^ w) (2 ^ d) ∙ ap (λ (i : ℕ). m * i) (sym p)))
        ∙ ap (λ (i : ℕ). closest m (2 ^ d) * i) p
        ∙ sym (mul_assoc (closest m (2 ^ d)) (2 ^ d) (2 ^ w))
      where
        cross : (m a b : ℕ) → m * a * b ≡ m * (b * a)
        cross m a b = omega arith

rounded-le : (m : ℕ) → rounded m ≤ 2 ^ 24
rounded-le m = le_trans (nearest-le (m / 2 ^ dropped m) (compare (m % 2 ^ dropped m * 2) (2 ^ dropped m))) (kept-lt 24 m)

-- the rounded value is at most twice the value
rounded-twice : (m : ℕ) → rounded m * 2 ^ dropped m ≤ 2 * m
rounded-twice m = go (dropped m) refl
  where
    reach : (z d : ℕ) → z - 24 ≡ suc d → suc d < z
    reach z d h = omega arith

    go : (d : ℕ) → dropped m ≡ d → closest m (2 ^ d) * 2 ^ d ≤ 2 * m
    go zero e = le_trans (le_of_eq (mul-one (closest m 1) ∙ whole m)) (twice m)
      where
        twice : (m : ℕ) → m ≤ 2 * m
        twice m = omega arith
    go (suc d) e =
        let u = 2 ^ suc d in
        le_trans (mul-le-mul_right u (nearest-le (m / u) (compare (m % u * 2) u)))
        (sum (m / u) u m (div-mul-le_self m u) (size_reaches m (suc d) (reach (size m) d e)))
      where
        sum : (q u m : ℕ) → q * u ≤ m → u ≤ m → suc q * u ≤ 2 * m
        sum q u m h k = omega arith

-- ---- what `round` does with m × 2^e: in units of 2^-149 the value is `scaled` / `down`, of whose whole part `cutoff`
-- digits go
abbrev scaled : ℕ → ℤ → ℕ
scaled m e = m * up e * 2 ^ 149

abbrev cutoff : ℕ → ℤ → ℕ
cutoff m e = size (scaled m e / down e) - 24

abbrev kept : ℕ → ℤ → ℕ
kept m e = closest (scaled m e) (down e * 2 ^ cutoff m e)

-- the value that step 1 gives, without the power of two of e
abbrev result : ℕ → ℕ
result m = rounded m * 2 ^ dropped m

narrow-units : (m : ℕ) (e : ℤ) → narrow (fin false m e) ≡ units binary32 false (kept m e) (cutoff m e)
narrow-units m e = narrow-is (fin false m e) tt ∙ round_is binary32 false (m * up e) (down e)

kept-le : (m : ℕ) (e : ℤ) → kept m e ≤ 2 ^ 24
kept-le m e =
    let n = scaled m e in
    let k = cutoff m e in
    let u = down e * 2 ^ k in
    le_trans (nearest-le (n / u) (compare (n % u * 2) u)) (subst (λ (q : ℕ). q < 2 ^ 24) (div-div-eq-div-mul n (down e) (2 ^ k)) (kept-lt 24 (n / down e)))

-- a value that is not tiny, in whole numbers
abbrev Normal : ℕ → ℤ → Type 0
Normal m e = down e ≤ m * up e * 2 ^ 126

not-nothing : (m : ℕ) (e : ℤ) → Normal m e → 0 < m
not-nothing zero e h = absurd (none (down e) (up e) (down_pos e) h)
  where
    none : (c u : ℕ) → 0 < c → c ≤ 0 * u * 2 ^ 126 → ⊥
    none c u C h = omega arith
not-nothing (suc m) e h = positive m
  where
    positive : (m : ℕ) → 0 < suc m
    positive m = omega arith

some-digits : (m : ℕ) → 0 < m → 0 < size m
some-digits m M = size-positive (size m) (size-lt m)
  where
    size-positive : (z : ℕ) → m < 2 ^ z → 0 < z
    size-positive zero h = absurd (no h)
      where
        no : m < 1 → ⊥
        no h = omega arith
    size-positive (suc z) h = positive z
      where
        positive : (z : ℕ) → 0 < suc z
        positive z = omega arith

-- a value of 2^-y / 2^126 and more has more than y digits before the place of 2^-126
digits-reach : (m y : ℕ) → 2 ^ y ≤ m * 1 * 2 ^ 126 → y < size m + 126
digits-reach m y h = elim (dec_le (size m + 126) y) as (λ _. y < size m + 126) [
  | yes g ↦ absurd (not-le_of_lt (lt_of_lt_of_le (subst (λ (z : ℕ). z < 2 ^ (size m + 126)) (sym (ap (λ (z : ℕ). z * 2 ^ 126) (mul-one m))) (shl_lt (size m) 126 (size-lt m))) (pow_mono g)) h)
  | no g ↦ omega arith
]

-- the value that `round` gives is that of step 1
same-result : (m : ℕ) (e : ℤ) → Normal m e → kept m e * 2 ^ cutoff m e * down e ≡ result m * up e * 2 ^ 149
same-result m (pos i) h =
    let w = i + 149 in
    let n : m * 2 ^ i * 2 ^ 149 ≡ m * 2 ^ w = mul_assoc m (2 ^ i) (2 ^ 149) ∙ ap (λ (z : ℕ). m * z) (sym (pow-add 2 i 149)) in
    let z : size (m * 2 ^ i * 2 ^ 149 / 1) ≡ size m + w = ap size (div-one (m * 2 ^ i * 2 ^ 149) ∙ n) ∙ size_shift m w (not-nothing m (pos i) h) in
    let k = cutoff m (pos i) in
    let r = rounds-alike m w k (back (size m) i k z (some-digits m (not-nothing m (pos i) h))) in
    mul-one (kept m (pos i) * 2 ^ k)
    ∙ ap (λ (q : ℕ). q * 2 ^ k) (ap (λ (u : ℕ). closest (m * 2 ^ i * 2 ^ 149) u) (one-mul (2 ^ k)) ∙ ap (λ (x : ℕ). closest x (2 ^ k)) n)
    ∙ r
    ∙ ap (λ (p : ℕ). result m * p) (pow-add 2 i 149)
    ∙ sym (mul_assoc (result m) (2 ^ i) (2 ^ 149))
  where
    back : (t i k : ℕ) → size (m * 2 ^ i * 2 ^ 149 / 1) ≡ t + (i + 149) → 0 < t → size (m * 2 ^ i * 2 ^ 149 / 1) - 24 + 24 ≡ t + (i + 149)
    back t i k z p = omega arith
same-result m (negsuc i) h =
    let y = suc i in
    let k = cutoff m (negsuc i) in
    let n : m * 1 * 2 ^ 149 ≡ m * 2 ^ 149 = ap (λ (x : ℕ). x * 2 ^ 149) (mul-one m) in
    let z : size (m * 1 * 2 ^ 149 / 2 ^ y) ≡ size m + 149 - y = size-cut (m * 1 * 2 ^ 149) y ∙ ap (λ (x : ℕ). x - y) (ap size n ∙ size_shift m 149 (not-nothing m (negsuc i) h)) in
    let p : 2 ^ y * 2 ^ k ≡ 2 ^ (y + k) = sym (pow-add 2 y k) in
    let r = rounds-alike m 149 (y + k) (back (size m) y (size (m * 1 * 2 ^ 149 / 2 ^ y)) z (digits-reach m y h)) in
    swap (kept m (negsuc i)) (2 ^ k) (2 ^ y)
    ∙ ap (λ (q : ℕ). q * (2 ^ y * 2 ^ k)) (ap (λ (u : ℕ). closest (m * 1 * 2 ^ 149) u) p ∙ ap (λ (x : ℕ). closest x (2 ^ (y + k))) n)
    ∙ ap (λ (u : ℕ). closest (m * 2 ^ 149) (2 ^ (y + k)) * u) p
    ∙ r
    ∙ ap (λ (x : ℕ). x * 2 ^ 149) (sym (mul-one (result m)))
  where
    back : (t y s : ℕ) → s ≡ t + 149 - y → y < t + 126 → y + (s - 24) + 24 ≡ t + 149
    back t y s z p = omega arith

    swap : (q a b : ℕ) → q * a * b ≡ q * (b * a)
    swap q a b = omega arith

-- ---- step 2 asks what `units` asks
overflow-large : (m : ℕ) (e : ℤ) → Normal m e → T (overflows m e) → 2 ^ 277 ≤ kept m e * 2 ^ cutoff m e
overflow-large m e h t =
    le_of_mul-le-mul_right (le_trans (scale (down e) (result m) (up e) (leb→le (2 ^ 128 * down e) (result m * up e) t)) (le_of_eq (sym (same-result m e h)))) (down_pos e)
  where
    scale : (c r u : ℕ) → 2 ^ 128 * c ≤ r * u → 2 ^ 277 * c ≤ r * u * 2 ^ 149
    scale c r u h = omega arith

overflow-small : (m : ℕ) (e : ℤ) → Normal m e → T (not (overflows m e)) → kept m e * 2 ^ cutoff m e < 2 ^ 277
overflow-small m e h t =
    lt_of_mul-lt-mul_right (down e) (lt_of_le_of_lt (le_of_eq (same-result m e h)) (scale (down e) (result m) (up e) (nleb→lt (2 ^ 128 * down e) (result m * up e) t)))
  where
    scale : (c r u : ℕ) → r * u < 2 ^ 128 * c → r * u * 2 ^ 149 < 2 ^ 277 * c
    scale c r u h = omega arith

-- a tiny value does not overflow
tiny-fits : (m : ℕ) (e : ℤ) → T (tiny m e) → T (overflows m e) → ⊥
tiny-fits m e t o =
    apart (m * up e) (down e) (result m * up e) (ltb→lt (m * up e * 2 ^ 126) (down e) t) (leb→le (2 ^ 128 * down e) (result m * up e) o)
    (le_trans (mul-le-mul_right (up e) (rounded-twice m)) (le_of_eq (mul_assoc 2 m (up e))))
  where
    apart : (a c r : ℕ) → a * 2 ^ 126 < c → 2 ^ 128 * c ≤ r → r ≤ 2 * a → ⊥
    apart a c r h k l = omega arith

-- ---- step 3 rounds the value itself in units of 2^-149, as `round` does there
tiny-cutoff : (m : ℕ) (e : ℤ) → T (tiny m e) → cutoff m e ≡ 0
tiny-cutoff m e t =
    few (size (scaled m e / down e)) 24
    (le_trans (size-le (scaled m e / down e) 23 ((div-lt_iff_lt-mul (down_pos e)).1 (scale (m * up e) (down e) (ltb→lt (m * up e * 2 ^ 126) (down e) t)))) (lit≤ tt))
  where
    scale : (a c : ℕ) → a * 2 ^ 126 < c → a * 2 ^ 149 < 2 ^ 23 * c
    scale a c h = omega arith

small-fits : (q : ℕ) → q ≤ 2 ^ 24 → q * 2 ^ 0 < 2 ^ 277
small-fits q h = lt_of_le_of_lt (le_of_eq (mul-one q)) (lt_of_le_of_lt h (lit< tt))

tiny-is : (m : ℕ) (e : ℤ) → T (tiny m e) → subnormal false m e ≡ narrow (fin false m e)
tiny-is m e t =
    let n = scaled m e in
    let z = tiny-cutoff m e t in
    let q : kept m e ≡ closest n (down e) = ap (λ (k : ℕ). closest n (down e * 2 ^ k)) z ∙ ap (closest n) (mul-one (down e)) in
    sym
    (narrow-units m e
    ∙ ap (units binary32 false (kept m e)) z
    ∙ units_small (kept m e) 0 (small-fits (kept m e) (kept-le m e))
    ∙ ap (λ (x : ℕ). odd 25 false x 0 149) q)

-- ---- one way to write a value
same-minus : (a b l m : ℕ) → a + m ≡ b + l → minus a l ≡ minus b m
same-minus a b l m h = go (leb l a) (leb m b) (leb→le l a) (leb→le m b) (nleb→lt l a) (nleb→lt m b)
  where
    go : (x y : Bool) → (T x → l ≤ a) → (T y → m ≤ b) → (T (not x) → a < l) → (T (not y) → b < m) → cond x (pos (a - l)) (negsuc (l - suc a)) ≡ cond y (pos (b - m)) (negsuc (m - suc b))
    go true true p q r s = let x = p tt in let y = q tt in ap pos (omega arith)
    go true false p q r s = absurd (let x = p tt in let y = s tt in omega arith)
    go false true p q r s = absurd (let x = r tt in let y = q tt in omega arith)
    go false false p q r s = let x = r tt in let y = s tt in ap negsuc (omega arith)

same-odd : (d : ℕ) (s : Bool) (q k l k' l' : ℕ) → k + l' ≡ k' + l → odd d s q k l ≡ odd d s q k' l'
unfolding odd
same-odd d s zero k l k' l' h = refl
same-odd d s (suc q) k l k' l' h = ap (λ (e : ℤ). fin s (suc q / 2 ^ count_trailing_zeros d (suc q)) e) (same-minus (k + count_trailing_zeros d (suc q)) (k' + count_trailing_zeros d (suc q)) l l' (shift k k' l l' (count_trailing_zeros d (suc q)) h))
  where
    shift : (k k' l l' t : ℕ) → k + l' ≡ k' + l → k + t + l' ≡ k' + t + l
    shift k k' l l' t h = omega arith

-- q units of 2^(k - 149) by the value's pattern
by-pattern : (q k : ℕ) → q ≤ 2 ^ 24 → q * 2 ^ k < 2 ^ 277 → odd 25 false q k 149 ≡ of_bits binary32 (pattern binary32 (q * 2 ^ k))
by-pattern q k h l =
    let x = odd 25 false q k 149 in
    let v : HasValue x false (q * 2 ^ k) (2 ^ 149) = odd_sign 25 false q k 149 in
    sym (of_bits-to_bits binary32 x (odd-fits binary32 25 false q k (wide q h) h l))
    ∙ ap (of_bits binary32) (to_bits-units binary32 x (nonneg-of-value x (q * 2 ^ k) (2 ^ 149) v) ∙ ap (pattern binary32) (units_of binary32 x (q * 2 ^ k) v))

same-value : (q k q' k' : ℕ) → q ≤ 2 ^ 24 → q' ≤ 2 ^ 24 → q * 2 ^ k < 2 ^ 277 → q * 2 ^ k ≡ q' * 2 ^ k' → odd 25 false q k 149 ≡ odd 25 false q' k' 149
same-value q k q' k' h h' l e =
    by-pattern q k h l ∙ ap (λ (n : ℕ). of_bits binary32 (pattern binary32 n)) e ∙ sym (by-pattern q' k' h' (subst (λ (n : ℕ). n < 2 ^ 277) e l))

-- a value that is not tiny, q × 2^(d + e), in units of 2^-149: q × 2^place of them
abbrev place : ℕ → ℤ → ℕ
place d (pos i) = d + i + 149
place d (negsuc i) = d + 149 - suc i

-- it is a whole number of them
abbrev Whole : ℕ → ℤ → Type 0
Whole d (pos i) = Unit
Whole d (negsuc i) = suc i ≤ d + 149

float-is : (q d : ℕ) (e : ℤ) → Whole d e → float false q d e ≡ odd 25 false q (place d e) 149
float-is q d (pos i) w = same-odd 25 false q (d + i) 0 (d + i + 149) 149 (omega arith)
float-is q d (negsuc i) w = same-odd 25 false q d (suc i) (d + 149 - suc i) 149 (omega (arith, w))

place-value : (q d : ℕ) (e : ℤ) → Whole d e → q * 2 ^ place d e * down e ≡ q * 2 ^ d * up e * 2 ^ 149
place-value q d (pos i) w =
    mul-one (q * 2 ^ (d + i + 149))
    ∙ ap (λ (p : ℕ). q * p) (pow-add 2 (d + i) 149 ∙ ap (λ (p : ℕ). p * 2 ^ 149) (pow-add 2 d i))
    ∙ out q (2 ^ d) (2 ^ i) (2 ^ 149)
  where
    out : (q a b c : ℕ) → q * (a * b * c) ≡ q * a * b * c
    out q a b c = omega arith
place-value q d (negsuc i) w =
    mul_assoc q (2 ^ (d + 149 - suc i)) (2 ^ suc i)
    ∙ ap (λ (p : ℕ). q * p) (sym (pow-add 2 (d + 149 - suc i) (suc i)) ∙ ap (λ (p : ℕ). 2 ^ p) (back d (suc i) w) ∙ pow-add 2 d 149)
    ∙ out q (2 ^ d) (2 ^ 149)
  where
    back : (d y : ℕ) → y ≤ d + 149 → d + 149 - y + y ≡ d + 149
    back d y h = omega arith

    out : (q a c : ℕ) → q * (a * c) ≡ q * a * 1 * c
    out q a c = omega arith

normal-whole : (m : ℕ) (e : ℤ) → Normal m e → Whole (dropped m) e
normal-whole m (pos i) h = tt
normal-whole m (negsuc i) h = reach (size m) (suc i) (digits-reach m (suc i) h)
  where
    reach : (z y : ℕ) → y < z + 126 → y ≤ z - 24 + 149
    reach z y h = omega arith

-- ---- where neither 2 nor 3 holds the result of step 1 is `narrow`'s
normal-is : (m : ℕ) (e : ℤ) → Normal m e → T (not (overflows m e)) → float false (rounded m) (dropped m) e ≡ narrow (fin false m e)
normal-is m e h o =
    let k = cutoff m e in
    let w = normal-whole m e h in
    let j = place (dropped m) e in
    let f = overflow-small m e h o in
    let v : rounded m * 2 ^ j ≡ kept m e * 2 ^ k = eq_of_mul-eq-mul_right (down e) (down_pos e) (rounded m * 2 ^ j) (kept m e * 2 ^ k) (place-value (rounded m) (dropped m) e w ∙ sym (same-result m e h)) in
    float-is (rounded m) (dropped m) e w
    ∙ sym (same-value (kept m e) k (rounded m) j (kept-le m e) (rounded-le m) f (sym v))
    ∙ sym (units_small (kept m e) k f)
    ∙ sym (narrow-units m e)

overflow-is : (m : ℕ) (e : ℤ) → Normal m e → T (overflows m e) → inf false ≡ narrow (fin false m e)
overflow-is m e h o = sym (narrow-units m e ∙ units-large (kept m e) (cutoff m e) (overflow-large m e h o))

-- every finite value from 0 up
pub in-steps : (m : ℕ) (e : ℤ) → narrow_in_steps (fin false m e) ≡ narrow (fin false m e)
unfolding narrow_in_steps
in-steps m e =
    go (overflows m e) (tiny m e) (tiny-fits m e) (tiny-is m e) (λ n. nltb→le (m * up e * 2 ^ 126) (down e) n) (λ n o. overflow-is m e n o) (λ n o. normal-is m e n o)
  where
    go :
        (o t : Bool) →
        (T t → T o → ⊥) →
        (T t → subnormal false m e ≡ narrow (fin false m e)) →
        (T (not t) → Normal m e) →
        (Normal m e → T o → inf false ≡ narrow (fin false m e)) →
        (Normal m e → T (not o) → float false (rounded m) (dropped m) e ≡ narrow (fin false m e)) →
        cond o (inf false) (cond t (subnormal false m e) (float false (rounded m) (dropped m) e)) ≡ narrow (fin false m e)
    go true true none small n large normal = absurd (none tt tt)
    go true false none small n large normal = large (n tt) tt
    go false true none small n large normal = small tt
    go false false none small n large normal = normal (n tt) tt

-- ---- the sign goes through the steps
float-neg : (s : Bool) (q d : ℕ) (e : ℤ) → neg (float s q d e) ≡ float (not s) q d e
float-neg s q d (pos i) = odd-neg 25 s q (d + i) 0
float-neg s q d (negsuc i) = odd-neg 25 s q d (suc i)

steps-neg : (s : Bool) (m : ℕ) (e : ℤ) → neg (narrow_in_steps (fin s m e)) ≡ narrow_in_steps (fin (not s) m e)
unfolding narrow_in_steps neg
steps-neg s m e = go (overflows m e) (tiny m e)
  where
    go : (o t : Bool) → neg (cond o (inf s) (cond t (subnormal s m e) (float s (rounded m) (dropped m) e))) ≡ cond o (inf (not s)) (cond t (subnormal (not s) m e) (float (not s) (rounded m) (dropped m) e))
    go true t = refl
    go false true = odd-neg 25 s (closest (scaled m e) (down e)) 0 149
    go false false = float-neg s (rounded m) (dropped m) e

-- every value
pub in-steps-all : (x : Float) → narrow_in_steps x ≡ narrow x
unfolding narrow_in_steps
in-steps-all nan = sym narrow-nan
in-steps-all (inf s) = sym (narrow-inf s)
in-steps-all (fin false m e) = in-steps m e
in-steps-all (fin true m e) = sym (steps-neg false m e) ∙ ap neg (in-steps m e) ∙ narrow-neg (fin false m e) ∙ ap narrow (neg-fin false m e)

-- ---- 7.5 allows step 3 to ask whether the rounded result lies below 2^-126
pub tiny_rounded : ℕ → ℤ → Bool
tiny_rounded m e = ltb (result m * up e * 2 ^ 126) (down e)

-- the rounded result of a value from 2^-126 on is not below it
normal-stays : (m : ℕ) (e : ℤ) → Normal m e → down e ≤ result m * up e * 2 ^ 126
normal-stays m e h =
    scale (kept m e * 2 ^ cutoff m e) (down e) (result m * up e) (same-result m e h)
    (le_trans (reach (scaled m e / down e) ((le-div_iff_mul-le (down_pos e)).1 (large (m * up e) (down e) h)))
    (mul-le-mul_right (2 ^ cutoff m e) (le_trans (le_of_eq (div-div-eq-div-mul (scaled m e) (down e) (2 ^ cutoff m e))) (nearest-ge (scaled m e / (down e * 2 ^ cutoff m e)) (compare (scaled m e % (down e * 2 ^ cutoff m e) * 2) (down e * 2 ^ cutoff m e))))))
  where
    large : (a c : ℕ) → c ≤ a * 2 ^ 126 → 2 ^ 23 * c ≤ a * 2 ^ 149
    large a c h = omega arith

    scale : (k c r : ℕ) → k * c ≡ r * 2 ^ 149 → 2 ^ 23 ≤ k → c ≤ r * 2 ^ 126
    scale k c r e h = let t : 2 ^ 23 * c ≤ k * c = mul-le-mul_right c h in omega (arith, e, t)

    -- where digits go, 24 stay
    reach : (w : ℕ) → 2 ^ 23 ≤ w → 2 ^ 23 ≤ w / 2 ^ (size w - 24) * 2 ^ (size w - 24)
    reach w h = go (size w - 24) refl
      where
        more : (z k : ℕ) → z - 24 ≡ suc k → 23 + suc k < z
        more z k e = omega arith

        go : (k : ℕ) → size w - 24 ≡ k → 2 ^ 23 ≤ w / 2 ^ k * 2 ^ k
        go zero e = le_trans h (le_of_eq (sym (mul-one (w / 1) ∙ div-one w)))
        go (suc k) e =
            let p = 2 ^ suc k in
            le_trans (le_of_eq (sym (mul-one (2 ^ 23))))
            (le_trans (mul-le-mul_left (2 ^ 23) (pow_pos (suc k)))
            (mul-le-mul_right p ((le-div_iff_mul-le (pow_pos (suc k))).1 (le_trans (le_of_eq (sym (pow-add 2 23 (suc k)))) (size_reaches w (23 + suc k) (more (size w) k e))))))

lesser : (a b : ℕ) → 2 ^ a < 2 ^ b → a < b
lesser a b h = elim (dec_le b a) as (λ _. a < b) [ yes g ↦ absurd (not-le_of_lt h (pow_mono g)) | no g ↦ omega arith ]

-- m / u below 2^24 that is rounded up to it: m is 2^24 - 1/2 of them or more
half-below : (m u : ℕ) → 0 < u → m < 2 ^ 24 * u → closest m u ≡ 2 ^ 24 → (2 ^ 25 - 1) * u ≤ 2 * m
half-below m u U h e =
    parts (m / u) (m % u) u m (div-add-mod' m u) (up-to (le_trans (le_of_eq (sym e)) (nearest-le (m / u) (compare (m % u * 2) u)))) (elim (dec_le u (m % u * 2)) as (λ _. u ≤ m % u * 2) [
      | yes g ↦ g
      | no g ↦ absurd (apart (nearest-below (m / u) (m % u) u (omega arith) ∙ e))
    ])
  where
    q-lt : m / u < 2 ^ 24
    q-lt = (div-lt_iff_lt-mul U).1 h

    apart : m / u ≡ 2 ^ 24 → ⊥
    apart x = lt_irrefl (2 ^ 24) (subst (λ (q : ℕ). q < 2 ^ 24) x q-lt)

    up-to : 2 ^ 24 ≤ suc (m / u) → 2 ^ 24 - 1 ≤ m / u
    up-to h = omega (arith, h)

    parts : (q r u m : ℕ) → q * u + r ≡ m → 2 ^ 24 - 1 ≤ q → u ≤ r * 2 → (2 ^ 25 - 1) * u ≤ 2 * m
    parts q r u m e h k = let t : (2 ^ 24 - 1) * u ≤ q * u = mul-le-mul_right u h in omega (arith, e, k, t)

-- then in units twice as large it is rounded to 2^23
half-units : (m d : ℕ) → m < 2 ^ 24 * 2 ^ d → closest m (2 ^ d) ≡ 2 ^ 24 → closest m (2 ^ suc d) ≡ 2 ^ 23
half-units m d h e =
    le_antisymm
    (le_trans (closest_mono m (2 ^ suc d) (2 ^ 23) 1 (pow_pos (suc d)) (lit< tt) (above m (2 ^ d) (2 ^ suc d) (pow-suc 2 d) h)) (le_of_eq (whole (2 ^ 23))))
    (closest_mono (2 ^ 25 - 1) 4 m (2 ^ suc d) (lit< tt) (pow_pos (suc d)) (below m (2 ^ d) (2 ^ suc d) (pow-suc 2 d) (half-below m (2 ^ d) (pow_pos d) h e)))
  where
    above : (m u v : ℕ) → v ≡ u * 2 → m < 2 ^ 24 * u → m * 1 ≤ 2 ^ 23 * v
    above m u v e h = omega (arith, e, h)

    below : (m u v : ℕ) → v ≡ u * 2 → (2 ^ 25 - 1) * u ≤ 2 * m → (2 ^ 25 - 1) * v ≤ m * 4
    below m u v e h = omega (arith, e, h)

-- 2^24 × 2^d / 2^(d + 150) is written as 2^23 / 2^149 is
same-least : (s : Bool) (d : ℕ) → odd 25 s (2 ^ 24) d (d + 150) ≡ odd 25 s (2 ^ 23) 0 149
unfolding odd count_trailing_zeros
same-least s d = ap (λ (e : ℤ). fin s 1 e) (same-minus (d + 24) 23 (d + 150) 149 (omega arith))

-- a tiny value whose rounded result is not tiny: both are 2^-126
least : (s : Bool) (m : ℕ) (e : ℤ) → m * up e * 2 ^ 126 < down e → down e ≤ result m * up e * 2 ^ 126 → subnormal s m e ≡ float s (rounded m) (dropped m) e
least s m (pos i) h k = absurd (none m (2 ^ i) (result m) h (rounded-twice m) k)
  where
    none : (m u r : ℕ) → m * u * 2 ^ 126 < 1 → r ≤ 2 * m → 1 ≤ r * u * 2 ^ 126 → ⊥
    none m u r h l k = let t : r * u ≤ 2 * m * u = mul-le-mul_right u l in omega (arith, h, k, t)
least s m (negsuc i) h k = go (dropped m) refl
  where
    y : ℕ
    y = suc i

    digits : (z d : ℕ) → z - 24 ≡ suc d → z ≡ suc d + 24
    digits z d e = omega arith

    top : (z d : ℕ) → z ≡ suc d + 24 → 23 + suc d < z
    top z d e = omega arith

    go : (d : ℕ) → dropped m ≡ d → subnormal s m (negsuc i) ≡ float s (closest m (2 ^ d)) d (negsuc i)
    go zero e = absurd (same m (2 ^ y) (result m) (ap (λ (d : ℕ). closest m (2 ^ d) * 2 ^ d) e ∙ mul-one (closest m 1) ∙ whole m) h k)
      where
        same : (m c r : ℕ) → r ≡ m → m * 1 * 2 ^ 126 < c → c ≤ r * 1 * 2 ^ 126 → ⊥
        same m c r e h k = omega arith
    go (suc d) e =
        let t = suc d in
        let z = digits (size m) d e in
        let lo : 2 ^ (23 + t) ≤ m = size_reaches m (23 + t) (top (size m) d z) in
        let hi : m < 2 ^ 24 * 2 ^ t = lt_of_lt_of_le (size-lt m) (le_of_eq (ap (λ (x : ℕ). 2 ^ x) z ∙ pow-add 2 t 24 ∙ mul_comm (2 ^ t) (2 ^ 24))) in
        let q = closest m (2 ^ t) in
        let q-le : q ≤ 2 ^ 24 = subst (λ (x : ℕ). closest m (2 ^ x) ≤ 2 ^ 24) e (rounded-le m) in
        let r-is : result m ≡ q * 2 ^ t = ap (λ (x : ℕ). closest m (2 ^ x) * 2 ^ x) e in
        let a : 23 + t + 126 < y = lesser (23 + t + 126) y (lt_of_le_of_lt (le_of_eq (pow-add 2 (23 + t) 126)) (lt_of_le_of_lt (mul-le-mul_right (2 ^ 126) lo) (subst (λ (x : ℕ). x * 2 ^ 126 < 2 ^ y) (mul-one m) h))) in
        let k' : 2 ^ y ≤ q * 2 ^ t * 2 ^ 126 = subst (λ (x : ℕ). 2 ^ y ≤ x * 2 ^ 126) (mul-one (result m) ∙ r-is) k in
        let b : y < 24 + t + 127 = lesser y (24 + t + 127) (lt_of_le_of_lt k' (lt_of_le_of_lt (mul-le-mul_right (2 ^ 126) (mul-le-mul_right (2 ^ t) q-le)) (lt_of_le_of_lt (le_of_eq (ap (λ (x : ℕ). x * 2 ^ 126) (sym (pow-add 2 24 t)) ∙ sym (pow-add 2 (24 + t) 126))) (pow-lt (next t))))) in
        let y-is : y ≡ t + 150 = between y t a b in
        let p : 2 ^ y ≡ 2 ^ 24 * 2 ^ t * 2 ^ 126 = ap (λ (x : ℕ). 2 ^ x) (y-is ∙ split t) ∙ pow-add 2 (24 + t) 126 ∙ ap (λ (x : ℕ). x * 2 ^ 126) (pow-add 2 24 t) in
        let q-is : q ≡ 2 ^ 24 = le_antisymm q-le (le_of_mul-le-mul_right (le_of_mul-le-mul_right (le_trans (le_of_eq (sym p)) k') (pow_pos 126)) (pow_pos t)) in
        let u : closest (m * 1 * 2 ^ 149) (2 ^ y) ≡ 2 ^ 23 = closest_same (m * 1 * 2 ^ 149) (2 ^ y) m (2 ^ suc t) (pow_pos y) (pow_pos (suc t)) (cross m (2 ^ suc t) (2 ^ y) (sym (pow-add 2 149 (suc t)) ∙ ap (λ (x : ℕ). 2 ^ x) (sum t ∙ sym y-is))) ∙ half-units m t hi q-is in
        ap (λ (x : ℕ). odd 25 s x 0 149) u ∙ sym (same-least s t) ∙ ap (λ (x : ℕ). odd 25 s (2 ^ 24) t x) (sym y-is) ∙ ap (λ (x : ℕ). odd 25 s x t y) (sym q-is)
      where
        next : (t : ℕ) → 24 + t + 126 < 24 + t + 127
        next t = omega arith

        between : (y t : ℕ) → 23 + t + 126 < y → y < 24 + t + 127 → y ≡ t + 150
        between y t a b = omega arith

        split : (t : ℕ) → t + 150 ≡ 24 + t + 126
        split t = omega arith

        sum : (t : ℕ) → 149 + suc t ≡ t + 150
        sum t = omega arith

        cross : (m a c : ℕ) → 2 ^ 149 * a ≡ c → m * 1 * 2 ^ 149 * a ≡ m * c
        cross m a c e = omega (arith, ap (λ (x : ℕ). m * x) e)

-- whichever of the two step 3 asks, the result is the same
pub tiny-either-way : (s : Bool) (m : ℕ) (e : ℤ) → cond (overflows m e) (inf s) (cond (tiny_rounded m e) (subnormal s m e) (float s (rounded m) (dropped m) e)) ≡ narrow_in_steps (fin s m e)
unfolding narrow_in_steps tiny_rounded
tiny-either-way s m e =
    ap (cond (overflows m e) (inf s))
    (go (tiny m e) (tiny_rounded m e) (ltb→lt (m * up e * 2 ^ 126) (down e)) (nltb→le (m * up e * 2 ^ 126) (down e)) (ltb→lt (result m * up e * 2 ^ 126) (down e)) (nltb→le (result m * up e * 2 ^ 126) (down e)))
  where
    go :
        (t r : Bool) →
        (T t → m * up e * 2 ^ 126 < down e) →
        (T (not t) → Normal m e) →
        (T r → result m * up e * 2 ^ 126 < down e) →
        (T (not r) → down e ≤ result m * up e * 2 ^ 126) →
        cond r (subnormal s m e) (float s (rounded m) (dropped m) e) ≡ cond t (subnormal s m e) (float s (rounded m) (dropped m) e)
    go true true a b c d = refl
    go true false a b c d = sym (least s m e (a tt) (d tt))
    go false true a b c d = absurd (not-le_of_lt (c tt) (normal-stays m e (b tt)))
    go false false a b c d = refl
