-- The floats that are finite and not negative are in the order of their bit patterns as numbers. Assumes nothing.
use mathlib.Core.Path.{◌≡◌, refl, sym, ap, ◌∙◌, subst}
use mathlib.Core.Logic.{◌⊎◌, inl, inr}
use Prim.Native.Nat.{ℕ, zero, suc, ◌+◌, ◌-◌, ◌*◌, ◌/◌, ◌%◌, ◌^◌, ◌≤◌, ◌<◌, zero-le}
use native.Mathlib.Nat.{le_refl, le_trans, le_of_eq, le_of_lt, lt_of_le_of_lt, lt_of_lt_of_le, lt_irrefl, not-le_of_lt, eq-or-lt_of_le, mul_right_comm, mul-le-mul_right, mul-div_cancel, le-div_iff_mul-le, add-le-add, suc-mul, two-pow-succ, mod-eq_of_lt}
use native.Mathlib.Omega.{arith}
use mathlib.Core.Bool.{Bool, true, false, not, ◌&&◌, ◌||◌, cond}
use lib.IntN.{ℤ}
use borrow.Author.Tests.{lt-ltb, le-ltb, lt-leb, le-leb}
use lib.Dec.{T, leb, ltb, eqb, ltb→lt, lt→ltb, nltb→le, leb→le, le→leb, nleb→lt, eqb→eq, lit<, T_not, not_T}
use lib.Pow.{pow-add, pow_pos, shr_mono, le_ones}
use lib.Arith.{lt_of_le-ne}
use lib.Ieee.{Float, nan, inf, fin, Format, binary32, prec, emax, low, size, hid, top, ones, odd, fits, is_nan, nan_bits, to_bits, of_fields, of_bits, lt, le, eq}
use lib.Ieee.Fits.{kept-lt, two, two-le_pos, eq→eqb}
use lib.Ieee.Exact.{odd_sign}
use lib.Ieee.Digits.{size-lt, size-le, size_reaches}
use lib.Ieee.Bits.{is_false, of_bits-to_bits, to_bits-of_bits, nan_bits_is, nan_bits_above}
use lib.Ieee.Nearest.{div_mono}
use lib.Ieee.Positive.{num, den, den_pos}
use Rattle.ieee754.specs.Nonneg.{nonneg, sign_clear}
use Rattle.ieee754.proofs.TotalOrder.{same_test}
use Rattle.ieee754.proofs.Nonneg.{in_units, pattern, to_bits-units, parts, nonneg-of-value}

size_mono : (a b : ℕ) → a ≤ b → size a ≤ size b
size_mono a b h = size-le a (size b) (lt_of_le_of_lt h (size-lt b))

fewer : (x y p : ℕ) → x ≤ y → x - p ≤ y - p
fewer x y p h = omega arith

all_in_use : (z p : ℕ) → 0 < p → 0 < z - p → p - 1 + (z - p) < z
all_in_use z p P h = omega arith

-- where digits are dropped, the leading one is kept
kept-ge : (p b : ℕ) → 0 < p → 0 < size b - p → 2 ^ (p - 1) ≤ b / 2 ^ (size b - p)
kept-ge p b P K =
    (le-div_iff_mul-le (pow_pos (size b - p))).1
    (le_trans (le_of_eq (sym (pow-add 2 (p - 1) (size b - p)))) (size_reaches b (p - 1 + (size b - p)) (all_in_use (size b) p P K)))

twice : (p : ℕ) → 0 < p → 2 ^ p ≡ 2 ^ (p - 1) + 2 ^ (p - 1)
twice zero h = absurd (lt_irrefl 0 h)
twice (suc p) h = go p
  where
    same : (p : ℕ) → suc p - 1 ≡ p
    same p = omega arith

    go : (p : ℕ) → 2 ^ suc p ≡ 2 ^ (suc p - 1) + 2 ^ (suc p - 1)
    go p = two-pow-succ p ∙ ap (λ (z : ℕ). 2 ^ z + 2 ^ z) (sym (same p))

-- j fields and less than two more are at most k fields and one more, for j < k. H is the in_units of a field
carry : (j k H a b x y : ℕ) → suc j * H ≤ k * H → x ≡ j * H → x + H ≡ suc j * H → y ≡ k * H → a < H + H → H ≤ b → x + a ≤ y + b
carry j k H a b x y h p r q l g = omega arith

pub pattern-mono : (f : Format) (a b : ℕ) → a ≤ b → pattern f a ≤ pattern f b
pattern-mono f a b h =
    let p = prec f in
    let H = hid f in
    let P : 0 < p = two-le_pos p (two f) in
    let j = size a - p in
    let k = size b - p in
    elim (eq-or-lt_of_le (fewer (size a) (size b) p (size_mono a b h))) [
      | inl e ↦ subst (λ (z : ℕ). z * H + a / 2 ^ z ≤ k * H + b / 2 ^ k) (sym e) (add-le-add (le_refl (k * H)) (shr_mono k h))
      | inr l ↦
          carry j k H (a / 2 ^ j) (b / 2 ^ k) (j * H) (k * H) (mul-le-mul_right H l) refl (sym (suc-mul j H)) refl
          (subst (λ (z : ℕ). a / 2 ^ j < z) (twice p P) (kept-lt p a))
          (kept-ge p b P (lt_of_le_of_lt zero-le l))
    ]

-- ---- two such values
module _ (f : Format) (x y : Float) (F : T (fits f x)) (G : T (fits f y)) (p : T (nonneg x)) (q : T (nonneg y)) where
  pub bits-le : num x * den y ≤ num y * den x → to_bits f x ≤ to_bits f y
  bits-le h =
      let l = 2 ^ low f in
      subst (λ (z : ℕ). z ≤ to_bits f y) (sym (to_bits-units f x p))
      (subst (λ (z : ℕ). pattern f (in_units f x) ≤ z) (sym (to_bits-units f y q))
      (pattern-mono f (in_units f x) (in_units f y)
      (div_mono (num x * l) (den x) (num y * l) (den y) (den_pos x) (den_pos y)
      (le_trans (le_of_eq (mul_right_comm (num x) l (den y))) (le_trans (mul-le-mul_right l h) (le_of_eq (mul_right_comm (num y) (den x) l)))))))

  pub bits-same : to_bits f x ≡ to_bits f y → x ≡ y
  bits-same h = sym (of_bits-to_bits f x F) ∙ ap (of_bits f) h ∙ of_bits-to_bits f y G

  pub bits-lt : num x * den y < num y * den x → to_bits f x < to_bits f y
  bits-lt h = lt_of_le-ne (bits-le (le_of_lt h)) (λ (e : to_bits f x ≡ to_bits f y). lt_irrefl (num x * den x) (subst (λ (z : Float). num x * den z < num z * den x) (sym (bits-same e)) h))

pub lt-is : (x y : Float) → T (nonneg x) → T (nonneg y) → lt x y ≡ ltb (num x * den y) (num y * den x)
unfolding lt
lt-is nan y p q = absurd p
lt-is (inf s) y p q = absurd p
lt-is (fin true m e) y p q = absurd p
lt-is (fin false m e) nan p q = absurd q
lt-is (fin false m e) (inf s) p q = absurd q
lt-is (fin false m e) (fin true n d) p q = absurd q
lt-is (fin false m e) (fin false n d) p q = refl

pub le_is : (x y : Float) → T (nonneg x) → T (nonneg y) → le x y ≡ (ltb (num x * den y) (num y * den x) || (eqb (num x * den y) (num y * den x) && true))
unfolding le lt eq
le_is nan y p q = absurd p
le_is (inf s) y p q = absurd p
le_is (fin true m e) y p q = absurd p
le_is (fin false m e) nan p q = absurd q
le_is (fin false m e) (inf s) p q = absurd q
le_is (fin false m e) (fin true n d) p q = absurd q
le_is (fin false m e) (fin false n d) p q = refl

-- `x < y` of two floats is `<` of their patterns
pub lt-bits : (f : Format) (x y : Float) → T (fits f x) → T (fits f y) → T (nonneg x) → T (nonneg y) → lt x y ≡ ltb (to_bits f x) (to_bits f y)
lt-bits f x y F G p q =
    let a = num x * den y in
    let b = num y * den x in
    lt-is x y p q
    ∙ same_test (ltb a b) (ltb (to_bits f x) (to_bits f y))
    (λ t. lt→ltb (to_bits f x) (to_bits f y) (bits-lt f x y F G p q (ltb→lt a b t)))
    (λ t. not_T (ltb (to_bits f x) (to_bits f y)) (λ u. not-le_of_lt (ltb→lt (to_bits f x) (to_bits f y) u) (bits-le f y x G F q p (nltb→le a b t))))

-- ---- the sign is clear, and the exponent's field is not all ones
pub units_lt : (f : Format) (x : Float) → T (fits f x) → T (nonneg x) → in_units f x < 2 ^ (low f + suc (emax f))
units_lt f x F p =
    let z = parts f x F p in
    subst (λ (w : ℕ). w < 2 ^ (low f + suc (emax f))) (sym (ap (λ (w : ℕ). w / den x) z.4 ∙ mul-div_cancel (z.0 * 2 ^ z.1) (den_pos x))) z.3

largest : pattern binary32 (2 ^ 277 - 1) ≡ 255 * 2 ^ 23 - 1
unfolding size
largest = refl

pub bits-finite : (x : Float) → T (fits binary32 x) → T (nonneg x) → to_bits binary32 x < 255 * 2 ^ 23
bits-finite x F p =
    subst (λ (z : ℕ). z < 255 * 2 ^ 23) (sym (to_bits-units binary32 x p))
    (lt_of_le_of_lt (pattern-mono binary32 (in_units binary32 x) (2 ^ 277 - 1) (le_ones 277 (units_lt binary32 x F p)))
    (subst (λ (z : ℕ). z < 255 * 2 ^ 23) (sym largest) (lit< tt)))

-- `x ≤ y` of two floats is `≤` of their patterns
pub le-bits : (f : Format) (x y : Float) → T (fits f x) → T (fits f y) → T (nonneg x) → T (nonneg y) → le x y ≡ leb (to_bits f x) (to_bits f y)
le-bits f x y F G p q =
    let a = num x * den y in
    let b = num y * den x in
    le_is x y p q
    ∙ at_most a b
    ∙ same_test (leb a b) (leb (to_bits f x) (to_bits f y))
    (λ t. le→leb (to_bits f x) (to_bits f y) (bits-le f x y F G p q (leb→le a b t)))
    (λ t. not_T (leb (to_bits f x) (to_bits f y)) (λ u. not-le_of_lt (bits-lt f y x G F q p (nleb→lt a b t)) (leb→le (to_bits f x) (to_bits f y) u)))
  where
    split : (p q : Bool) → T (p || (q && true)) → T p ⊎ T q
    split true q t = inl tt
    split false true t = inr tt
    split false false t = absurd t

    neither : (p q : Bool) → T (not (p || (q && true))) → T (not p) × T (not q)
    neither true q t = absurd t
    neither false true t = absurd t
    neither false false t = (tt, tt)

    above : (a b : ℕ) → b ≤ a → (a ≡ b → ⊥) → b < a
    above a b h n = lt_of_le-ne h (λ (e : b ≡ a). n (sym e))

    at_most : (a b : ℕ) → (ltb a b || (eqb a b && true)) ≡ leb a b
    at_most a b =
        same_test (ltb a b || (eqb a b && true)) (leb a b)
        (λ t. le→leb a b (elim (split (ltb a b) (eqb a b) t) [ inl u ↦ le_of_lt (ltb→lt a b u) | inr u ↦ le_of_eq (eqb→eq a b u) ]))
        (λ t.
        let n = neither (ltb a b) (eqb a b) t in
        not_T (leb a b) (λ u. not-le_of_lt (above a b (nltb→le a b n.0) (λ (e : a ≡ b). T_not (eqb a b) n.1 (eq→eqb e))) (leb→le a b u)))

-- ---- plus infinity too: the values of binary32 whose sign is clear are in the order of their patterns, of which plus
-- infinity's is the last
pub inf-pattern : to_bits binary32 (inf false) ≡ 0x7f80_0000
unfolding to_bits
inf-pattern = refl

pub clear-bits : (x : Float) → T (fits binary32 x) → T (sign_clear x) → to_bits binary32 x ≤ 0x7f80_0000
clear-bits nan F p = absurd p
clear-bits (inf true) F p = absurd p
clear-bits (inf false) F p = le_of_eq inf-pattern
clear-bits (fin true m e) F p = absurd p
clear-bits (fin false m e) F p = le_of_lt (bits-finite (fin false m e) F tt)

-- each of two such values is plus infinity or finite
clear_cases : (P : Float → Float → Type 0) → P (inf false) (inf false)
    → ((n : ℕ) (d : ℤ) → T (fits binary32 (fin false n d)) → P (inf false) (fin false n d))
    → ((m : ℕ) (e : ℤ) → T (fits binary32 (fin false m e)) → P (fin false m e) (inf false))
    → ((m : ℕ) (e : ℤ) (n : ℕ) (d : ℤ) → T (fits binary32 (fin false m e)) → T (fits binary32 (fin false n d)) → P (fin false m e) (fin false n d))
    → (x y : Float) → T (fits binary32 x) → T (fits binary32 y) → T (sign_clear x) → T (sign_clear y) → P x y
clear_cases P a b c f nan y F G p q = absurd p
clear_cases P a b c f (inf true) y F G p q = absurd p
clear_cases P a b c f (fin true m e) y F G p q = absurd p
clear_cases P a b c f (inf false) nan F G p q = absurd q
clear_cases P a b c f (inf false) (inf true) F G p q = absurd q
clear_cases P a b c f (inf false) (fin true n d) F G p q = absurd q
clear_cases P a b c f (fin false m e) nan F G p q = absurd q
clear_cases P a b c f (fin false m e) (inf true) F G p q = absurd q
clear_cases P a b c f (fin false m e) (fin true n d) F G p q = absurd q
clear_cases P a b c f (inf false) (inf false) F G p q = a
clear_cases P a b c f (inf false) (fin false n d) F G p q = b n d G
clear_cases P a b c f (fin false m e) (inf false) F G p q = c m e F
clear_cases P a b c f (fin false m e) (fin false n d) F G p q = f m e n d F G

-- the pattern of plus infinity is above that of a finite value
finite_below : (m : ℕ) (e : ℤ) → T (fits binary32 (fin false m e)) → to_bits binary32 (fin false m e) < to_bits binary32 (inf false)
finite_below m e F = lt_of_lt_of_le (bits-finite (fin false m e) F tt) (le_of_eq (sym inf-pattern))

pub clear-lt : (x y : Float) → T (fits binary32 x) → T (fits binary32 y) → T (sign_clear x) → T (sign_clear y) → lt x y ≡ ltb (to_bits binary32 x) (to_bits binary32 y)
unfolding lt
clear-lt =
    clear_cases (λ x y. lt x y ≡ ltb (to_bits binary32 x) (to_bits binary32 y)) (sym (ap (λ (z : ℕ). ltb z z) inf-pattern))
    (λ n d G. sym (le-ltb _ _ (le_of_lt (finite_below n d G))))
    (λ m e F. sym (lt-ltb _ _ (finite_below m e F)))
    (λ m e n d F G. lt-bits binary32 (fin false m e) (fin false n d) F G tt tt)

pub clear-le : (x y : Float) → T (fits binary32 x) → T (fits binary32 y) → T (sign_clear x) → T (sign_clear y) → le x y ≡ leb (to_bits binary32 x) (to_bits binary32 y)
unfolding le lt eq
clear-le =
    clear_cases (λ x y. le x y ≡ leb (to_bits binary32 x) (to_bits binary32 y)) (sym (ap (λ (z : ℕ). leb z z) inf-pattern))
    (λ n d G. sym (lt-leb _ _ (finite_below n d G)))
    (λ m e F. sym (le-leb _ _ (le_of_lt (finite_below m e F))))
    (λ m e n d F G. le-bits binary32 (fin false m e) (fin false n d) F G tt tt)

pub nonneg-clear : (x : Float) → T (nonneg x) → T (sign_clear x)
nonneg-clear nan p = absurd p
nonneg-clear (inf s) p = absurd p
nonneg-clear (fin s m e) p = p

-- without its sign, the pattern of what is no NaN is at most plus infinity's
pub number-bits : (f : Format) (x : Float) → T (fits f x) → T (not (is_nan x)) → to_bits f x % top f ≤ ones f * hid f
number-bits f x F N =
    let b = to_bits f x in
    nltb→le (ones f * hid f) (b % top f)
    (subst (λ (z : Bool). T (not z)) (nan_bits_above f b) (subst (λ (z : Bool). T (not z)) (sym (nan_bits_is f b ∙ ap is_nan (of_bits-to_bits f x F))) N))

-- ---- a pattern up to plus infinity's: its value has the sign clear, and comes back to it
odd-clear : (d q k l : ℕ) → T (nonneg (odd d false q k l))
odd-clear d q k l = nonneg-of-value (odd d false q k l) (q * 2 ^ k) (2 ^ l) (odd_sign d false q k l)

fields-clear : (e t : ℕ) → e < 255 → T (nonneg (of_fields binary32 false e t))
unfolding of_fields
fields-clear zero t h = odd-clear 24 t 0 149
fields-clear (suc j) t h = go (eqb (suc j) 255) (eqb→eq (suc j) 255)
  where
    go : (z : Bool) → (T z → suc j ≡ 255) → T (nonneg (cond z (cond (eqb t 0) (inf false) nan) (odd 24 false (2 ^ 23 + t) j 149)))
    go true k = absurd (lt_irrefl 255 (subst (λ (z : ℕ). z < 255) (k tt) h))
    go false k = odd-clear 24 (2 ^ 23 + t) j 149

fields-of : (n : ℕ) → n < 2 ^ 31 → of_bits binary32 n ≡ of_fields binary32 false (n / 2 ^ 23) (n % 2 ^ 23)
unfolding of_bits
fields-of n h =
    ap (λ (z : Bool). of_fields binary32 z (n % 2 ^ 31 / 2 ^ 23) (n % 2 ^ 23)) (is_false (leb (2 ^ 31) n) (not_T (leb (2 ^ 31) n) (λ t. not-le_of_lt h (leb→le (2 ^ 31) n t))))
    ∙ ap (λ (z : ℕ). of_fields binary32 false (z / 2 ^ 23) (n % 2 ^ 23)) (mod-eq_of_lt h)

pub pattern-nonneg : (n : ℕ) → n < 0x7f80_0000 → T (nonneg (of_bits binary32 n))
pattern-nonneg n h = subst (λ (z : Float). T (nonneg z)) (sym (fields-of n (below n h))) (fields-clear (n / 2 ^ 23) (n % 2 ^ 23) (field n h))
  where
    below : (n : ℕ) → n < 0x7f80_0000 → n < 2 ^ 31
    below n h = omega arith

    field : (n : ℕ) → n < 0x7f80_0000 → n / 2 ^ 23 < 255
    field n h = omega arith

pub pattern-infinite : of_bits binary32 0x7f80_0000 ≡ inf false
unfolding of_bits
pattern-infinite = refl

pub pattern-clear : (n : ℕ) → n ≤ 0x7f80_0000 → T (sign_clear (of_bits binary32 n))
pattern-clear n h = elim (eq-or-lt_of_le h) [
  | inl e ↦ subst (λ (z : Float). T (sign_clear z)) (sym (ap (of_bits binary32) e ∙ pattern-infinite)) tt
  | inr l ↦ nonneg-clear (of_bits binary32 n) (pattern-nonneg n l)
]

pub clear-number : (x : Float) → T (sign_clear x) → T (not (is_nan x))
unfolding is_nan
clear-number nan p = absurd p
clear-number (inf s) p = tt
clear-number (fin s m e) p = tt

pub pattern_number : (n : ℕ) → n ≤ 0x7f80_0000 → T (not (nan_bits binary32 n))
pattern_number n h = subst (λ (z : Bool). T (not z)) (sym (nan_bits_is binary32 n)) (clear-number (of_bits binary32 n) (pattern-clear n h))

pub pattern-back : (n : ℕ) → n ≤ 0x7f80_0000 → to_bits binary32 (of_bits binary32 n) ≡ n
pattern-back n h = to_bits-of_bits binary32 n (lt_of_le_of_lt h (lit< tt)) (clear-number (of_bits binary32 n) (pattern-clear n h))
