-- What the steps give for a binary64 pattern whose sign is clear, by how the code works them out. Assumes nothing.
use mathlib.Core.Path.{◌≡◌, refl, sym, ap, ◌∙◌, subst}
use mathlib.Core.Bool.{Bool, true, false, not}
use mathlib.Core.Logic.{inl, inr}
use Prim.Native.Nat.{ℕ, ◌+◌, ◌-◌, ◌*◌, ◌/◌, ◌%◌, ◌^◌, ◌≤◌, ◌<◌}
use native.Mathlib.Decide.{dec_le}
use native.Mathlib.Nat.{le_trans, le_of_eq, lt_of_lt_of_le, lt_of_le_of_lt, not-le_of_lt, eq-or-lt_of_le, div-add-mod', mod-lt, mul-le-mul_right}
use native.Mathlib.Omega.{arith}
use lib.Dec.{T, not_T, leb, leb→le, le→leb, nleb→lt}
use lib.Pow.{pow-add, pow_pos, pow_mono, pow-lt, shl_lt}
use lib.Ieee.{binary32, binary64, of_bits}
use lib.Ieee.Nearest.{closest, closest_mono}
use Rattle.meaning.specs.Narrowing.{rounded, narrow_in_steps}
use Rattle.ieee754.proofs.TotalOrder.{same_test}
use Rattle.ieee754.proofs.NarrowSteps.{size_exact, closest-shift, gives-zero, gives-small, gives-normal, gives-large}
use Rattle.ieee754.proofs.InSteps.{in-steps-all}

-- step 1 of 53 digits
rounded-53 : (m : ℕ) → 2 ^ 52 ≤ m → m < 2 ^ 53 → closest m (2 ^ 29) ≡ rounded m
rounded-53 m lo hi = ap (λ (z : ℕ). closest m (2 ^ (z - 24))) (sym (size_exact 52 m lo hi))

lower : (t : ℕ) → 2 ^ 52 ≤ t + 2 ^ 52
lower t = omega arith

upper : (t : ℕ) → t < 2 ^ 52 → t + 2 ^ 52 < 2 ^ 53
upper t h = omega arith

-- step 1's result, the exponent above the rounded digits: the rounded pattern, with the leading digit added once more
with-exponent : (b q : ℕ) → q ≡ rounded (b % 2 ^ 52 + 2 ^ 52) → b / 2 ^ 52 * 2 ^ 23 + q ≡ closest b (2 ^ 29) + 2 ^ 23
with-exponent b q h =
    let e = b / 2 ^ 52 in
    let t = b % 2 ^ 52 in
    sum e (closest t (2 ^ 29)) q (closest b (2 ^ 29))
    (h ∙ sym (rounded-53 (t + 2 ^ 52) (lower t) (upper t (mod-lt b (pow_pos 52)))) ∙ closest-shift (2 ^ 22) t (2 ^ 29) (pow_pos 29))
    (ap (λ (n : ℕ). closest n (2 ^ 29)) (parts e t b (div-add-mod' b (2 ^ 52))) ∙ closest-shift (e * 2 ^ 22) t (2 ^ 29) (pow_pos 29))
  where
    parts : (e t b : ℕ) → e * 2 ^ 52 + t ≡ b → b ≡ t + 2 * (e * 2 ^ 22) * 2 ^ 29
    parts e t b h = omega arith

    sum : (e q r s : ℕ) → r ≡ 2 * 2 ^ 22 + q → s ≡ 2 * (e * 2 ^ 22) + q → e * 2 ^ 23 + r ≡ s + 2 ^ 23
    sum e q r s h k = omega (arith, h, k)

-- step 2, by the exponent above the digits
module _ (q e : ℕ) (lo : 2 ^ 23 ≤ q) (hi : q ≤ 2 ^ 24) where
  above : 1152 * 2 ^ 23 ≤ e * 2 ^ 23 + q → 2 ^ 1174 ≤ q * 2 ^ e
  above h = elim (eq-or-lt_of_le hi) [
    | inl c ↦ subst (λ (n : ℕ). 2 ^ 1174 ≤ n * 2 ^ e) (sym c) (le_trans (pow_mono (carried e q c h)) (le_of_eq (pow-add 2 24 e)))
    | inr l ↦ le_trans (pow_mono (full e q l h)) (le_trans (le_of_eq (pow-add 2 23 e)) (mul-le-mul_right (2 ^ e) lo))
  ]
    where
      carried : (e q : ℕ) → q ≡ 2 ^ 24 → 1152 * 2 ^ 23 ≤ e * 2 ^ 23 + q → 1174 ≤ 24 + e
      carried e q c h = omega arith

      full : (e q : ℕ) → q < 2 ^ 24 → 1152 * 2 ^ 23 ≤ e * 2 ^ 23 + q → 1174 ≤ 23 + e
      full e q l h = omega arith

  under : e * 2 ^ 23 + q < 1152 * 2 ^ 23 → q * 2 ^ e < 2 ^ 1174
  under h = elim (eq-or-lt_of_le hi) [
    | inl c ↦ subst (λ (n : ℕ). n * 2 ^ e < 2 ^ 1174) (sym c) (lt_of_le_of_lt (le_of_eq (sym (pow-add 2 24 e))) (pow-lt (carried e q c h)))
    | inr l ↦ lt_of_lt_of_le (shl_lt 24 e l) (pow_mono (full e q lo h))
  ]
    where
      carried : (e q : ℕ) → q ≡ 2 ^ 24 → e * 2 ^ 23 + q < 1152 * 2 ^ 23 → 24 + e < 1174
      carried e q c h = omega arith

      full : (e q : ℕ) → 2 ^ 23 ≤ q → e * 2 ^ 23 + q < 1152 * 2 ^ 23 → 24 + e ≤ 1174
      full e q l h = omega arith

  with-digits : leb (1152 * 2 ^ 23) (e * 2 ^ 23 + q) ≡ leb (2 ^ 1174) (q * 2 ^ e)
  with-digits =
      same_test (leb (1152 * 2 ^ 23) (e * 2 ^ 23 + q)) (leb (2 ^ 1174) (q * 2 ^ e))
      (λ t. le→leb (2 ^ 1174) (q * 2 ^ e) (above (leb→le (1152 * 2 ^ 23) (e * 2 ^ 23 + q) t)))
      (λ t. not_T (leb (2 ^ 1174) (q * 2 ^ e)) (λ u. not-le_of_lt (under (nleb→lt (1152 * 2 ^ 23) (e * 2 ^ 23 + q) t)) (leb→le (2 ^ 1174) (q * 2 ^ e) u)))

-- of a pattern p of 24 digits, whose leading one is not written
pub overflow-is : (p : ℕ) → leb (1151 * 2 ^ 23) p ≡ leb (2 ^ 1174) ((2 ^ 23 + p % 2 ^ 23) * 2 ^ (p / 2 ^ 23))
overflow-is p =
    let e = p / 2 ^ 23 in
    let q = 2 ^ 23 + p % 2 ^ 23 in
    same_test (leb (1151 * 2 ^ 23) p) (leb (1152 * 2 ^ 23) (e * 2 ^ 23 + q))
    (λ t. le→leb (1152 * 2 ^ 23) (e * 2 ^ 23 + q) (more p (leb→le (1151 * 2 ^ 23) p t)))
    (λ t. not_T (leb (1152 * 2 ^ 23) (e * 2 ^ 23 + q)) (λ u. not-le_of_lt (nleb→lt (1151 * 2 ^ 23) p t) (less p (leb→le (1152 * 2 ^ 23) (e * 2 ^ 23 + q) u))))
    ∙ with-digits q e (lower23 (p % 2 ^ 23)) (upper23 p)
  where
    more : (p : ℕ) → 1151 * 2 ^ 23 ≤ p → 1152 * 2 ^ 23 ≤ p / 2 ^ 23 * 2 ^ 23 + (2 ^ 23 + p % 2 ^ 23)
    more p h = omega arith

    less : (p : ℕ) → 1152 * 2 ^ 23 ≤ p / 2 ^ 23 * 2 ^ 23 + (2 ^ 23 + p % 2 ^ 23) → 1151 * 2 ^ 23 ≤ p
    less p h = omega arith

    lower23 : (d : ℕ) → 2 ^ 23 ≤ 2 ^ 23 + d
    lower23 d = omega arith

    upper23 : (p : ℕ) → 2 ^ 23 + p % 2 ^ 23 ≤ 2 ^ 24
    upper23 p = omega arith

-- and back, of a test's result
pub overflow-large : (p : ℕ) → leb (2 ^ 1174) ((2 ^ 23 + p % 2 ^ 23) * 2 ^ (p / 2 ^ 23)) ≡ true → 1151 * 2 ^ 23 ≤ p
overflow-large p h = leb→le (1151 * 2 ^ 23) p (subst T (sym (overflow-is p ∙ h)) tt)

pub overflow-small : (p : ℕ) → leb (2 ^ 1174) ((2 ^ 23 + p % 2 ^ 23) * 2 ^ (p / 2 ^ 23)) ≡ false → p < 1151 * 2 ^ 23
overflow-small p h = nleb→lt (1151 * 2 ^ 23) p (subst (λ (b : Bool). T (not b)) (sym (overflow-is p ∙ h)) tt)

-- the rounded pattern: its exponent, and its digits with the leading one
pub rounded-pattern : (b : ℕ) → closest b (2 ^ 29) + 2 ^ 23 ≡ b / 2 ^ 52 * 2 ^ 23 + rounded (b % 2 ^ 52 + 2 ^ 52)
rounded-pattern b = sym (with-exponent b (rounded (b % 2 ^ 52 + 2 ^ 52)) refl)

pub pattern-is : (b p : ℕ) → p + 2 ^ 23 ≡ b / 2 ^ 52 * 2 ^ 23 + rounded (b % 2 ^ 52 + 2 ^ 52) → p ≡ closest b (2 ^ 29)
pattern-is b p h = let e = rounded-pattern b in omega (arith, h, e)

module _ (b : ℕ) where
  abbrev InSteps : ℕ → Type 0
  InSteps n = of_bits binary32 n ≡ narrow_in_steps (of_bits binary64 b)

  -- below 2^-150
  pub steps-zero : b < 873 * 2 ^ 52 → InSteps 0
  steps-zero h = gives-zero b h ∙ sym (in-steps-all (of_bits binary64 b))

  -- from there up to 2^-126
  pub steps-subnormal : 873 * 2 ^ 52 ≤ b → b < 897 * 2 ^ 52 → InSteps (closest (b % 2 ^ 52 + 2 ^ 52) (2 ^ (926 - b / 2 ^ 52)))
  steps-subnormal h k = gives-small b h k ∙ sym (in-steps-all (of_bits binary64 b))

  -- what step 1 gives, where neither 2 nor 3 holds
  pub steps-normal : b ≤ 2047 * 2 ^ 52 → 897 * 2 ^ 52 ≤ b → closest b (2 ^ 29) < 1151 * 2 ^ 23 → InSteps (closest b (2 ^ 29) - 896 * 2 ^ 23)
  steps-normal B h k = gives-normal b B h (omega (arith, k)) ∙ sym (in-steps-all (of_bits binary64 b))

  -- step 2
  pub steps-large : b ≤ 2047 * 2 ^ 52 → 1151 * 2 ^ 23 ≤ closest b (2 ^ 29) → InSteps 0x7f80_0000
  steps-large B h = gives-large b B reached (omega (arith, h)) ∙ sym (in-steps-all (of_bits binary64 b))
    where
      -- a pattern below 897 × 2^52 is rounded to 897 × 2^23 at most
      reached : 897 * 2 ^ 52 ≤ b
      reached = elim (dec_le (897 * 2 ^ 52) b) as (λ _. 897 * 2 ^ 52 ≤ b) [
        | yes g ↦ g
        | no g ↦
            let l : closest b (2 ^ 29) ≤ 897 * 2 ^ 23 = closest_mono b (2 ^ 29) (897 * 2 ^ 52) (2 ^ 29) (pow_pos 29) (pow_pos 29) (mul-le-mul_right {m = b} {n = 897 * 2 ^ 52} (2 ^ 29) (omega arith)) in
            absurd (omega (arith, h, l))
      ]
