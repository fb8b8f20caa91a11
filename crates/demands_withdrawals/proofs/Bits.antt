-- A bit of a word that is cleared: it is 0 afterwards, and every other bit is as it was. Words are any numbers here.
-- Assumes nothing.
use mathlib.Core.Path.{◌≡◌, refl, sym, ap, ◌∙◌}
use Prim.Native.Nat.{ℕ, zero, suc, ◌+◌, ◌-◌, ◌*◌, ◌/◌, ◌%◌, ◌^◌, ◌≤◌, ◌<◌}
use native.Mathlib.Nat.{not-suc-le-zero, le_of_suc-le-suc, le_trans, mul_comm, mul_assoc, mul-le-mul_right, mod-le, div-mul-le_self, div-div-eq-div-mul, pow-suc, zero-div}
use native.Mathlib.Omega.{arith}
use lib.Pow.{pow_pos}
use Rattle.demands_withdrawals.specs.Withdrawal.{clear_bit}

-- bit j of a word
abbrev pub bit : ℕ → ℕ → ℕ
bit w j = w / 2 ^ j % 2

-- a later bit is a bit of the half
half : (w j : ℕ) → w / 2 ^ suc j ≡ w / 2 / 2 ^ j
half w j = ap (λ (n : ℕ). w / n) (pow-suc 2 j ∙ mul_comm (2 ^ j) 2) ∙ sym (div-div-eq-div-mul w 2 (2 ^ j))

-- ---- clear_bit by its bit, from the lowest on
clear_first : (w : ℕ) → clear_bit 0 w ≡ w / 2 * 2
unfolding clear_bit
clear_first w = omega arith

clear_later : (j w : ℕ) → clear_bit (suc j) w ≡ clear_bit j (w / 2) * 2 + w % 2
unfolding clear_bit
clear_later j w =
    go w (w / 2 / 2 ^ j % 2 * 2 ^ j) (w / 2 ^ suc j % 2 * 2 ^ suc j)
    (ap (λ (n : ℕ). n % 2 * 2 ^ suc j) (half w j) ∙ ap (λ (n : ℕ). w / 2 / 2 ^ j % 2 * n) (pow-suc 2 j) ∙ sym (mul_assoc (w / 2 / 2 ^ j % 2) (2 ^ j) 2))
    (le_trans (mul-le-mul_right (2 ^ j) (mod-le (w / 2 / 2 ^ j) 2)) (div-mul-le_self (w / 2) (2 ^ j)))
  where
    go : (w x y : ℕ) → y ≡ x * 2 → x ≤ w / 2 → w - y ≡ (w / 2 - x) * 2 + w % 2
    go w x y e l = omega arith

-- ---- the bits afterwards
pub cleared-bit : (j w : ℕ) → bit (clear_bit j w) j ≡ 0
cleared-bit zero w = omega (arith, clear_first w)
cleared-bit (suc j) w =
    let low : clear_bit (suc j) w / 2 ≡ clear_bit j (w / 2) = omega (arith, clear_later j w) in
    ap (λ (n : ℕ). n % 2) (half (clear_bit (suc j) w) j ∙ ap (λ (n : ℕ). n / 2 ^ j) low) ∙ cleared-bit j (w / 2)

pub other-bit : (i j w : ℕ) → (i ≡ j → ⊥) → bit (clear_bit j w) i ≡ bit w i
other-bit zero zero w n = absurd (n refl)
other-bit zero (suc j) w n = omega (arith, clear_later j w)
other-bit (suc i) zero w n =
    let low : clear_bit 0 w / 2 ≡ w / 2 = omega (arith, clear_first w) in
    ap (λ (n : ℕ). n % 2) (half (clear_bit 0 w) i ∙ ap (λ (n : ℕ). n / 2 ^ i) low ∙ sym (half w i))
other-bit (suc i) (suc j) w n =
    let low : clear_bit (suc j) w / 2 ≡ clear_bit j (w / 2) = omega (arith, clear_later j w) in
    ap (λ (n : ℕ). n % 2) (half (clear_bit (suc j) w) i ∙ ap (λ (n : ℕ). n / 2 ^ i) low)
    ∙ other-bit i j (w / 2) (λ e. n (ap suc e)) ∙ ap (λ (n : ℕ). n % 2) (sym (half w i))

-- clearing it again changes nothing
clear-again : (j w : ℕ) → bit w j ≡ 0 → clear_bit j w ≡ w
unfolding clear_bit
clear-again j w e = rw e (omega arith)

pub clear-twice : (j w : ℕ) → clear_bit j (clear_bit j w) ≡ clear_bit j w
clear-twice j w = clear-again j (clear_bit j w) (cleared-bit j w)

-- ---- a word in which every bit is set, and one in which none is
pub set-bit : (n j : ℕ) → j < n → bit (2 ^ n - 1) j ≡ 1
set-bit zero j l = absurd (not-suc-le-zero l)
set-bit (suc n) zero l = omega (arith, pow-suc 2 n, pow_pos n)
set-bit (suc n) (suc j) l =
    let low : (2 ^ suc n - 1) / 2 ≡ 2 ^ n - 1 = omega (arith, pow-suc 2 n, pow_pos n) in
    ap (λ (m : ℕ). m % 2) (half (2 ^ suc n - 1) j ∙ ap (λ (m : ℕ). m / 2 ^ j) low) ∙ set-bit n j (le_of_suc-le-suc l)

pub zero_bit : (j : ℕ) → bit 0 j ≡ 0
zero_bit j = ap (λ (n : ℕ). n % 2) (zero-div (2 ^ j))
