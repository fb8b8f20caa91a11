-- nextUp by the patterns: one more, one less where the sign is set, and 1 from −0; and that it is above its operand.
-- Assumes nothing.
use mathlib.Core.Path.{◌≡◌, refl, sym, ap, ◌∙◌, subst}
use Prim.Native.Nat.{ℕ, zero, suc, ◌+◌, ◌-◌, ◌*◌, ◌/◌, ◌%◌, ◌^◌, ◌≤◌, ◌<◌, zero-le, suc-le-suc}
use native.Mathlib.Nat.{le_refl, le_trans, le_of_eq, not-le_of_lt, zero-mul, zero-div, le-add_right}
use native.Mathlib.Numerals.{add-one}
use native.Mathlib.Omega.{arith}
use mathlib.Core.Bool.{Bool, true, false, not, cond}
use mathlib.Core.Logic.{⊎_elim}
use lib.IntN.{ℤ, pos}
use lib.Dec.{T, eqb, ltb, lt→ltb, ltb→lt, le→leb, lit≤}
use lib.Ieee.{Float, nan, inf, fin, binary32, up, down, size, to_bits, of_bits, is_nan, fits, lt, le}
use lib.Ieee.Bits.{of_bits-to_bits, of_bits-fits, to_bits-lt}
use borrow.Author.Tests.{eqb-true, eqb-false}
use Rattle.std.specs.Float.{next_up as std_next_up, next_up_by_bits}
use Rattle.meaning.specs.Ieee754.{zero_float, next_up}
use Rattle.meaning.proofs.Tests.{cmp, decided}
use Rattle.ieee754.specs.Nonneg.{nonneg, sign_clear}
use Rattle.ieee754.proofs.Nonneg.{no_nan, to_bits-units, pattern}
use Rattle.ieee754.proofs.Patterns.{bits-finite, number-bits, inf-pattern, pattern-infinite, pattern-clear, pattern-back, nonneg-clear, clear-lt, clear-le}

-- ---- patterns of the kinds of values
bits-set : (m : ℕ) (e : ℤ) → to_bits binary32 (fin true m e) ≡ 2 ^ 31 + to_bits binary32 (fin false m e)
unfolding to_bits
bits-set m e =
    let n = m * up e * 2 ^ 149 / down e in
    let k = size n - 24 in
    go (k * 2 ^ 23) (n / 2 ^ k)
  where
    go : (a r : ℕ) → 2 ^ 31 + a + r ≡ 2 ^ 31 + (0 + a + r)
    go a r = omega arith

pattern-zero : pattern binary32 0 ≡ 0
unfolding size
pattern-zero = refl

bits-zero : (e : ℤ) → to_bits binary32 (fin false 0 e) ≡ 0
bits-zero e =
    to_bits-units binary32 (fin false 0 e) tt
    ∙ ap (λ (z : ℕ). pattern binary32 (z * 2 ^ 149 / down e)) (zero-mul (up e))
    ∙ ap (λ (z : ℕ). pattern binary32 (z / down e)) (zero-mul (2 ^ 149))
    ∙ ap (pattern binary32) (zero-div (down e))
    ∙ pattern-zero

inf-set : to_bits binary32 (inf true) ≡ 0xff80_0000
unfolding to_bits
inf-set = refl

negative-zero : of_bits binary32 0x8000_0000 ≡ fin true 0 (pos 0)
unfolding of_bits
negative-zero = refl

next-of-zero : (s : Bool) (e : ℤ) → next_up (fin s 0 e) ≡ of_bits binary32 1
unfolding next_up
next-of-zero s e = refl

next-of-inf : next_up (inf false) ≡ inf false
unfolding next_up
next-of-inf = refl

pub zero-fits : T (fits binary32 zero_float)
unfolding fits
zero-fits = tt

-- ---- the four answers of `next_up`, of a value x that is no NaN
at-finite : (x : Float) → T (not (is_nan x)) → to_bits binary32 x < 0x7f80_0000 → of_bits binary32 (to_bits binary32 x + 1) ≡ next_up x
unfolding next_up is_nan
at-finite nan N h = absurd N
at-finite (inf false) N h = absurd (not-le_of_lt h (le_of_eq (sym inf-pattern)))
at-finite (inf true) N h = absurd (not-le_of_lt h (le_trans (lit≤ tt) (le_of_eq (sym inf-set))))
at-finite (fin true m e) N h = absurd (not-le_of_lt h (le_trans (le_trans (lit≤ tt) (le-add_right (2 ^ 31) (to_bits binary32 (fin false m e)))) (le_of_eq (sym (bits-set m e)))))
at-finite (fin false zero e) N h = ap (λ (z : ℕ). of_bits binary32 (z + 1)) (bits-zero e)
at-finite (fin false (suc m) e) N h = refl

pub next-finite : (x : Float) → T (not (is_nan x)) → to_bits binary32 x < 0x7f80_0000 → of_bits binary32 (to_bits binary32 x + 1) ≡ next_up x
next-finite x N h = at-finite x N h

module _ (x : Float) (F : T (fits binary32 x)) where
  pub next-infinite : to_bits binary32 x ≡ 0x7f80_0000 → x ≡ next_up x
  next-infinite h =
      let e : x ≡ inf false = sym (of_bits-to_bits binary32 x F) ∙ ap (of_bits binary32) h ∙ pattern-infinite in
      e ∙ sym (ap next_up e ∙ next-of-inf)

  pub next-zero : to_bits binary32 x ≡ 0x8000_0000 → of_bits binary32 1 ≡ next_up x
  next-zero h =
      let e : x ≡ fin true 0 (pos 0) = sym (of_bits-to_bits binary32 x F) ∙ ap (of_bits binary32) h ∙ negative-zero in
      sym (ap next_up e ∙ next-of-zero true (pos 0))

at-negative : (x : Float) → T (fits binary32 x) → T (not (is_nan x)) → 0x7f80_0000 < to_bits binary32 x → (to_bits binary32 x ≡ 0x8000_0000 → ⊥) → of_bits binary32 (to_bits binary32 x - 1) ≡ next_up x
unfolding next_up is_nan
at-negative nan F N h n = absurd N
at-negative (inf false) F N h n = absurd (not-le_of_lt h (le_of_eq inf-pattern))
at-negative (inf true) F N h n = ap (λ (z : ℕ). of_bits binary32 (z - 1)) inf-set
at-negative (fin false m e) F N h n = absurd (not-le_of_lt h (le-of-suc (bits-finite (fin false m e) F tt)))
  where
    le-of-suc : {a : ℕ} → a < 255 * 2 ^ 23 → a ≤ 0x7f80_0000
    le-of-suc {a} h = omega arith
at-negative (fin true zero e) F N h n = absurd (n (bits-set 0 e ∙ ap (λ (z : ℕ). 2 ^ 31 + z) (bits-zero e)))
at-negative (fin true (suc m) e) F N h n = refl

pub next-negative : (x : Float) → T (fits binary32 x) → T (not (is_nan x)) → 0x7f80_0000 < to_bits binary32 x → (to_bits binary32 x ≡ 0x8000_0000 → ⊥) → of_bits binary32 (to_bits binary32 x - 1) ≡ next_up x
next-negative x F N h n = at-negative x F N h n

-- ---- std's nextUp, which tests the pattern
-- three tests one after the other, by what each answer is
in-turn : (x a c d r : Float) (b i m : ℕ) → (b ≡ i → x ≡ r) → (m ≡ 0 → a ≡ r) → ((b ≡ i → ⊥) → b ≡ m → c ≡ r) → ((m ≡ 0 → ⊥) → (b ≡ m → ⊥) → d ≡ r) → cond (eqb b i) x (cond (eqb m 0) a (cond (eqb b m) c d)) ≡ r
in-turn x a c d r b i m f g h k =
    ⊎_elim
    (λ e. rw e (f (eqb-true b i e)))
    (λ n. rw n
    (⊎_elim
    (λ e. rw e (g (eqb-true m 0 e)))
    (λ z. rw z
    (⊎_elim
    (λ e. rw e (h (eqb-false b i n) (eqb-true b m e)))
    (λ o. rw o (k (eqb-false m 0 z) (eqb-false b m o)))
    (decided (eqb b m))))
    (decided (eqb m 0))))
    (decided (eqb b i))

number-std : (x : Float) → T (fits binary32 x) → T (not (is_nan x)) → next_up_by_bits binary32 x (to_bits binary32 x) ≡ next_up x
number-std x F N =
    let b = to_bits binary32 x in
    let k : b % 2 ^ 31 ≤ 255 * 2 ^ 23 = number-bits binary32 x F N in
    let l : b < 2 ^ 32 = to_bits-lt binary32 x F in
    in-turn x (of_bits binary32 1) (of_bits binary32 (b + 1)) (of_bits binary32 (b - 1)) (next_up x) b 0x7f80_0000 (b % 2 ^ 31)
    (λ e. next-infinite x F e)
    (λ z. ⊎_elim
    (λ (h : b < 2 ^ 31). let e : b ≡ 0 = omega arith in ap (λ (n : ℕ). of_bits binary32 (n + 1)) (sym e) ∙ next-finite x N (omega (arith, e)))
    (λ (h : 2 ^ 31 ≤ b). next-zero x F (omega (arith, z, h, l)))
    (cmp b (2 ^ 31)))
    (λ n e. next-finite x N (below b k n e))
    (λ z o. next-negative x F N (above b o) (λ e. z (whole b e)))
  where
    below : (b : ℕ) → b % 2 ^ 31 ≤ 255 * 2 ^ 23 → (b ≡ 0x7f80_0000 → ⊥) → b ≡ b % 2 ^ 31 → b < 0x7f80_0000
    below b k n e = omega (arith, k, n, e)

    above : (b : ℕ) → (b ≡ b % 2 ^ 31 → ⊥) → 0x7f80_0000 < b
    above b o = omega (arith, o)

    whole : (b : ℕ) → b ≡ 0x8000_0000 → b % 2 ^ 31 ≡ 0
    whole b e = omega (arith, e)

pub next-up-std : (x : Float) → T (fits binary32 x) → std_next_up binary32 x ≡ next_up x
unfolding is_nan next_up
next-up-std nan F = refl
next-up-std (inf s) F = number-std (inf s) F tt
next-up-std (fin s m e) F = number-std (fin s m e) F tt

-- ---- of a finite x that is not negative: the next pattern, which is the least above
module _ (x : Float) (F : T (fits binary32 x)) (p : T (nonneg x)) where
  abbrev b : ℕ
  b = to_bits binary32 x

  is : of_bits binary32 (b + 1) ≡ next_up x
  is = next-finite x (no_nan x p) (bits-finite x F p)

  room : b + 1 ≤ 0x7f80_0000
  room = le_trans (le_of_eq (add-one b)) (bits-finite x F p)

  pub next-up-bits : to_bits binary32 (next_up x) ≡ to_bits binary32 x + 1
  next-up-bits = ap (to_bits binary32) (sym is) ∙ pattern-back (b + 1) room

  pub next-up-fits : T (fits binary32 (next_up x))
  next-up-fits = subst (λ (z : Float). T (fits binary32 z)) is (of_bits-fits binary32 (b + 1))

  pub next-up-clear : T (sign_clear (next_up x))
  next-up-clear = subst (λ (z : Float). T (sign_clear z)) is (pattern-clear (b + 1) room)

  pub next-up-above : T (lt x (next_up x))
  next-up-above =
      subst T (sym (clear-lt x (next_up x) F next-up-fits (nonneg-clear x p) next-up-clear))
      (lt→ltb b (to_bits binary32 (next_up x)) (subst (λ (z : ℕ). b < z) (sym (next-up-bits ∙ add-one b)) (le_refl (suc b))))

  pub next-up-positive : T (lt zero_float (next_up x))
  next-up-positive =
      subst T (sym (clear-lt zero_float (next_up x) zero-fits next-up-fits tt next-up-clear))
      (subst (λ (z : ℕ). T (ltb z (to_bits binary32 (next_up x)))) (sym (bits-zero (pos 0)))
      (lt→ltb 0 (to_bits binary32 (next_up x)) (subst (λ (z : ℕ). 0 < z) (sym (next-up-bits ∙ add-one b)) (suc-le-suc zero-le))))

  pub next-up-least : (y : Float) → T (fits binary32 y) → T (sign_clear y) → T (lt x y) → T (le (next_up x) y)
  next-up-least y G q h =
      subst T (sym (clear-le (next_up x) y next-up-fits G next-up-clear q))
      (le→leb (to_bits binary32 (next_up x)) (to_bits binary32 y)
      (subst (λ (z : ℕ). z ≤ to_bits binary32 y) (sym (next-up-bits ∙ add-one b)) (ltb→lt b (to_bits binary32 y) (subst T (clear-lt x y F G (nonneg-clear x p) q) h))))
