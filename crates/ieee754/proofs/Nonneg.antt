-- A float that is finite and not negative, +0 included, is the fraction `num` / `den`, and its bits are a function of
-- its size: equal fractions are one value, and a value that fits comes back from `round`. Assumes nothing.
use mathlib.Core.Path.{◌≡◌, refl, sym, ap, ◌∙◌, subst}
use Prim.Native.Nat.{ℕ, zero, suc, ◌+◌, ◌-◌, ◌*◌, ◌/◌, ◌%◌, ◌^◌, ◌≤◌, ◌<◌}
use native.Mathlib.Nat.{le_of_suc-le-suc, lt_of_lt_of_le, lt_of_not-le, lt_irrefl, zero-add, zero-mul, mul-one, mul_comm, mul_assoc, mul_right_comm, mul-lt-mul_of_pos_right, lt_of_mul-lt-mul_right}
use native.Mathlib.Omega.{arith}
use mathlib.Core.Bool.{Bool, true, false, not, ◌&&◌}
use lib.IntN.{ℤ, pos, negsuc}
use lib.Dec.{T, ltb, leb, eqb, ltb→lt, leb→le}
use lib.Pow.{pow-add, pow_pos, pow-lt}
use lib.Ieee.{Float, nan, inf, fin, Format, prec, emax, low, up, down, size, hid, to_bits, of_bits, fits, round, is_nan}
use lib.Ieee.Fits.{and_l, and_r, round-fits}
use lib.Ieee.Bits.{of_bits-to_bits}
use lib.Ieee.Exact.{HasValue, round_exact}
use lib.Ieee.Nearest.{div_same}
use lib.Ieee.Positive.{num, den, den_pos, value→cross}
use Rattle.ieee754.specs.Nonneg.{nonneg}

pub no_nan : (x : Float) → T (nonneg x) → T (not (is_nan x))
unfolding is_nan
no_nan nan p = absurd p
no_nan (inf s) p = tt
no_nan (fin s m e) p = tt

pub own_value : (x : Float) → T (nonneg x) → HasValue x false (num x) (den x)
own_value nan p = absurd p
own_value (inf s) p = absurd p
own_value (fin true m e) p = absurd p
own_value (fin false m e) p = (refl, refl)

pub nonneg-of-value : (x : Float) (a c : ℕ) → HasValue x false a c → T (nonneg x)
nonneg-of-value nan a c h = absurd h
nonneg-of-value (inf s) a c h = absurd h
nonneg-of-value (fin true m e) a c h = absurd (subst (λ (b : Bool). T b) h.0 tt)
nonneg-of-value (fin false m e) a c h = tt

-- ---- the size in units of the format's smallest value, and the pattern of such a size
abbrev pub in_units : Format → Float → ℕ
in_units f x = num x * 2 ^ low f / den x

abbrev pub pattern : Format → ℕ → ℕ
pattern f n = (size n - prec f) * hid f + n / 2 ^ (size n - prec f)

pub to_bits-units : (f : Format) (x : Float) → T (nonneg x) → to_bits f x ≡ pattern f (in_units f x)
unfolding to_bits
to_bits-units f nan p = absurd p
to_bits-units f (inf s) p = absurd p
to_bits-units f (fin true m e) p = absurd p
to_bits-units f (fin false m e) p =
    let n = m * up e * 2 ^ low f / down e in
    let k = size n - prec f in
    ap (λ (z : ℕ). z + n / 2 ^ k) (zero-add (k * hid f))

pub units-same : (f : Format) (x y : Float) → num x * den y ≡ num y * den x → in_units f x ≡ in_units f y
units-same f x y h =
    let l = 2 ^ low f in
    div_same (num x * l) (den x) (num y * l) (den y) (den_pos x) (den_pos y)
    (mul_right_comm (num x) l (den y) ∙ ap (λ (z : ℕ). z * l) h ∙ mul_right_comm (num y) (den x) l)

-- ---- one value to a fraction
pub unique : (f : Format) (x y : Float) → T (fits f x) → T (fits f y) → T (nonneg x) → T (nonneg y) → num x * den y ≡ num y * den x → x ≡ y
unique f x y F G p q h =
    sym (of_bits-to_bits f x F)
    ∙ ap (of_bits f) (to_bits-units f x p ∙ ap (pattern f) (units-same f x y h) ∙ sym (to_bits-units f y q))
    ∙ of_bits-to_bits f y G

-- ---- what `fits` says, taken apart
pow_le_back : (a l : ℕ) → 2 ^ a ≤ 2 ^ l → a ≤ l
pow_le_back a l h = le_of_suc-le-suc (lt_of_not-le (λ (g : suc l ≤ a). lt_irrefl (2 ^ l) (lt_of_lt_of_le (pow-lt g) h)))

-- a fitting value is q * 2 ^ j units, with a q of at most prec digits
abbrev pub Made : Format → ℕ → ℕ → Type 0
Made f n d = (q : ℕ) × (j : ℕ) × (q < 2 ^ prec f) × (q * 2 ^ j < 2 ^ (low f + suc (emax f))) × (n * 2 ^ low f ≡ q * 2 ^ j * d)

join : (j l : ℕ) → j ≤ l → l - j + j ≡ l
join j l h = omega arith

made : (f : Format) (m : ℕ) (e : ℤ) → m < 2 ^ prec f → down e ≤ 2 ^ low f → m * up e < 2 ^ suc (emax f) * down e → Made f (m * up e) (down e)
made f m (pos a) h k t = (
  m,
  a + low f,
  h,
  subst (λ (z : ℕ). m * z < 2 ^ (low f + suc (emax f))) (sym (pow-add 2 a (low f)))
      (subst (λ (z : ℕ). z < 2 ^ (low f + suc (emax f))) (mul_assoc m (2 ^ a) (2 ^ low f))
      (subst (λ (z : ℕ). m * 2 ^ a * 2 ^ low f < z) (mul_comm (2 ^ suc (emax f)) (2 ^ low f) ∙ sym (pow-add 2 (low f) (suc (emax f))))
      (mul-lt-mul_of_pos_right (subst (λ (z : ℕ). m * 2 ^ a < z) (mul-one (2 ^ suc (emax f))) t) (pow_pos (low f))))),
  mul_assoc m (2 ^ a) (2 ^ low f) ∙ ap (λ (z : ℕ). m * z) (sym (pow-add 2 a (low f))) ∙ sym (mul-one (m * 2 ^ (a + low f))),
)
made f m (negsuc a) h k t =
    let l = low f in
    let r : suc a ≤ l = pow_le_back (suc a) l k in
    let s : 2 ^ (l - suc a) * 2 ^ suc a ≡ 2 ^ l = sym (pow-add 2 (l - suc a) (suc a)) ∙ ap (λ (z : ℕ). 2 ^ z) (join (suc a) l r) in (
      m,
      l - suc a,
      h,
      lt_of_mul-lt-mul_right (2 ^ suc a)
          (subst (λ (z : ℕ). z < 2 ^ (l + suc (emax f)) * 2 ^ suc a) (sym (mul_assoc m (2 ^ (l - suc a)) (2 ^ suc a) ∙ ap (λ (z : ℕ). m * z) s))
          (subst (λ (z : ℕ). m * 2 ^ l < z) (mul_right_comm (2 ^ suc (emax f)) (2 ^ suc a) (2 ^ l) ∙ ap (λ (z : ℕ). z * 2 ^ suc a) (mul_comm (2 ^ suc (emax f)) (2 ^ l) ∙ sym (pow-add 2 l (suc (emax f)))))
          (mul-lt-mul_of_pos_right (subst (λ (z : ℕ). z < 2 ^ suc (emax f) * 2 ^ suc a) (mul-one m) t) (pow_pos l)))),
      ap (λ (z : ℕ). z * 2 ^ l) (mul-one m) ∙ sym (mul_assoc m (2 ^ (l - suc a)) (2 ^ suc a) ∙ ap (λ (z : ℕ). m * z) s),
    )

pub parts : (f : Format) (x : Float) → T (fits f x) → T (nonneg x) → Made f (num x) (den x)
unfolding fits
parts f nan h p = absurd p
parts f (inf s) h p = absurd p
parts f (fin s zero e) h p = (
  0,
  0,
  pow_pos (prec f),
  subst (λ (z : ℕ). z < 2 ^ (low f + suc (emax f))) (sym (zero-mul (2 ^ 0))) (pow_pos (low f + suc (emax f))),
  ap (λ (z : ℕ). z * 2 ^ low f) (zero-mul (up e)) ∙ zero-mul (2 ^ low f) ∙ sym (ap (λ (z : ℕ). z * down e) (zero-mul (2 ^ 0)) ∙ zero-mul (down e)),
)
parts f (fin s (suc m) e) h p =
    let A = eqb (suc m % 2) 1 in
    let B = ltb (suc m) (2 ^ prec f) in
    let C = leb (down e) (2 ^ low f) in
    let D = ltb (suc m * up e) (2 ^ suc (emax f) * down e) in
    made f (suc m) e
    (ltb→lt (suc m) (2 ^ prec f) (and_r A B (and_l (A && B) C (and_l (A && B && C) D h))))
    (leb→le (down e) (2 ^ low f) (and_r (A && B) C (and_l (A && B && C) D h)))
    (ltb→lt (suc m * up e) (2 ^ suc (emax f) * down e) (and_r (A && B && C) D h))

-- ---- rounding what the format holds changes nothing
pub round-self : (f : Format) (x : Float) → T (fits f x) → T (nonneg x) → round f false (num x) (den x) ≡ x
round-self f x h p =
    let z = parts f x h p in
    let r = round f false (num x) (den x) in
    let v : HasValue r false (num x) (den x) = round_exact f false (num x) (den x) z.0 z.1 (den_pos x) z.2 z.3 z.4 in
    unique f r x (round-fits f false (num x) (den x)) h (nonneg-of-value r (num x) (den x) v) p (value→cross r (num x) (den x) v)
