-- SmallFloat's codes: each definition by its two cases, bounds, and that a code comes back. Assumes nothing.
use mathlib.Core.Path.{◌≡◌, refl, sym, ap, ◌∙◌, subst}
use mathlib.Core.Logic.{inl, inr}
use mathlib.Core.Bool.{Bool, true, false, cond}
use Prim.Native.Nat.{ℕ, zero, suc, ◌+◌, ◌-◌, ◌*◌, ◌/◌, ◌%◌, ◌^◌, ◌≤◌, ◌<◌}
use native.Mathlib.Nat.{le_trans, le_of_eq, le_of_suc-le-suc, not-suc-le-zero, eq-or-lt_of_le, lt_of_lt_of_le, lt_of_not-le, le_antisymm, mul-le-mul, div-lt_iff_lt-mul, le-div_iff_mul-le, div-mul-le_self, two-pow-succ}
use native.Mathlib.Omega.{arith}
use lib.Dec.{T, ltb, eqb, eqb→eq, lit≤}
use lib.Pow.{pow-add, pow_pos, pow_mono}
use lib.Count.{count_leading_zeros, leading_length}
use lib.Ieee.{size}
use lib.Ieee.Digits.{size-lt, size-le, size_reaches}
use borrow.Author.Tests.{lt-ltb, le-ltb}
use Rattle.meaning.specs.SmallFloat.{long_to_int4, int4_to_long, max_int4, num_free_values, int_to_byte4, byte4_to_int}
use Rattle.meaning.proofs.Tests.{cmp}

-- ---- each definition by its cases
num-free : num_free_values ≡ 24
unfolding num_free_values max_int4 long_to_int4 size
num-free = refl

-- a test that holds, and one that does not
module _ (a b x y : ℕ) where
  passed : a < b → x ≡ cond (ltb a b) x y
  passed h = sym (ap (λ (t : Bool). cond t x y) (lt-ltb a b h))

  failed : b ≤ a → y ≡ cond (ltb a b) x y
  failed h = sym (ap (λ (t : Bool). cond t x y) (le-ltb a b h))

pub long-few : (i : ℕ) → size i < 4 → i ≡ long_to_int4 i
unfolding long_to_int4
long-few i h = passed (size i) 4 i ((size i - 4 + 1) * 8 + i / 2 ^ (size i - 4) % 8) h

pub long-many : (i : ℕ) → 4 ≤ size i → (size i - 4 + 1) * 8 + i / 2 ^ (size i - 4) % 8 ≡ long_to_int4 i
unfolding long_to_int4
long-many i h = failed (size i) 4 i ((size i - 4 + 1) * 8 + i / 2 ^ (size i - 4) % 8) h

pub int4-few : (i : ℕ) → i < 8 → i ≡ int4_to_long i
unfolding int4_to_long
int4-few i h = passed i 8 i ((8 + i % 8) * 2 ^ (i / 8 - 1)) h

pub int4-many : (i : ℕ) → 8 ≤ i → (8 + i % 8) * 2 ^ (i / 8 - 1) ≡ int4_to_long i
unfolding int4_to_long
int4-many i h = failed i 8 i ((8 + i % 8) * 2 ^ (i / 8 - 1)) h

byte-opened : (i : ℕ) → cond (ltb i 24) i (24 + long_to_int4 (i - 24)) ≡ int_to_byte4 i
unfolding int_to_byte4
byte-opened i = ap (λ (n : ℕ). cond (ltb i n) i (n + long_to_int4 (i - n))) (sym num-free)

int-opened : (i : ℕ) → cond (ltb i 24) i (24 + int4_to_long (i - 24)) ≡ byte4_to_int i
unfolding byte4_to_int
int-opened i = ap (λ (n : ℕ). cond (ltb i n) i (n + int4_to_long (i - n))) (sym num-free)

pub byte-few : (i : ℕ) → i < 24 → i ≡ int_to_byte4 i
byte-few i h = passed i 24 i (24 + long_to_int4 (i - 24)) h ∙ byte-opened i

pub byte-many : (i : ℕ) → 24 ≤ i → 24 + long_to_int4 (i - 24) ≡ int_to_byte4 i
byte-many i h = failed i 24 i (24 + long_to_int4 (i - 24)) h ∙ byte-opened i

pub int-few : (i : ℕ) → i < 24 → i ≡ byte4_to_int i
int-few i h = passed i 24 i (24 + int4_to_long (i - 24)) h ∙ int-opened i

pub int-many : (i : ℕ) → 24 ≤ i → 24 + int4_to_long (i - 24) ≡ byte4_to_int i
int-many i h = failed i 24 i (24 + int4_to_long (i - 24)) h ∙ int-opened i

-- ---- how many digits, by the leading zeros
pub size-leading : (i : ℕ) → i < 2 ^ 64 → 64 - count_leading_zeros 64 i ≡ size i
size-leading i h =
    let l = leading_length 64 i h in
    let m = l.0 in
    rest (count_leading_zeros 64 i) m l.1 ∙ le_antisymm (lt-of-not-le' m (size i) (λ (g : suc (size i) ≤ m). short (2 ^ size i) i (le_trans (le_of_eq (sym (two-pow-succ (size i)))) (le_trans (pow_mono g) l.3)) (size-lt i))) (size-le i m l.2)
  where
    rest : (z m : ℕ) → z + m ≡ 64 → 64 - z ≡ m
    rest z m e = omega arith

    lt-of-not-le' : (m s : ℕ) → (suc s ≤ m → ⊥) → m ≤ s
    lt-of-not-le' m s n = le_of_suc-le-suc (lt_of_not-le n)

    short : (p i : ℕ) → p + p ≤ 2 * i + 1 → i < p → ⊥
    short p i a b = omega arith

pub size_few : (i : ℕ) → size i < 4 → i < 8
size_few i h = lt_of_lt_of_le (size-lt i) (pow_mono {i = size i} {j = 3} (le_of_suc-le-suc h))

-- ---- bounds
pub long_to_int4-lt : (i k : ℕ) → 4 ≤ k → i < 2 ^ k → long_to_int4 i < (k - 2) * 8
long_to_int4-lt i k K h = elim (cmp (size i) 4) [
  | inl s ↦ subst (λ (z : ℕ). z < (k - 2) * 8) (long-few i s) (few i k K (size_few i s))
  | inr s ↦ subst (λ (z : ℕ). z < (k - 2) * 8) (long-many i s) (many (size i) (i / 2 ^ (size i - 4)) k K s (size-le i k h))
]
  where
    few : (i k : ℕ) → 4 ≤ k → i < 8 → i < (k - 2) * 8
    few i k K h = omega arith

    many : (s q k : ℕ) → 4 ≤ k → 4 ≤ s → s ≤ k → (s - 4 + 1) * 8 + q % 8 < (k - 2) * 8
    many s q k K h l = omega arith

pub int4_to_long-le : (i : ℕ) → i ≤ 231 → int4_to_long i ≤ 2013265920
int4_to_long-le i h = elim (cmp i 8) [
  | inl s ↦ subst (λ (z : ℕ). z ≤ 2013265920) (int4-few i s) (le_trans h (lit≤ tt))
  | inr s ↦ subst (λ (z : ℕ). z ≤ 2013265920) (int4-many i s) (le_trans (mul-le-mul (digits i) (pow_mono {i = i / 8 - 1} {j = 27} (places i h))) (lit≤ tt))
]
  where
    digits : (i : ℕ) → 8 + i % 8 ≤ 15
    digits i = omega arith

    places : (i : ℕ) → i ≤ 231 → i / 8 - 1 ≤ 27
    places i h = omega arith

-- a length is at most 2,013,265,944, and a byte's number is below 256
pub byte4_to_int-le : (b : ℕ) → b < 256 → byte4_to_int b ≤ 2013265944
byte4_to_int-le b h = elim (cmp b 24) [
  | inl s ↦ subst (λ (z : ℕ). z ≤ 2013265944) (int-few b s) (low b h)
  | inr s ↦ subst (λ (z : ℕ). z ≤ 2013265944) (int-many b s) (high (int4_to_long (b - 24)) (int4_to_long-le (b - 24) (less b h)))
]
  where
    low : (b : ℕ) → b < 256 → b ≤ 2013265944
    low b h = omega arith

    less : (b : ℕ) → b < 256 → b - 24 ≤ 231
    less b h = omega arith

    high : (x : ℕ) → x ≤ 2013265920 → 24 + x ≤ 2013265944
    high x h = omega arith

pub int_to_byte4-lt : (i : ℕ) → i ≤ 2147483647 → int_to_byte4 i < 256
int_to_byte4-lt i h = elim (cmp i 24) [
  | inl s ↦ subst (λ (z : ℕ). z < 256) (byte-few i s) (low i s)
  | inr s ↦ subst (λ (z : ℕ). z < 256) (byte-many i s) (high (long_to_int4 (i - 24)) (long_to_int4-lt (i - 24) 31 (lit≤ tt) (less i h)))
]
  where
    low : (i : ℕ) → i < 24 → i < 256
    low i h = omega arith

    less : (i : ℕ) → i ≤ 2147483647 → i - 24 < 2 ^ 31
    less i h = omega arith

    high : (x : ℕ) → x < 232 → 24 + x < 256
    high x h = omega arith

-- ---- a code stands for a number that is at most what it was made of
-- m has s + 4 digits, so its leading four are from 8 to 15
module _ (m : ℕ) (h : 4 ≤ size m) where
  abbrev s : ℕ
  s = size m - 4

  abbrev q : ℕ
  q = m / 2 ^ s

  q-ge : 8 ≤ q
  q-ge = (le-div_iff_mul-le (pow_pos s)).1 (le_trans (le_of_eq (sym (pow-add 2 3 s))) (size_reaches m (3 + s) (inside (size m) h)))
    where
      inside : (z : ℕ) → 4 ≤ z → 3 + (z - 4) < z
      inside z h = omega arith

  q-lt : q < 16
  q-lt = (div-lt_iff_lt-mul (pow_pos s)).1 (lt_of_lt_of_le (size-lt m) (le_trans (pow_mono (all (size m))) (le_of_eq (pow-add 2 4 s))))
    where
      all : (z : ℕ) → z ≤ 4 + (z - 4)
      all z = omega arith

  back : int4_to_long (long_to_int4 m) ≡ q * 2 ^ s
  back =
      let c = (s + 1) * 8 + q % 8 in
      ap int4_to_long (sym (long-many m h))
      ∙ sym (int4-many c (large s q))
      ∙ ap (λ (z : ℕ). z * 2 ^ (c / 8 - 1)) (digits s q q-ge q-lt)
      ∙ ap (λ (z : ℕ). q * 2 ^ z) (shift s q)
    where
      large : (s q : ℕ) → 8 ≤ (s + 1) * 8 + q % 8
      large s q = omega arith

      digits : (s q : ℕ) → 8 ≤ q → q < 16 → 8 + ((s + 1) * 8 + q % 8) % 8 ≡ q
      digits s q a b = omega arith

      shift : (s q : ℕ) → ((s + 1) * 8 + q % 8) / 8 - 1 ≡ s
      shift s q = omega arith

int4_to_long-below : (m : ℕ) → int4_to_long (long_to_int4 m) ≤ m
int4_to_long-below m = elim (cmp (size m) 4) [
  | inl h ↦ le_of_eq (sym (int4-few m (size_few m h) ∙ ap int4_to_long (long-few m h)))
  | inr h ↦ le_trans (le_of_eq (back m h)) (div-mul-le_self m (2 ^ (size m - 4)))
]

pub byte4_to_int-below : (n : ℕ) → byte4_to_int (int_to_byte4 n) ≤ n
byte4_to_int-below n = elim (cmp n 24) [
  | inl h ↦ le_of_eq (sym (int-few n h ∙ ap byte4_to_int (byte-few n h)))
  | inr h ↦
      let c = long_to_int4 (n - 24) in
      le_trans (le_of_eq (ap byte4_to_int (sym (byte-many n h)) ∙ sym (int-many (24 + c) (more c)) ∙ ap (λ (z : ℕ). 24 + int4_to_long z) (less c))) (whole n (int4_to_long c) h (int4_to_long-below (n - 24)))
]
  where
    more : (c : ℕ) → 24 ≤ 24 + c
    more c = omega arith

    less : (c : ℕ) → 24 + c - 24 ≡ c
    less c = omega arith

    whole : (n x : ℕ) → 24 ≤ n → x ≤ n - 24 → 24 + x ≤ n
    whole n x h k = omega arith

-- ---- one test over all the bytes
abbrev both : Bool → Bool → Bool
both true b = b
both false b = false

abbrev all_below : ℕ → (ℕ → Bool) → Bool
all_below zero p = true
all_below (suc n) p = both (p n) (all_below n p)

all-at : (n : ℕ) (p : ℕ → Bool) → T (all_below n p) → (k : ℕ) → k < n → T (p k)
all-at zero p t k h = absurd (not-suc-le-zero h)
all-at (suc n) p t k h = elim (eq-or-lt_of_le (le_of_suc-le-suc h)) [
  | inl e ↦ subst (λ (z : ℕ). T (p z)) (sym e) (left (p n) (all_below n p) t)
  | inr l ↦ all-at n p (right (p n) (all_below n p) t) k l
]
  where
    left : (a b : Bool) → T (both a b) → T a
    left true b t = tt
    left false b t = t

    right : (a b : Bool) → T (both a b) → T b
    right true b t = t
    right false b t = absurd t

abbrev comes_back : ℕ → Bool
comes_back b = eqb (int_to_byte4 (byte4_to_int b)) b

all-bytes : T (all_below 256 comes_back)
unfolding int_to_byte4 byte4_to_int long_to_int4 int4_to_long num_free_values max_int4 size
all-bytes = tt

pub int_to_byte4-back : (b : ℕ) → b < 256 → int_to_byte4 (byte4_to_int b) ≡ b
int_to_byte4-back b h = eqb→eq (int_to_byte4 (byte4_to_int b)) b (all-at 256 comes_back all-bytes b h)

-- ---- where the code is exact: a length that some byte stands for, and every length below 40
pub byte4_to_int-back : (b : ℕ) → b < 256 → byte4_to_int (int_to_byte4 (byte4_to_int b)) ≡ byte4_to_int b
byte4_to_int-back b h = ap byte4_to_int (int_to_byte4-back b h)

abbrev is_exact : ℕ → Bool
is_exact n = eqb (byte4_to_int (int_to_byte4 n)) n

first-forty : T (all_below 40 is_exact)
unfolding int_to_byte4 byte4_to_int long_to_int4 int4_to_long num_free_values max_int4 size
first-forty = tt

pub byte4_to_int-exact : (n : ℕ) → n < 40 → byte4_to_int (int_to_byte4 n) ≡ n
byte4_to_int-exact n h = eqb→eq (byte4_to_int (int_to_byte4 n)) n (all-at 40 is_exact first-forty n h)
