-- Laws of decimal and hexadecimal digits: the last digit, and how many there are. Assumes nothing.
use mathlib.Core.Path.{◌≡◌, refl, sym, ap, ◌∙◌}
use mathlib.Core.Logic.{⊎_elim}
use mathlib.Core.Bool.{Bool, cond}
use mathlib.Core.List.{List, [], ◌∷◌, ◌++◌}
use Prim.Native.Nat.{ℕ, zero, suc, ◌+◌, ◌-◌, ◌/◌, ◌%◌, ◌^◌, ◌≤◌, ◌<◌}
use native.Mathlib.Nat.{mod-eq_of_lt, pow-suc}
use native.Mathlib.Omega.{arith}
use lib.Dec.{ltb}
use lib.ListN.{length, length-append}
use borrow.Author.Tests.{lt-ltb, le-ltb}
use Rattle.std.specs.Fmt.{decimal as std_decimal}
use Rattle.std.proofs.lemmas.Fmt.{decimal_by_steps}
use Rattle.meaning.proofs.Tests.{cmp}
use Rattle.hits_text.specs.Text.{digit_of, digits_to, decimal, hex_digits}

-- ---- decimal digits
-- more room than the number of digits changes nothing
enough : (f g n : ℕ) → n < f → n < g → digits_to f n ≡ digits_to g n
unfolding digits_to
enough zero g n h k = absurd (omega arith)
enough (suc f) zero n h k = absurd (omega arith)
enough (suc f) (suc g) n h k =
    ⊎_elim
    (λ s. let e = lt-ltb n 10 s in rw e)
    (λ s. ap (λ (xs : List ℕ). cond (ltb n 10) [] xs ++ (digit_of (n % 10) ∷ [])) (enough f g (n / 10) (omega arith) (omega arith)))
    (cmp n 10)

pub decimal-one : (n : ℕ) → n < 10 → decimal n ≡ digit_of n ∷ []
unfolding decimal digits_to
decimal-one n h = let e = lt-ltb n 10 h in let m : n % 10 ≡ n = mod-eq_of_lt h in rw (e, m, e)

pub decimal-more : (n : ℕ) → 10 ≤ n → decimal n ≡ decimal (n / 10) ++ (digit_of (n % 10) ∷ [])
unfolding decimal digits_to
decimal-more n h =
    let e = le-ltb n 10 h in
    ap (λ (b : Bool). cond b [] (digits_to n (n / 10)) ++ (digit_of (n % 10) ∷ [])) e
    ∙ ap (λ (xs : List ℕ). xs ++ (digit_of (n % 10) ∷ [])) (enough n (suc (n / 10)) (n / 10) (omega arith) (omega arith))

pub length_more : (n : ℕ) → 10 ≤ n → length (decimal n) ≡ length (decimal (n / 10)) + 1
length_more n h = ap length (decimal-more n h) ∙ length-append (decimal (n / 10)) (digit_of (n % 10) ∷ [])

-- a number below 10 to the k has at most k digits
pub decimal-short : (k n : ℕ) → n < 10 ^ suc k → length (decimal n) ≤ suc k
decimal-short zero n h = omega (arith, ap length (decimal-one n (omega (arith, h))))
decimal-short (suc k) n h =
    ⊎_elim
    (λ s. omega (arith, ap length (decimal-one n s)))
    (λ s. omega (arith, length_more n s, decimal-short k (n / 10) (omega (arith, h, pow-suc 10 (suc k)))))
    (cmp n 10)

-- ---- what std writes for a number
ten-digit : (d : ℕ) → d < 10 → digit_of d ≡ 48 + d
ten-digit d h = ap (λ (b : Bool). cond b (48 + d) (87 + d)) (lt-ltb d 10 h)

pub decimal-std : (n : ℕ) → n < 2 ^ 64 → std_decimal n ≡ decimal n
decimal-std n h = decimal_by_steps (λ (n : ℕ) (ds : List ℕ). ds ≡ decimal n) one more n h
  where
    one : (n : ℕ) → n < 10 → (48 + n) ∷ [] ≡ decimal n
    one n l = ap (λ (d : ℕ). d ∷ []) (sym (ten-digit n l)) ∙ sym (decimal-one n l)

    more : (n : ℕ) (ds : List ℕ) → 10 ≤ n → ds ≡ decimal (n / 10) → ds ++ ((48 + n % 10) ∷ []) ≡ decimal n
    more n ds g e =
        ap (λ (l : List ℕ). l ++ ((48 + n % 10) ∷ [])) e
        ∙ ap (λ (d : ℕ). decimal (n / 10) ++ (d ∷ [])) (sym (ten-digit (n % 10) (omega arith))) ∙ sym (decimal-more n g)

-- ---- hexadecimal digits
pub length-hex : (k n : ℕ) → length (hex_digits k n) ≡ k
unfolding hex_digits
length-hex zero n = refl
length-hex (suc k) n = omega (arith, length-append (hex_digits k (n / 16)) (digit_of (n % 16) ∷ []), length-hex k (n / 16))

pub hex-none : (k n : ℕ) → k ≡ 0 → hex_digits k n ≡ []
unfolding hex_digits
hex-none k n e = rw e

pub hex-more : (k n : ℕ) → (k ≡ 0 → ⊥) → hex_digits k n ≡ hex_digits (k - 1) (n / 16) ++ (digit_of (n % 16) ∷ [])
unfolding hex_digits
hex-more zero n h = absurd (h refl)
hex-more (suc k) n h = let e : k ≡ suc k - 1 = omega arith in ap (λ (j : ℕ). hex_digits j (n / 16) ++ (digit_of (n % 16) ∷ [])) e
