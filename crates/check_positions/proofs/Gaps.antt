-- Differences that wrap, their high bit as a number, and how often a position falls. Assumes nothing.
use Rattle.std.proofs.Common.{◌≡◌, ℕ, ◌+◌, ◌-◌, ◌/◌, ◌%◌, ◌<◌, ◌≤◌, Bool, true, false, cond, ◌&&◌, ltb, leb, List, [], ◌∷◌, zero, suc, length, get_or, le_refl, sym, refl, ap, ◌∙◌, ⊎_elim, true≢false, arith, le-ltb, lt-ltb, le-leb}
use lib.Bits.{bit_or, or_comm}
use borrow.Author.Tests.{lt-leb}
use Rattle.std.specs.List.{fold}
use Rattle.meaning.specs.Below.{count_below}
use Rattle.meaning.proofs.Tests.{cmp}
use Rattle.meaning.proofs.Below.{count-more, count-zero, last-or-below}
use Rattle.check_positions.specs.Places.{gap, drop_at}
use Rattle.check_positions.proofs.High.{or-ge}

-- a difference that wraps
pub gap_is : (a b s : ℕ) → (s + b) % 4294967296 ≡ a → s < 4294967296 → b < 4294967296 → s ≡ gap a b
unfolding gap
gap_is a b s e l m = omega arith

-- and the wrapping difference back
pub wraps : (v p : ℕ) → v < 4294967296 → p < 4294967296 → ((v + (4294967296 - p)) % 4294967296 + p) % 4294967296 ≡ v
wraps v p l m = omega arith

pub wrap_fits : (n : ℕ) → n % 4294967296 < 4294967296
wrap_fits n = omega arith

-- its high bit as a number
pub high_bit : (s : ℕ) → s < 4294967296 → s / 2147483648 ≡ cond (leb 2147483648 s) 1 0
high_bit s l =
    ⊎_elim (λ (g : s < 2147483648). let e : s / 2147483648 ≡ 0 = omega arith in e ∙ rw (lt-leb _ _ g)) (λ (g : 2147483648 ≤ s). let e : s / 2147483648 ≡ 1 = omega arith in e ∙ rw (le-leb _ _ g)) (cmp s 2147483648)

-- it says which of two small words is the larger
pub gap-small : (a b : ℕ) → a < 2147483648 → b < 2147483648 → leb 2147483648 (gap a b) ≡ ltb a b
unfolding gap
gap-small a b l m =
    ⊎_elim (λ (g : a < b). let h : 2147483648 ≤ (a + 4294967296 - b) % 4294967296 = omega arith in le-leb _ _ h ∙ sym (lt-ltb _ _ g)) (λ (g : b ≤ a). let h : (a + 4294967296 - b) % 4294967296 < 2147483648 = omega arith in lt-leb _ _ h ∙ sym (le-ltb _ _ g)) (cmp a b)

pub or_right : (a b : ℕ) → b ≤ bit_or a b
or_right a b = omega (arith, or-ge b a, or_comm a b)

-- what a bound passes on to one more
pub bound-more : (f : ℕ → ℕ) (n a x : ℕ) → ((i : ℕ) → i < n → f i ≤ a) → x ≡ f n → (i : ℕ) → i < n + 1 → f i ≤ bit_or a x
bound-more f n a x h e i l =
    ⊎_elim (λ (g : i ≡ n). omega (arith, ap f g, e, or_right a x)) (λ (g : i < n). omega (arith, h i g, or-ge a x)) (last-or-below i n (omega arith))

pub only : (f : ℕ → ℕ) (i : ℕ) → i < 1 → f i ≤ f 0
only f i l = let e : i ≡ 0 = omega arith in omega (arith, ap f e)

-- the or of a list bounds each element
or-from : (xs : List ℕ) (a : ℕ) → a ≤ fold bit_or a xs
or-from [] a = le_refl a
or-from (x ∷ xs) a = omega (arith, or-from xs (bit_or a x), or-ge a x)

pub or-each : (xs : List ℕ) (a k : ℕ) → k < length xs → get_or xs k 0 ≤ fold bit_or a xs
or-each [] a k l = absurd (omega arith)
or-each (x ∷ xs) a zero l = omega (arith, or-from xs (bit_or a x), or_right a x)
or-each (x ∷ xs) a (suc k) l = or-each xs (bit_or a x) k (omega arith)

-- ---- positions
pub drop-first : (part : List ℕ) → ◌≡◌ {A = ℕ} 0 (count_below 1 (drop_at part))
unfolding count_below drop_at
drop-first part = refl

drop-is : (part : List ℕ) (k s : ℕ) → 0 < k → (s + get_or part (k - 1) 0) % 4294967296 ≡ get_or part k 0 → s < 4294967296 → get_or part (k - 1) 0 < 4294967296 → s / 2147483648 ≡ cond (drop_at part k) 1 0
unfolding drop_at
drop-is part k s p e l m = rw (lt-ltb _ _ p) (high_bit s l ∙ ap (λ (z : ℕ). cond (leb 2147483648 z) 1 0) (gap_is (get_or part k 0) (get_or part (k - 1) 0) s e l m))

-- one position more: q is the one before, and the first itself at the first
pub drop_more : (part : List ℕ) (k f q : ℕ) → q ≡ get_or part (k - 1) 0 → f ≡ count_below k (drop_at part) → get_or part k 0 < 4294967296 → q < 4294967296 → f + (get_or part k 0 + (4294967296 - q)) % 4294967296 / 2147483648 ≡ count_below (k + 1) (drop_at part)
drop_more part zero f q e g l m = omega (arith, e, g, count-zero (drop_at part), drop-first part)
drop_more part (suc k) f q e g l m =
    let p : get_or part (suc k - 1) 0 < 4294967296 = omega arith in
    let back : ((get_or part (suc k) 0 + (4294967296 - q)) % 4294967296 + get_or part (suc k - 1) 0) % 4294967296 ≡ get_or part (suc k) 0 = omega arith in
    let fits : (get_or part (suc k) 0 + (4294967296 - q)) % 4294967296 < 4294967296 = omega arith in
    rw (g, drop-is part (suc k) _ (omega arith) back fits p) (sym (count-more (suc k) (drop_at part)))

-- ---- both parts of a true `&&`
pub and_left : (a b : Bool) → (a && b) ≡ true → a ≡ true
and_left true b e = refl
and_left false b e = e

pub and_right : (a b : Bool) → (a && b) ≡ true → b ≡ true
and_right true b e = e
and_right false b e = absurd (true≢false (sym e))
