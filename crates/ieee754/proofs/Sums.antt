-- A sum in binary64 of values of at most M each is at most their number times M, and so it is once narrowed.
-- Assumes nothing.
use mathlib.Core.Path.{◌≡◌, refl, sym, subst}
use mathlib.Core.List.{List, [], ◌∷◌, ◌++◌}
use Prim.Native.Nat.{ℕ, zero, suc, ◌+◌, ◌*◌, ◌^◌, ◌≤◌, ◌<◌, zero-le, suc-le-suc}
use native.Mathlib.Nat.{le_trans, le_of_eq, le_of_suc-le-suc, not-suc-le-zero, zero-add, suc-mul}
use native.Mathlib.Omega.{arith}
use lib.ListN.{length, get_or}
use lib.Ieee.{Float, nan, binary32, binary64, add}
use Rattle.meaning.specs.Ieee754.{zero_float, narrow, sum_from, narrowed_sum}
use Rattle.ieee754.specs.Nonneg.{AtMost}
use Rattle.ieee754.proofs.Bounds.{Held, atmost-more, zero-atmost, sum-two-atmost, narrow-atmost}

-- ---- a list of which each element is at most M
pub data Each (M : ℕ) : List Float → Type 0 where
  each_none : Each M []
  each-one : {x : Float} {xs : List Float} → AtMost M x → Each M xs → Each M (x ∷ xs)

-- by the indices
pub each_of : (M : ℕ) (xs : List Float) → ((k : ℕ) → k < length xs → AtMost M (get_or xs k nan)) → Each M xs
each_of M [] h = each_none
each_of M (x ∷ xs) h = each-one (h 0 (suc-le-suc zero-le)) (each_of M xs (λ k l. h (suc k) (suc-le-suc l)))

pub each_at : {M : ℕ} {xs : List Float} → Each M xs → (k : ℕ) → k < length xs → AtMost M (get_or xs k nan)
each_at each_none k h = absurd (not-suc-le-zero h)
each_at (each-one m r) zero h = m
each_at (each-one m r) (suc k) h = each_at r k (le_of_suc-le-suc h)

pub each_append : {M : ℕ} {xs ys : List Float} → Each M xs → Each M ys → Each M (xs ++ ys)
each_append each_none s = s
each_append (each-one m r) s = each-one m (each_append r s)

pub each_more : {p q : ℕ} {xs : List Float} → p ≤ q → Each p xs → Each q xs
each_more h each_none = each_none
each_more h (each-one m r) = each-one (atmost-more h m) (each_more h r)

-- ---- the sum, from a first value on
sum-next : (x y : Float) (ys : List Float) → sum_from x (y ∷ ys) ≡ sum_from (add binary64 x y) ys
unfolding sum_from
sum-next x y ys = refl

sum-none : (x : Float) → sum_from x [] ≡ x
unfolding sum_from
sum-none x = refl

narrowed-is : (xs : List Float) → narrowed_sum xs ≡ narrow (sum_from zero_float xs)
unfolding narrowed_sum
narrowed-is xs = refl

pub sum-atmost : (M q : ℕ) (x : Float) (xs : List Float) → Each M xs → AtMost q x → q + length xs * M ≤ 2 ^ 53 → AtMost (q + length xs * M) (sum_from x xs)
sum-atmost M q x [] each_none i h =
    subst (λ (z : Float). AtMost (q + 0 * M) z) (sym (sum-none x)) (atmost-more (le-add q (0 * M)) i)
  where
    le-add : (a b : ℕ) → a ≤ a + b
    le-add a b = omega arith
sum-atmost M q x (y ∷ ys) (each-one m r) i h =
    let n = length ys in
    let e : q + suc n * M ≡ q + M + n * M = step (suc n * M) (n * M) (suc-mul n M) in
    let k : q + M + n * M ≤ 2 ^ 53 = subst (λ (z : ℕ). z ≤ 2 ^ 53) e h in
    subst (λ (z : Float). AtMost (q + suc n * M) z) (sym (sum-next x y ys))
    (subst (λ (z : ℕ). AtMost z (sum_from (add binary64 x y) ys)) (sym e)
    (sum-atmost M (q + M) (add binary64 x y) ys r (sum-two-atmost q M x y i m (less (q + M) (n * M) k)) k))
  where
    step : (a b : ℕ) → a ≡ b + M → q + a ≡ q + M + b
    step a b h = omega arith

    less : (a b : ℕ) → a + b ≤ 2 ^ 53 → a ≤ 2 ^ 53
    less a b h = omega arith

pub narrowed-sum-atmost : (M p : ℕ) (xs : List Float) → Each M xs → length xs * M ≤ p → p ≤ 2 ^ 53 → Held binary32 p → AtMost p (narrowed_sum xs)
narrowed-sum-atmost M p xs m h k H =
    let l : 0 + length xs * M ≤ p = le_trans (le_of_eq (zero-add (length xs * M))) h in
    subst (λ (z : Float). AtMost p z) (sym (narrowed-is xs))
    (narrow-atmost p (sum_from zero_float xs) (atmost-more l (sum-atmost M 0 zero_float xs m (zero-atmost 0) (le_trans l k))) H)
