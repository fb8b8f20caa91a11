-- A phrase's frequency in a document is above 0 exactly where it stands at some start. Assumes nothing.
use mathlib.Core.Path.{◌≡◌, sym, ap, subst}
use mathlib.Core.Bool.{Bool, true, false, cond}
use mathlib.Core.List.{List, [], ◌∷◌, ◌++◌}
use mathlib.Core.Logic.{◌⊎◌, inl, inr}
use Prim.Native.Nat.{ℕ, zero, suc, ◌+◌, ◌<◌}
use native.Mathlib.Nat.{not-suc-le-zero}
use native.Mathlib.Omega.{arith}
use lib.Dec.{T, ltb, ltb→lt, lt→ltb, eqb→eq, eqb_refl}
use lib.IntN.{ℤ, pos, negsuc}
use Rattle.meaning.specs.Lent.{Index}
use Rattle.meaning.specs.Phrase.{PhraseTerm, eqℤ, term_starts, multiplicity, smallest, distinct, sum_smallest, common_size, phrase_frequency, stands_at}

pub eqℤ→eq : (a b : ℤ) → T (eqℤ a b) → a ≡ b
eqℤ→eq (pos a) (pos b) h = ap pos (eqb→eq a b h)
eqℤ→eq (pos a) (negsuc b) h = absurd h
eqℤ→eq (negsuc a) (pos b) h = absurd h
eqℤ→eq (negsuc a) (negsuc b) h = ap negsuc (eqb→eq a b h)

pub eqℤ-refl : (a : ℤ) → T (eqℤ a a)
eqℤ-refl (pos a) = eqb_refl a
eqℤ-refl (negsuc a) = eqb_refl a

-- ---- from the frequency to a start
-- one of two numbers whose sum is above 0 is
sum-above : (a b : ℕ) → 0 < a + b → (0 < a) ⊎ (0 < b)
sum-above zero b h = inr (omega (arith, h))
sum-above (suc a) b h = inl (omega arith)

common-entry : (ss : List ℤ) (xss : List (List ℤ)) → 0 < sum_smallest ss xss → (s : ℤ) × (0 < smallest s xss)
unfolding sum_smallest
common-entry [] xss h = absurd (not-suc-le-zero h)
common-entry (s ∷ ss) xss h = elim (sum-above (smallest s xss) (sum_smallest ss xss) h) [
  | inl a ↦ (s, a)
  | inr b ↦ common-entry ss xss b
]

-- an entry that every list has, where the common part is not empty
pub common-start : (xss : List (List ℤ)) → 0 < common_size xss → (s : ℤ) × (0 < smallest s xss)
unfolding common_size
common-start [] h = absurd (not-suc-le-zero h)
common-start (xs ∷ xss) h = common-entry (distinct xs) (xs ∷ xss) h

-- ---- from a start to the frequency
pub multiplicity-append : (s : ℤ) (xs ys : List ℤ) → multiplicity s (xs ++ ys) ≡ multiplicity s xs + multiplicity s ys
unfolding multiplicity
multiplicity-append s [] ys = omega arith
multiplicity-append s (x ∷ xs) ys = let e = multiplicity-append s xs ys in omega (arith, e)

-- an entry of a list is among its different entries: of the first one, and of the rest
distinct_head : (s x : ℤ) (xs ys : List ℤ) (b : Bool) → (T b → 0 < multiplicity x xs) → s ≡ x → (0 < multiplicity s xs → 0 < multiplicity s ys) → 0 < multiplicity s (cond b [] (x ∷ []) ++ ys)
unfolding multiplicity
distinct_head s x xs ys false e q more = subst (λ (z : ℤ). 0 < cond (eqℤ z x) 1 0 + multiplicity z ys) (sym q) (above (eqℤ x x) (multiplicity x ys) (eqℤ-refl x))
  where
    above : (b : Bool) (c : ℕ) → T b → 0 < cond b 1 0 + c
    above true c h = omega arith
    above false c h = absurd h
distinct_head s x xs ys true e q more = more (subst (λ (z : ℤ). 0 < multiplicity z xs) (sym q) (e tt))

distinct_tail : (s : ℤ) (xs ys : List ℤ) → 0 < multiplicity s ys → 0 < multiplicity s (xs ++ ys)
distinct_tail s xs ys h = let e = multiplicity-append s xs ys in omega (arith, e, h)

distinct-has : (s : ℤ) (xs : List ℤ) → 0 < multiplicity s xs → 0 < multiplicity s (distinct xs)
unfolding multiplicity distinct
distinct-has s [] h = absurd (not-suc-le-zero h)
distinct-has s (x ∷ xs) h = go (eqℤ s x) (eqℤ→eq s x) h (distinct-has s xs)
  where
    go : (b : Bool) → (T b → s ≡ x) → 0 < cond b 1 0 + multiplicity s xs → (0 < multiplicity s xs → 0 < multiplicity s (distinct xs)) → 0 < multiplicity s (distinct (x ∷ xs))
    go true q k more = distinct_head s x xs (distinct xs) (ltb 0 (multiplicity x xs)) (ltb→lt 0 (multiplicity x xs)) (q tt) more
    go false q k more = distinct_tail s (cond (ltb 0 (multiplicity x xs)) [] (x ∷ [])) (distinct xs) (more (omega (arith, k)))

-- a sum over entries has each entry's part
sum-has : (s : ℤ) (ss : List ℤ) (xss : List (List ℤ)) → 0 < multiplicity s ss → 0 < smallest s xss → 0 < sum_smallest ss xss
unfolding multiplicity sum_smallest
sum-has s [] xss h k = absurd (not-suc-le-zero h)
sum-has s (x ∷ ss) xss h k = go (eqℤ s x) (eqℤ→eq s x) h (λ g. sum-has s ss xss g k)
  where
    go : (b : Bool) → (T b → s ≡ x) → 0 < cond b 1 0 + multiplicity s ss → (0 < multiplicity s ss → 0 < sum_smallest ss xss) → 0 < smallest x xss + sum_smallest ss xss
    go true q g more = let e = subst (λ (z : ℤ). 0 < smallest z xss) (q tt) k in omega (arith, e)
    go false q g more = let e = more (omega (arith, g)) in omega (arith, e)

pub smallest-head : (s : ℤ) (xs : List ℤ) (xss : List (List ℤ)) → 0 < smallest s (xs ∷ xss) → 0 < multiplicity s xs
unfolding smallest
smallest-head s xs [] h = h
smallest-head s xs (ys ∷ yss) h = omega (arith, h)

pub start-common : (s : ℤ) (xss : List (List ℤ)) → 0 < smallest s xss → 0 < common_size xss
unfolding common_size smallest
start-common s [] h = absurd (not-suc-le-zero h)
start-common s (xs ∷ xss) h = sum-has s (distinct xs) (xs ∷ xss) (distinct-has s xs (smallest-head s xs xss h)) h

-- ---- of a phrase
pub stands-somewhere : (ix : Index) (ts : List PhraseTerm) (d : ℕ) → 0 < phrase_frequency ix ts d → (s : ℤ) × T (stands_at ix ts d s)
unfolding phrase_frequency stands_at
stands-somewhere ix ts d h =
    let e = common-start (term_starts ix ts d) h in
    (e.0, lt→ltb 0 (smallest e.0 (term_starts ix ts d)) e.1)

pub stands-often : (ix : Index) (ts : List PhraseTerm) (d : ℕ) (s : ℤ) → T (stands_at ix ts d s) → 0 < phrase_frequency ix ts d
unfolding phrase_frequency stands_at
stands-often ix ts d s h = start-common s (term_starts ix ts d) (ltb→lt 0 (smallest s (term_starts ix ts d)) h)
