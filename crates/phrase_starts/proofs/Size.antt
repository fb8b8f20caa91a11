-- A list with each entry's smallest multiplicity has as many entries as the lists' common part, whatever order the
-- lists are met in. Assumes nothing.
use mathlib.Core.Path.{◌≡◌, refl, sym, ap, subst, ◌∙◌}
use mathlib.Core.Bool.{Bool, true, false, cond, not}
use mathlib.Core.List.{List, [], ◌∷◌, ◌++◌}
use Prim.Native.Nat.{ℕ, ◌+◌, ◌≤◌, ◌<◌, min}
use native.Mathlib.Omega.{arith}
use lib.Dec.{T, ltb, ltb→lt, nltb→le}
use lib.IntN.{ℤ}
use lib.ListN.{length}
use Rattle.meaning.specs.Phrase.{eqℤ, multiplicity, smallest, distinct, sum_smallest, common_size}
use Rattle.meaning.proofs.Phrases.{eqℤ→eq, eqℤ-refl, smallest-head}

-- ---- the different entries of a list, each once
eqℤ-sym : (s x : ℤ) → eqℤ s x ≡ eqℤ x s
eqℤ-sym s x = go (eqℤ s x) (eqℤ x s) (eqℤ→eq s x) (eqℤ→eq x s) (λ q. subst (λ (z : ℤ). T (eqℤ z s)) q (eqℤ-refl s)) (λ q. subst (λ (z : ℤ). T (eqℤ z x)) q (eqℤ-refl x))
  where
    go : (a b : Bool) → (T a → s ≡ x) → (T b → x ≡ s) → (s ≡ x → T b) → (x ≡ s → T a) → a ≡ b
    go true true p q f g = refl
    go true false p q f g = absurd (f (p tt))
    go false true p q f g = absurd (g (q tt))
    go false false p q f g = refl

-- the first entry is kept where it does not come again (b: it does; d: it is the one that is counted)
kept : (b d : Bool) (again rest kept-rest : ℕ) → (T b → 0 < again) → (T (not b) → again ≤ 0) → (T d → rest ≡ again) → kept-rest ≡ min 1 rest → cond b 0 (cond d 1 0) + kept-rest ≡ min 1 (cond d 1 0 + rest)
kept true true again rest r p n e h = let a = p tt in let k = e tt in omega (arith, a, k, h)
kept true false again rest r p n e h = omega (arith, h)
kept false true again rest r p n e h = let a = n tt in let k = e tt in omega (arith, a, k, h)
kept false false again rest r p n e h = omega (arith, h)

maybe-first : (b : Bool) (s x : ℤ) (ys : List ℤ) → multiplicity s (cond b [] (x ∷ []) ++ ys) ≡ cond b 0 (cond (eqℤ s x) 1 0) + multiplicity s ys
unfolding multiplicity
maybe-first true s x ys = omega arith
maybe-first false s x ys = refl

distinct-once : (s : ℤ) (xs : List ℤ) → multiplicity s (distinct xs) ≡ min 1 (multiplicity s xs)
unfolding multiplicity distinct
distinct-once s [] = refl
distinct-once s (x ∷ xs) =
    maybe-first (ltb 0 (multiplicity x xs)) s x (distinct xs)
    ∙ kept (ltb 0 (multiplicity x xs)) (eqℤ s x) (multiplicity x xs) (multiplicity s xs) (multiplicity s (distinct xs)) (ltb→lt 0 (multiplicity x xs)) (nltb→le 0 (multiplicity x xs)) (λ t. ap (λ (z : ℤ). multiplicity z xs) (eqℤ→eq s x t)) (distinct-once s xs)

-- ---- the sum of multiplicities
sum_same : (ss : List ℤ) (xss yss : List (List ℤ)) → ((s : ℤ) → smallest s xss ≡ smallest s yss) → sum_smallest ss xss ≡ sum_smallest ss yss
unfolding sum_smallest
sum_same [] xss yss h = refl
sum_same (s ∷ ss) xss yss h = let a = h s in let b = sum_same ss xss yss h in omega (arith, a, b)

sum-none : (ss : List ℤ) → sum_smallest ss ([] ∷ []) ≡ 0
unfolding sum_smallest smallest multiplicity
sum-none [] = refl
sum-none (s ∷ ss) = let e = sum-none ss in omega (arith, e)

-- one more entry counts as often as it is among those summed over
sum_more : (ss : List ℤ) (z : ℤ) (zs : List ℤ) → sum_smallest ss ((z ∷ zs) ∷ []) ≡ multiplicity z ss + sum_smallest ss (zs ∷ [])
unfolding sum_smallest smallest multiplicity
sum_more [] z zs = refl
sum_more (s ∷ ss) z zs =
    let e = sum_more ss z zs in
    let q = ap {B = ℕ} (λ (b : Bool). cond b 1 0) (eqℤ-sym s z) in
    omega (arith, e, q)

-- over entries that have each entry of zs once, it is the length of zs
sum-length : (ss zs : List ℤ) → ((s : ℤ) → 0 < multiplicity s zs → multiplicity s ss ≡ 1) → sum_smallest ss (zs ∷ []) ≡ length zs
unfolding multiplicity
sum-length ss [] h = sum-none ss
sum-length ss (z ∷ zs) h =
    let one = h z (first (eqℤ z z) (eqℤ-refl z)) in
    let e = sum-length ss zs (λ s k. h s (more (eqℤ s z) (multiplicity s zs) k)) in
    let m = sum_more ss z zs in
    omega (arith, one, e, m)
  where
    first : (b : Bool) → T b → 0 < cond b 1 0 + multiplicity z zs
    first true t = omega arith
    first false t = absurd t

    more : (b : Bool) (n : ℕ) → 0 < n → 0 < cond b 1 0 + n
    more b n k = omega (arith, k)

-- ---- the law
pub common-length : (xss : List (List ℤ)) (zs : List ℤ) → 0 < length xss → ((s : ℤ) → multiplicity s zs ≡ smallest s xss) → length zs ≡ common_size xss
unfolding common_size smallest
common-length [] zs h e = absurd (omega (arith, h))
common-length (xs ∷ xss) zs h e =
    sym (sum_same (distinct xs) (xs ∷ xss) (zs ∷ []) (λ s. sym (e s)) ∙ sum-length (distinct xs) zs once)
  where
    once : (s : ℤ) → 0 < multiplicity s zs → multiplicity s (distinct xs) ≡ 1
    once s k =
        let d = distinct-once s xs in
        let m = smallest-head s xs xss (subst (λ (n : ℕ). 0 < n) (e s) k) in
        omega (arith, d, m)

-- the common part has no more entries than the first list
sum-least : (ss xs : List ℤ) (xss : List (List ℤ)) → sum_smallest ss (xs ∷ xss) ≤ sum_smallest ss (xs ∷ [])
unfolding sum_smallest smallest
sum-least [] xs xss = omega arith
sum-least (s ∷ ss) xs [] = omega arith
sum-least (s ∷ ss) xs (ys ∷ yss) = let e = sum-least ss xs (ys ∷ yss) in omega (arith, e)

pub common-size-le : (xs : List ℤ) (xss : List (List ℤ)) → common_size (xs ∷ xss) ≤ length xs
unfolding common_size
common-size-le xs xss =
    let a = sum-least (distinct xs) xs xss in
    let b = sum-length (distinct xs) xs (λ s k. (let d = distinct-once s xs in omega (arith, d, k))) in
    omega (arith, a, b)
