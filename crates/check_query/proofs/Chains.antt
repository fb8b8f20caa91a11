-- What a chain over a range gives, as the definitions of numbers below a bound say it. Assumes nothing.
use Rattle.std.proofs.Common.{◌≡◌, ℕ, zero, suc, ◌+◌, ◌-◌, ◌*◌, ◌≤◌, ◌<◌, Bool, true, false, ◌||◌, ◌&&◌, map, length, leb, max, unwrap_or, List, get_or, drop, refl, ◌∙◌, ap, arith, add-zero, zero-add, drop-drop, get_or-take, get_or-drop}
use Rattle.std.specs.List.{range_with_len, list_any, filter, fold, reduce}
use Rattle.std.specs.Simd.{first_chunks}
use borrow.Author.Tests.{leb-true, leb-false}
use Rattle.meaning.specs.Below.{any_below, count_below, largest_below}
use Rattle.meaning.proofs.Below.{any-like}
use Rattle.index.proofs.Chains.{count-range}
use Rattle.query.proofs.Chains.{range-any}

pub below-any : (p : ℕ → Bool) (n m : ℕ) (r : Bool) → r ≡ list_any p (range_with_len 0 n) → n ≡ m → r ≡ any_below m p
below-any p n m r e f =
    e ∙ range-any p 0 n ∙ any-like n (λ j. p (0 + j)) p (λ j h. ap p (zero-add j)) ∙ ap (λ z. any_below z p) f

-- those from v on
pub any-from : (n v : ℕ) (p : ℕ → Bool) → any_below (n - v) (λ j. p (v + j)) ≡ any_below n (λ j. leb v j && p j)
unfolding any_below
any-from zero v p = let none : 0 - v ≡ 0 = omega arith in rw none
any-from (suc n) v p = go (leb v n) refl (any-from n v p)
  where
    go : (b : Bool) → leb v n ≡ b → any_below (n - v) (λ j. p (v + j)) ≡ any_below n (λ j. leb v j && p j) → any_below (suc n - v) (λ j. p (v + j)) ≡ (any_below n (λ j. leb v j && p j) || (leb v n && p n))
    go true e same =
        let h : v ≤ n = leb-true v n e in
        let more : suc n - v ≡ suc (n - v) = omega arith in
        let last : v + (n - v) ≡ n = omega arith in
        rw (more, e, ← same, last)
    go false e same =
        let h : n < v = leb-false v n e in
        let none : suc n - v ≡ 0 = omega arith in
        let before : n - v ≡ 0 = omega arith in
        rw (none, e, ← same, before)

-- ---- how many pass a test
pub below-count : (p : ℕ → Bool) (n m : ℕ) → n ≡ m → length (filter p (range_with_len 0 n)) ≡ count_below m p
below-count p n m e = count-range p n ∙ ap (λ z. count_below z p) e

-- ---- the largest
largest-first : (n : ℕ) (f : ℕ → ℕ) → largest_below (suc n) f ≡ max (f 0) (largest_below n (λ j. f (suc j)))
unfolding largest_below
largest-first zero f = omega arith
largest-first (suc n) f = let e = largest-first n f in omega (arith, e)

pub largest-like : (n : ℕ) (f g : ℕ → ℕ) → ((j : ℕ) → j < n → f j ≡ g j) → largest_below n f ≡ largest_below n g
unfolding largest_below
largest-like zero f g h = refl
largest-like (suc n) f g h = rw (largest-like n f g (λ j l. h j (omega arith)), h n (omega arith))

fold-largest : (f : ℕ → ℕ) (a n x : ℕ) → fold max x (map f (range_with_len a n)) ≡ max x (largest_below n (λ j. f (a + j)))
unfolding largest_below
fold-largest f a zero x = omega arith
fold-largest f a (suc n) x =
    let here : f (a + 0) ≡ f a = ap f (add-zero a) in
    let later = largest-like n (λ j. f (a + 1 + j)) (λ j. f (a + suc j)) (λ j l. let e : a + 1 + j ≡ a + suc j = omega arith in ap f e) in
    omega (arith, fold-largest f (a + 1) n (max x (f a)), largest-first n (λ j. f (a + j)), here, later)

range-largest : (f : ℕ → ℕ) (a n : ℕ) → unwrap_or (reduce max (map f (range_with_len a n))) 0 ≡ largest_below n (λ j. f (a + j))
unfolding largest_below
range-largest f a zero = refl
range-largest f a (suc n) =
    let here : f (a + 0) ≡ f a = ap f (add-zero a) in
    let later = largest-like n (λ j. f (a + 1 + j)) (λ j. f (a + suc j)) (λ j l. let e : a + 1 + j ≡ a + suc j = omega arith in ap f e) in
    omega (arith, fold-largest f (a + 1) n (f a), largest-first n (λ j. f (a + j)), here, later)

pub below-largest : (f : ℕ → ℕ) (n m : ℕ) → n ≡ m → unwrap_or (reduce max (map f (range_with_len 0 n))) 0 ≡ largest_below m f
below-largest f n m e =
    range-largest f 0 n ∙ largest-like n (λ j. f (0 + j)) f (λ j l. ap f (zero-add j)) ∙ ap (λ z. largest_below z f) e

-- the second words of records of three, from record a on
pub second_words : (n a : ℕ) (xs : List ℕ) → map (λ r. get_or r 1 0) (first_chunks 3 n (drop (3 * a) xs)) ≡ map (λ i. get_or xs (3 * i + 1) 0) (range_with_len a n)
second_words zero a xs = refl
second_words (suc n) a xs =
    let here = get_or-take 3 (drop (3 * a) xs) 1 0 (omega arith) ∙ get_or-drop (3 * a) xs 1 0 in
    let next : 3 * a + 3 ≡ 3 * (a + 1) = omega arith in
    rw (here, drop-drop 3 (3 * a) xs, next, second_words n (a + 1) xs) refl
