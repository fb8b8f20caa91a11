-- What a chain over a range gives, as the definitions of numbers below a bound say it. Assumes nothing.
use Rattle.std.proofs.Common.{◌≡◌, ℕ, zero, suc, ◌+◌, Bool, true, false, not, ◌||◌, ◌&&◌, List, [], ◌∷◌, refl, ◌∙◌, ap, arith, add-zero}
use Rattle.std.specs.List.{range_with_len, list_any, list_all}
use Rattle.meaning.specs.Below.{any_below}

-- numbers below one more, from the first of them on
any-first : (n : ℕ) (f : ℕ → Bool) → any_below (suc n) f ≡ (f 0 || any_below n (λ j. f (suc j)))
unfolding any_below
any-first zero f = or-comm (f 0)
  where
    or-comm : (b : Bool) → (false || b) ≡ (b || false)
    or-comm true = refl
    or-comm false = refl
any-first (suc n) f = ap (λ b. b || f (suc n)) (any-first n f) ∙ or-assoc (f 0) (any_below n (λ j. f (suc j))) (f (suc n))
  where
    or-assoc : (a b c : Bool) → ((a || b) || c) ≡ (a || (b || c))
    or-assoc true b c = refl
    or-assoc false b c = refl

any-same : (n : ℕ) (f g : ℕ → Bool) → ((j : ℕ) → f j ≡ g j) → any_below n f ≡ any_below n g
unfolding any_below
any-same zero f g h = refl
any-same (suc n) f g h = rw (any-same n f g h, h n)

pub range-any : (p : ℕ → Bool) (a n : ℕ) → list_any p (range_with_len a n) ≡ any_below n (λ j. p (a + j))
unfolding any_below
range-any p a zero = refl
range-any p a (suc n) =
    rw (range-any p (a + 1) n, any-same n (λ j. p (a + 1 + j)) (λ j. p (a + suc j)) (λ j. let e : a + 1 + j ≡ a + suc j = omega arith in ap p e), any-first n (λ j. p (a + j)), add-zero a)

pub range-all : (p : ℕ → Bool) (a n : ℕ) → list_all p (range_with_len a n) ≡ not (any_below n (λ j. not (p (a + j))))
range-all p a n = all-any p (range_with_len a n) ∙ ap not (range-any (λ j. not (p j)) a n)
  where
    all-any : (p : ℕ → Bool) (xs : List ℕ) → list_all p xs ≡ not (list_any (λ j. not (p j)) xs)
    all-any p [] = refl
    all-any p (x ∷ xs) = rw (all-any p xs) (go (p x))
      where
        go : (b : Bool) → (b && not (list_any (λ j. not (p j)) xs)) ≡ not (not b || list_any (λ j. not (p j)) xs)
        go true = refl
        go false = refl
