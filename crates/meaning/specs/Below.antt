-- The numbers below a bound that have a property. Assumes nothing: these are definitions.
use Rattle.std.specs.Prelude.{Bool, false, cond, ◌||◌, List, [], ◌∷◌, ◌++◌, ℕ, zero, suc, ◌+◌, max}
use Rattle.std.proofs.Math.Option.{Option, none, some}

-- some number below n has the property
unfoldable pub any_below : ℕ → (ℕ → Bool) → Bool
any_below zero p = false
any_below (suc n) p = any_below n p || p n

-- how many numbers below n have it
unfoldable pub count_below : ℕ → (ℕ → Bool) → ℕ
count_below zero p = 0
count_below (suc n) p = count_below n p + cond (p n) 1 0

-- those numbers, ascending
unfoldable pub list_below : ℕ → (ℕ → Bool) → List ℕ
list_below zero p = []
list_below (suc n) p = list_below n p ++ cond (p n) (n ∷ []) []

-- the largest of them
unfoldable pub last_below : ℕ → (ℕ → Bool) → Option ℕ
last_below zero p = none
last_below (suc n) p = cond (p n) (some n) (last_below n p)

-- the largest value of f at a number below n, and 0 where there is none
unfoldable pub largest_below : ℕ → (ℕ → ℕ) → ℕ
largest_below zero f = 0
largest_below (suc n) f = max (largest_below n f) (f n)

-- f 0 + f 1 and so on, n of them
unfoldable pub sum_below : ℕ → (ℕ → ℕ) → ℕ
sum_below zero f = 0
sum_below (suc n) f = sum_below n f + f n

-- f 0, f 1 and so on, n of them
unfoldable pub list_to {ℓ} : {A : Type ℓ} → ℕ → (ℕ → A) → List A
list_to zero f = []
list_to (suc n) f = list_to n f ++ (f n ∷ [])
