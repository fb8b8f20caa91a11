-- The fewest postings of a phrase's terms. Assumes nothing.
use mathlib.Core.Path.{◌≡◌, refl, sym, ◌∙◌, ap}
use native.Mathlib.Numerals.{add-one}
use mathlib.Core.List.{List, [], ◌∷◌, ◌++◌}
use Prim.Native.Nat.{ℕ, zero, suc, ◌+◌, ◌≤◌, min}
use native.Mathlib.Omega.{arith}
use Rattle.meaning.specs.Below.{list_to}
use Rattle.meaning.specs.Lent.{Index, leaf_number}
use Rattle.meaning.specs.Query.{record_value}
use Rattle.meaning.specs.Cost.{least}
use Rattle.tree_weight.specs.Measured.{term_numbers}

-- one more at the end
least-last : (x : ℕ) (xs : List ℕ) (y : ℕ) → least ((x ∷ xs) ++ (y ∷ [])) ≡ min (least (x ∷ xs)) y
unfolding least
least-last x [] y = refl
least-last x (z ∷ zs) y = let e = least-last z zs y in omega (arith, e)

some-list : (n : ℕ) (f : ℕ → ℕ) → (x : ℕ) × (xs : List ℕ) × (list_to (suc n) f ≡ x ∷ xs)
unfolding list_to
some-list zero f = (f 0, [], refl)
some-list (suc n) f = let h = some-list n f in (h.0, h.1 ++ (f (suc n) ∷ []), rw h.2)

pub least-one : (f : ℕ → ℕ) → f 0 ≡ least (list_to 1 f)
unfolding list_to least
least-one f = refl

pub least_more : (n : ℕ) (f : ℕ → ℕ) (m y : ℕ) → 1 ≤ n → m ≡ least (list_to n f) → y ≡ f n → min m y ≡ least (list_to (suc n) f)
unfolding list_to
least_more zero f m y h e g = absurd (omega (arith, h))
least_more (suc n) f m y h e g = go (some-list n f)
  where
    go : (x : ℕ) × (xs : List ℕ) × (list_to (suc n) f ≡ x ∷ xs) → min m y ≡ least (list_to (suc (suc n)) f)
    go s = rw (e, g, s.2) (sym (least-last s.0 s.1 (f (suc n))))

-- ---- as the code goes over the terms of the phrase at record r
module _ (ix : Index) (q : List ℕ) (r : ℕ) where
  pub first-number : (l n : ℕ) → l ≡ record_value q (r + 1) 0 → n ≡ leaf_number ix l → n ≡ least (term_numbers ix q r 1)
  first-number l n e f =
      f ∙ ap (leaf_number ix) (e ∙ ap (λ (z : ℕ). record_value q z 0) (sym (none_more (r + 1)))) ∙ least-one (λ j. leaf_number ix (record_value q (r + 1 + j) 0))
    where
      none_more : (n : ℕ) → n + 0 ≡ n
      none_more n = omega arith

  pub next-number : (j m l n x : ℕ) → 1 ≤ j → m ≡ least (term_numbers ix q r j) → l ≡ record_value q (r + 1 + j) 0 → n ≡ leaf_number ix l → x ≡ min m n → x ≡ least (term_numbers ix q r (j + 1))
  next-number j m l n x h a b d e =
      e ∙ least_more j (λ j. leaf_number ix (record_value q (r + 1 + j) 0)) m n h a (d ∙ ap (leaf_number ix) b) ∙ ap (λ (z : ℕ). least (term_numbers ix q r z)) (sym (add-one j))
