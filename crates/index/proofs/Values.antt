-- The columns' values, one column after the other, as one run of records. Assumes nothing.
use mathlib.Core.Path.{◌≡◌, refl, sym, ap, ◌∙◌}
use mathlib.Core.Bool.{Bool, true, ◌||◌}
use mathlib.Core.List.{List, [], ◌∷◌}
use Prim.Native.Nat.{ℕ, suc, ◌+◌, ◌*◌, ◌/◌, ◌≤◌, ◌<◌}
use native.Mathlib.Nat.{mul-le-mul}
use native.Mathlib.Omega.{arith}
use lib.Dec.{ltb}
use lib.ListN.{length, get_or}
use borrow.Author.Tests.{lt-ltb, le-ltb, eq-eqb, ne_eqb}
use Rattle.meaning.specs.Below.{any_below}
use Rattle.meaning.specs.Lent.{Index, column_count, column_type, value_present}
use Rattle.meaning.specs.IndexRefusals.{wrong6, wrong_column}
use Rattle.std.specs.List.{list_any}
use Rattle.meaning.proofs.Below.{any-zero, any-like, any-add, any-or, any-rows}

-- a product of two bounded numbers
pub product_le : (a b m n : ℕ) → a ≤ m → b ≤ n → a * b ≤ m * n
product_le a b m n h g = mul-le-mul h g

-- ---- some word of a list passes, or the one in some place
one-more : (i : ℕ) → 1 + i ≡ suc i
one-more i = omega arith

any-one : (p : ℕ → Bool) → any_below 1 p ≡ p 0
unfolding any_below
any-one p = refl

pub any-listed : (test : ℕ → Bool) (xs : List ℕ) → list_any test xs ≡ any_below (length xs) (λ i. test (get_or xs i 0))
any-listed test [] = sym (any-zero (λ i. test (get_or [] i 0)))
any-listed test (x ∷ xs) =
    let P : ℕ → Bool = λ i. test (get_or (x ∷ xs) i 0) in
    let later : any_below (length xs) (λ i. P (1 + i)) ≡ any_below (length xs) (λ i. test (get_or xs i 0)) = any-like (length xs) _ _ (λ i h. ap P (one-more i)) in
    ap (λ (b : Bool). test x || b) (any-listed test xs ∙ sym later)
    ∙ ap (λ (b : Bool). b || any_below (length xs) (λ i. P (1 + i))) (sym (any-one P))
    ∙ sym (any-add 1 (length xs) P)
    ∙ ap (λ (m : ℕ). any_below m P) (one-more (length xs))

-- ---- the columns
module _ (ix : Index) where
  pub columns-many : 8 < column_count ix → true ≡ wrong6 ix
  unfolding wrong6
  columns-many h = rw (lt-ltb _ _ h)

  pub columns-length : column_count ix ≤ 8 → (length ix.values ≡ 3 * (column_count ix * ix.max_doc) → ⊥) → true ≡ wrong6 ix
  unfolding wrong6
  columns-length h g = rw (le-ltb _ _ h, ne_eqb _ _ g)

  module _ (h : column_count ix ≤ 8) (g : length ix.values ≡ 3 * (column_count ix * ix.max_doc)) where
    values-count : length ix.values / 3 ≡ column_count ix * ix.max_doc
    values-count = omega arith

    columns-are : any_below (column_count ix) (wrong_column ix) ≡ wrong6 ix
    unfolding wrong6
    columns-are = rw (le-ltb _ _ h, eq-eqb _ _ g)

    pub columns-some : (any_below (length ix.columns) (λ c. ltb 1 (get_or ix.columns c 0)) || any_below (length ix.values / 3) (λ k. ltb 1 (get_or ix.values (3 * k) 0))) ≡ wrong6 ix
    unfolding wrong_column
    columns-some =
        rw (values-count, any-rows (column_count ix) ix.max_doc (λ k. ltb 1 (get_or ix.values (3 * k) 0))) (sym (any-or (column_count ix) (λ c. ltb 1 (column_type ix c)) (λ c. any_below ix.max_doc (λ d. ltb 1 (value_present ix c d)))) ∙ columns-are)
