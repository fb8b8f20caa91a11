-- What holds of every clause made ready holds of those chosen and sorted; and what is added up over them.
-- Assumes nothing.
use mathlib.Core.Path.{◌≡◌, refl}
use mathlib.Core.Bool.{Bool, true, false, cond, ◌&&◌}
use mathlib.Core.List.{List, [], ◌∷◌, ◌++◌}
use Prim.Native.Nat.{ℕ, ◌+◌, ◌≤◌}
use native.Mathlib.Nat.{le_refl}
use native.Mathlib.Omega.{arith}
use lib.Dec.{leb}
use Rattle.meaning.specs.Query.{Occur, must, should, must_not, filter, is_required, is_should, is_must_not}
use Rattle.tree_weight.specs.ScorerTree.{Scorer}
use Rattle.tree_weight.specs.Weigh.{Ready, insert_ready, cheapest_first, chosen}

-- ---- a property of each one
module _ (P : Ready → Type 0) where
  unfoldable pub Every : List Ready → Type 0
  Every [] = Unit
  Every (r ∷ rs) = P r × Every rs

  pub every-insert : (r : Ready) (rs : List Ready) → P r → Every rs → Every (insert_ready r rs)
  unfolding Every insert_ready
  every-insert r [] p ps = (p, tt)
  every-insert r (x ∷ xs) p ps = step (leb r.cost x.cost) (every-insert r xs p ps.1)
    where
      step : (h : Bool) → Every (insert_ready r xs) → Every (cond h (r ∷ x ∷ xs) (x ∷ insert_ready r xs))
      step true i = (p, (ps.0, ps.1))
      step false i = (ps.0, i)

  pub every-sorted : (rs : List Ready) → Every rs → Every (cheapest_first rs)
  unfolding Every cheapest_first
  every-sorted [] ps = tt
  every-sorted (r ∷ rs) ps = every-insert r (cheapest_first rs) ps.0 (every-sorted rs ps.1)

  pub every-chosen : (o : Occur → Bool) (rs : List Ready) → Every rs → Every (chosen o rs)
  unfolding Every chosen
  every-chosen o [] ps = tt
  every-chosen o (r ∷ rs) ps = step (o r.occur && r.present) (every-chosen o rs ps.1)
    where
      step : (h : Bool) → Every (chosen o rs) → Every (cond h (r ∷ []) [] ++ chosen o rs)
      step true i = (ps.0, i)
      step false i = i

pub every_more : (P Q : Ready → Type 0) → ((r : Ready) → P r → Q r) → (rs : List Ready) → Every P rs → Every Q rs
unfolding Every
every_more P Q f [] ps = tt
every_more P Q f (r ∷ rs) ps = (f r ps.0, every_more P Q f rs ps.1)

-- ---- a number of each one's scorer, added up
module _ (f : Scorer → ℕ) where
  unfoldable pub total : List Ready → ℕ
  total [] = 0
  total (r ∷ rs) = f r.scorer + total rs

  total-insert : (r : Ready) (rs : List Ready) → total (insert_ready r rs) ≡ f r.scorer + total rs
  unfolding total insert_ready
  total-insert r [] = refl
  total-insert r (x ∷ xs) = step (leb r.cost x.cost) (total-insert r xs)
    where
      step : (h : Bool) → total (insert_ready r xs) ≡ f r.scorer + total xs → total (cond h (r ∷ x ∷ xs) (x ∷ insert_ready r xs)) ≡ f r.scorer + (f x.scorer + total xs)
      step true i = refl
      step false i = omega (arith, i)

  pub total-sorted : (rs : List Ready) → total (cheapest_first rs) ≡ total rs
  unfolding total cheapest_first
  total-sorted [] = refl
  total-sorted (r ∷ rs) = let i = total-sorted rs in let e = total-insert r (cheapest_first rs) in omega (arith, i, e)

  -- no clause stands in two of the three lists
  pub total-chosen : (rs : List Ready) → total (chosen is_required rs) + (total (chosen is_should rs) + total (chosen is_must_not rs)) ≤ total rs
  unfolding total chosen
  total-chosen [] = le_refl 0
  total-chosen (r ∷ rs) = step r.occur r.present (total-chosen rs)
    where
      A : List Ready
      A = chosen is_required rs

      B : List Ready
      B = chosen is_should rs

      C : List Ready
      C = chosen is_must_not rs

      step : (o : Occur) (p : Bool) → total A + (total B + total C) ≤ total rs → total (cond (is_required o && p) (r ∷ []) [] ++ A) + (total (cond (is_should o && p) (r ∷ []) [] ++ B) + total (cond (is_must_not o && p) (r ∷ []) [] ++ C)) ≤ f r.scorer + total rs
      step must true i = omega (arith, i)
      step must false i = omega (arith, i)
      step should true i = omega (arith, i)
      step should false i = omega (arith, i)
      step must_not true i = omega (arith, i)
      step must_not false i = omega (arith, i)
      step filter true i = omega (arith, i)
      step filter false i = omega (arith, i)
