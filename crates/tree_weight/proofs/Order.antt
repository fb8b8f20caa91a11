-- Clauses made ready and sorted by cost, against meaning's requirements sorted by cost. Assumes nothing.
use mathlib.Core.Path.{◌≡◌, refl, sym, ap, ◌∙◌}
use mathlib.Core.Bool.{Bool, true, false, cond, ◌&&◌, false≢true}
use mathlib.Core.List.{List, [], ◌∷◌, ◌++◌}
use Prim.Native.Nat.{ℕ, ◌≤◌, ◌<◌}
use native.Mathlib.Nat.{le_refl, le_trans}
use native.Mathlib.Omega.{arith}
use lib.Dec.{leb}
use lib.Ieee.{Float}
use borrow.Author.Tests.{leb-true, leb-false, le-leb, lt-leb}
use Rattle.meaning.specs.Query.{Occur, must, should, must_not, filter, is_required, is_must}
use Rattle.meaning.specs.Score.{Requirement, insert_by_cost, by_cost}
use Rattle.tree_weight.specs.Weigh.{Ready, insert_ready, cheapest_first, chosen}
use Rattle.tree_weight.proofs.Ready.{Every, every-insert, every_more}
use Rattle.tree_weight.proofs.Matches.{AllThere}

-- ---- meaning's requirements
-- after all that cost no more
unfoldable pub place : Requirement → List Requirement → List Requirement
place g [] = g ∷ []
place g (x ∷ xs) = cond (leb x.cost g.cost) (x ∷ place g xs) (g ∷ x ∷ xs)

insert-first : (r x : Requirement) (xs : List Requirement) → leb r.cost x.cost ≡ true → insert_by_cost r (x ∷ xs) ≡ r ∷ x ∷ xs
unfolding insert_by_cost
insert-first r x xs e = ap (λ (h : Bool). cond h (r ∷ x ∷ xs) (x ∷ insert_by_cost r xs)) e

insert-later : (r x : Requirement) (xs : List Requirement) → leb r.cost x.cost ≡ false → insert_by_cost r (x ∷ xs) ≡ x ∷ insert_by_cost r xs
unfolding insert_by_cost
insert-later r x xs e = ap (λ (h : Bool). cond h (r ∷ x ∷ xs) (x ∷ insert_by_cost r xs)) e

pub place-later : (g x : Requirement) (xs : List Requirement) → leb x.cost g.cost ≡ true → place g (x ∷ xs) ≡ x ∷ place g xs
unfolding place
place-later g x xs e = ap (λ (h : Bool). cond h (x ∷ place g xs) (g ∷ x ∷ xs)) e

place-first : (g x : Requirement) (xs : List Requirement) → leb x.cost g.cost ≡ false → place g (x ∷ xs) ≡ g ∷ x ∷ xs
unfolding place
place-first g x xs e = ap (λ (h : Bool). cond h (x ∷ place g xs) (g ∷ x ∷ xs)) e

insert-place : (r g : Requirement) (xs : List Requirement) → insert_by_cost r (place g xs) ≡ place g (insert_by_cost r xs)
unfolding insert_by_cost place
insert-place r g [] = refl
insert-place r g (x ∷ xs) = step (leb x.cost g.cost) (leb r.cost x.cost) (leb r.cost g.cost) refl refl refl (insert-place r g xs)
  where
    on : Requirement → List Requirement → List Requirement
    on y ys = y ∷ ys

    too-low : {A : Type 0} → leb r.cost x.cost ≡ true → leb x.cost g.cost ≡ true → leb r.cost g.cost ≡ false → A
    too-low e f h = absurd (omega (arith, leb-true r.cost x.cost e, leb-true x.cost g.cost f, leb-false r.cost g.cost h))

    too-high : {A : Type 0} → leb r.cost x.cost ≡ false → leb x.cost g.cost ≡ false → leb r.cost g.cost ≡ true → A
    too-high e f h = absurd (omega (arith, leb-false r.cost x.cost e, leb-false x.cost g.cost f, leb-true r.cost g.cost h))

    step : (xg rx rg : Bool) → leb x.cost g.cost ≡ xg → leb r.cost x.cost ≡ rx → leb r.cost g.cost ≡ rg → insert_by_cost r (place g xs) ≡ place g (insert_by_cost r xs) → insert_by_cost r (place g (x ∷ xs)) ≡ place g (insert_by_cost r (x ∷ xs))
    step true true true f e h ih =
        ap (insert_by_cost r) (place-later g x xs f)
        ∙ insert-first r x (place g xs) e
        ∙ sym (ap (place g) (insert-first r x xs e) ∙ place-later g r (x ∷ xs) h ∙ ap (on r) (place-later g x xs f))
    step true true false f e h ih = too-low e f h
    step true false rg f e h ih =
        ap (insert_by_cost r) (place-later g x xs f)
        ∙ insert-later r x (place g xs) e
        ∙ ap (on x) ih
        ∙ sym (ap (place g) (insert-later r x xs e) ∙ place-later g x (insert_by_cost r xs) f)
    step false true true f e h ih =
        ap (insert_by_cost r) (place-first g x xs f)
        ∙ insert-first r g (x ∷ xs) h
        ∙ sym (ap (place g) (insert-first r x xs e) ∙ place-later g r (x ∷ xs) h ∙ ap (on r) (place-first g x xs f))
    step false true false f e h ih =
        ap (insert_by_cost r) (place-first g x xs f)
        ∙ insert-later r g (x ∷ xs) h
        ∙ ap (on g) (insert-first r x xs e)
        ∙ sym (ap (place g) (insert-first r x xs e) ∙ place-first g r (x ∷ xs) h)
    step false false true f e h ih = too-high e f h
    step false false false f e h ih =
        ap (insert_by_cost r) (place-first g x xs f)
        ∙ insert-later r g (x ∷ xs) h
        ∙ ap (on g) (insert-later r x xs e)
        ∙ sym (ap (place g) (insert-later r x xs e) ∙ place-first g x (insert_by_cost r xs) f)

-- one more at the end of the list goes after all that cost no more
pub last-placed : (ms : List Requirement) (g : Requirement) → by_cost (ms ++ (g ∷ [])) ≡ place g (by_cost ms)
unfolding by_cost insert_by_cost place
last-placed [] g = refl
last-placed (m ∷ ms) g = ap (insert_by_cost m) (last-placed ms g) ∙ insert-place m g (by_cost ms)

-- ---- clauses made ready, sorted
abbrev pub AtLeast : ℕ → Ready → Type 0
AtLeast n r = n ≤ r.cost

-- each costs so much at least
abbrev pub Above : ℕ → List Ready → Type 0
Above n rs = Every (AtLeast n) rs

unfoldable pub Sorted : List Ready → Type 0
Sorted [] = Unit
Sorted (r ∷ rs) = Above r.cost rs × Sorted rs

above-less : (m n : ℕ) (rs : List Ready) → m ≤ n → Above n rs → Above m rs
above-less m n rs h a = every_more (AtLeast n) (AtLeast m) (λ r g. le_trans h g) rs a

sorted_insert : (r : Ready) (rs : List Ready) → Sorted rs → Sorted (insert_ready r rs)
unfolding Every Sorted insert_ready
sorted_insert r [] s = (tt, tt)
sorted_insert r (x ∷ xs) s = step (leb r.cost x.cost) refl (sorted_insert r xs s.1)
  where
    step : (b : Bool) → leb r.cost x.cost ≡ b → Sorted (insert_ready r xs) → Sorted (cond b (r ∷ x ∷ xs) (x ∷ insert_ready r xs))
    step true e i = ((leb-true r.cost x.cost e, above-less r.cost x.cost xs (leb-true r.cost x.cost e) s.0), s)
    step false e i = (every-insert (AtLeast x.cost) r xs (omega (arith, leb-false r.cost x.cost e)) s.0, i)

pub sorted : (rs : List Ready) → Sorted (cheapest_first rs)
unfolding Sorted cheapest_first
sorted [] = tt
sorted (r ∷ rs) = sorted_insert r (cheapest_first rs) (sorted rs)

-- ---- the Musts among them, each with a score
module _ (f : Ready → Float) where
  abbrev pub requirement : Ready → Requirement
  requirement r = record { cost = r.cost; score = f r }

  unfoldable pub musts : List Ready → List Requirement
  musts [] = []
  musts (r ∷ rs) = cond (is_must r.occur) (requirement r ∷ []) [] ++ musts rs

  -- what costs no more than all of them comes first
  insert-front : (q : Requirement) (n : ℕ) (rs : List Ready) → q.cost ≤ n → Above n rs → insert_by_cost q (musts rs) ≡ q ∷ musts rs
  unfolding insert_by_cost musts Every
  insert-front q n [] h a = refl
  insert-front q n (x ∷ xs) h a = step (is_must x.occur) (insert-front q n xs h a.1)
    where
      step : (m : Bool) → insert_by_cost q (musts xs) ≡ q ∷ musts xs → insert_by_cost q (cond m (requirement x ∷ []) [] ++ musts xs) ≡ q ∷ (cond m (requirement x ∷ []) [] ++ musts xs)
      step true i = insert-first q (requirement x) (musts xs) (le-leb q.cost x.cost (le_trans h a.0))
      step false i = i

  pub place-front : (g : Requirement) (n : ℕ) (rs : List Ready) → g.cost < n → Above n rs → place g (musts rs) ≡ g ∷ musts rs
  unfolding place musts Every
  place-front g n [] h a = refl
  place-front g n (x ∷ xs) h a = step (is_must x.occur) (place-front g n xs h a.1)
    where
      step : (m : Bool) → place g (musts xs) ≡ g ∷ musts xs → place g (cond m (requirement x ∷ []) [] ++ musts xs) ≡ g ∷ (cond m (requirement x ∷ []) [] ++ musts xs)
      step true i = place-first g (requirement x) (musts xs) (lt-leb x.cost g.cost (le_trans h a.0))
      step false i = i

  musts-insert : (r : Ready) (rs : List Ready) → Sorted rs → musts (insert_ready r rs) ≡ cond (is_must r.occur) (insert_by_cost (requirement r) (musts rs)) (musts rs)
  unfolding musts insert_ready insert_by_cost Sorted Every
  musts-insert r [] s = step (is_must r.occur)
    where
      step : (m : Bool) → (cond m (requirement r ∷ []) [] ++ []) ≡ cond m (requirement r ∷ []) []
      step true = refl
      step false = refl
  musts-insert r (x ∷ xs) s = step (leb r.cost x.cost) refl (musts-insert r xs s.1)
    where
      q : Requirement
      q = requirement r

      front : leb r.cost x.cost ≡ true → insert_by_cost q (musts (x ∷ xs)) ≡ q ∷ musts (x ∷ xs)
      front e = insert-front q r.cost (x ∷ xs) (le_refl r.cost) (leb-true r.cost x.cost e, above-less r.cost x.cost xs (leb-true r.cost x.cost e) s.0)

      first : (mr : Bool) → leb r.cost x.cost ≡ true → (cond mr (q ∷ []) [] ++ musts (x ∷ xs)) ≡ cond mr (insert_by_cost q (musts (x ∷ xs))) (musts (x ∷ xs))
      first true e = sym (front e)
      first false e = refl

      later : (mr mx : Bool) → leb r.cost x.cost ≡ false → (cond mx (requirement x ∷ []) [] ++ cond mr (insert_by_cost q (musts xs)) (musts xs)) ≡ cond mr (insert_by_cost q (cond mx (requirement x ∷ []) [] ++ musts xs)) (cond mx (requirement x ∷ []) [] ++ musts xs)
      later true true e = sym (insert-later q (requirement x) (musts xs) e)
      later true false e = refl
      later false mx e = refl

      step : (b : Bool) → leb r.cost x.cost ≡ b → musts (insert_ready r xs) ≡ cond (is_must r.occur) (insert_by_cost q (musts xs)) (musts xs) → musts (cond b (r ∷ x ∷ xs) (x ∷ insert_ready r xs)) ≡ cond (is_must r.occur) (insert_by_cost q (musts (x ∷ xs))) (musts (x ∷ xs))
      step true e i = first (is_must r.occur) e
      step false e i = ap (λ (z : List Requirement). cond (is_must x.occur) (requirement x ∷ []) [] ++ z) i ∙ later (is_must r.occur) (is_must x.occur) e

  -- THE theorem: Musts and Filters sorted together have their Musts as those sorted alone
  pub musts-sorted : (rs : List Ready) → musts (cheapest_first rs) ≡ by_cost (musts rs)
  unfolding musts cheapest_first by_cost
  musts-sorted [] = refl
  musts-sorted (r ∷ rs) = musts-insert r (cheapest_first rs) (sorted rs) ∙ step (is_must r.occur) (musts-sorted rs)
    where
      step : (m : Bool) → musts (cheapest_first rs) ≡ by_cost (musts rs) → cond m (insert_by_cost (requirement r) (musts (cheapest_first rs))) (musts (cheapest_first rs)) ≡ by_cost (cond m (requirement r ∷ []) [] ++ musts rs)
      step true i = ap (insert_by_cost (requirement r)) i
      step false i = i

  -- and where each required clause has a scorer, leaving out the others leaves out no Must
  pub musts-chosen : (rs : List Ready) → AllThere rs → musts (chosen is_required rs) ≡ musts rs
  unfolding musts chosen Every
  musts-chosen [] there = refl
  musts-chosen (r ∷ rs) there = step (is_required r.occur) r.present refl there.0 (musts-chosen rs there.1)
    where
      no-must : (o : Occur) → is_required o ≡ false → is_must o ≡ false
      no-must must e = e
      no-must should e = refl
      no-must must_not e = refl
      no-must filter e = refl

      step : (q p : Bool) → is_required r.occur ≡ q → (q ≡ true → p ≡ true) → musts (chosen is_required rs) ≡ musts rs → musts (cond (q && p) (r ∷ []) [] ++ chosen is_required rs) ≡ cond (is_must r.occur) (requirement r ∷ []) [] ++ musts rs
      step true true e h i = ap (λ (z : List Requirement). cond (is_must r.occur) (requirement r ∷ []) [] ++ z) i
      step true false e h i = absurd (false≢true (h refl))
      step false p e h i = i ∙ ap (λ (z : Bool). cond z (requirement r ∷ []) [] ++ musts rs) (sym (no-must r.occur e))
