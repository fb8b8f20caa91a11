-- The documents of a rising list from one on: those below n, from the one on, grow with n by at most one document. Assumes nothing.
use Rattle.std.proofs.lemmas.List.{map-append}
use mathlib.Core.Path.{◌≡◌, refl, sym, ap, ◌∙◌}
use mathlib.Core.Logic.{◌⊎◌, inl, inr, ⊎_elim}
use mathlib.Core.Bool.{Bool, true, false, cond}
use mathlib.Core.List.{List, [], ◌∷◌, ◌++◌, map, append_assoc}
use Prim.Native.Nat.{ℕ, zero, suc, ◌≤◌, ◌<◌}
use native.Mathlib.Nat.{le_refl, eq-or-lt_of_le}
use native.Mathlib.Omega.{arith}
use lib.Dec.{leb}
use borrow.Author.Tests.{le-leb, lt-leb}
use Rattle.meaning.specs.Below.{list_below}
use Rattle.meaning.specs.FullList.{ScoreDoc}
use Rattle.meaning.specs.Pages.{from_target}
use Rattle.meaning.proofs.Tests.{cmp}

from-append : (t : ℕ) (xs ys : List ScoreDoc) → from_target t (xs ++ ys) ≡ from_target t xs ++ from_target t ys
unfolding from_target
from-append t [] ys = refl
from-append t (x ∷ xs) ys = ap (λ (l : List ScoreDoc). cond (leb t x.doc) (x ∷ []) [] ++ l) (from-append t xs ys) ∙ sym (append_assoc (cond (leb t x.doc) (x ∷ []) []) (from_target t xs) (from_target t ys))

module _ (f : ℕ → ScoreDoc) (doc-is : (d : ℕ) → (f d).doc ≡ d) (p : ℕ → Bool) where
  -- those below n, from t on
  abbrev pub Left : ℕ → ℕ → List ScoreDoc
  Left t n = from_target t (map f (list_below n p))

  -- one document
  abbrev pub one_left : ℕ → ℕ → List ScoreDoc
  one_left t d = from_target t (map f (cond (p d) (d ∷ []) []))

  one_more : (t n : ℕ) → Left t (suc n) ≡ Left t n ++ one_left t n
  unfolding list_below
  one_more t n = ap (from_target t) (map-append f (list_below n p) (cond (p n) (n ∷ []) [])) ∙ from-append t (map f (list_below n p)) (map f (cond (p n) (n ∷ []) []))

  none-one : (t d : ℕ) → (t ≤ d → p d ≡ false) → one_left t d ≡ []
  unfolding from_target
  none-one t d h = ⊎_elim (λ l. before (p d) (lt-leb t d l)) (λ l. rw (h l)) (cmp d t)
    where
      before : (b : Bool) → leb t d ≡ false → from_target t (map f (cond b (d ∷ []) [])) ≡ []
      before true e = let q : leb t (f d).doc ≡ false = ap (leb t) (doc-is d) ∙ e in rw q
      before false e = refl

  here-one : (t d : ℕ) → t ≤ d → p d ≡ true → one_left t d ≡ f d ∷ []
  unfolding from_target
  here-one t d l e = let q : leb t (f d).doc ≡ true = ap (leb t) (doc-is d) ∙ le-leb t d l in rw (e, q)

  same-one : (t r d : ℕ) → t ≤ d → r ≤ d → one_left t d ≡ one_left r d
  unfolding from_target
  same-one t r d l m = go (p d)
    where
      go : (b : Bool) → from_target t (map f (cond b (d ∷ []) [])) ≡ from_target r (map f (cond b (d ∷ []) []))
      go true = let q : leb t (f d).doc ≡ true = ap (leb t) (doc-is d) ∙ le-leb t d l in let s : leb r (f d).doc ≡ true = ap (leb r) (doc-is d) ∙ le-leb r d m in rw (q, s)
      go false = refl

  start_left : (t : ℕ) → Left t zero ≡ []
  unfolding list_below from_target
  start_left t = refl

  pub none_left : (n t : ℕ) → ((d : ℕ) → t ≤ d → d < n → p d ≡ false) → Left t n ≡ []
  none_left zero t h = start_left t
  none_left (suc n) t h = one_more t n ∙ ap (λ (l : List ScoreDoc). l ++ one_left t n) (none_left n t (λ d a b. h d a (omega arith))) ∙ none-one t n (λ a. h n a (le_refl _))

  pub first-left : (n t r : ℕ) → t ≤ r → r < n → p r ≡ true → ((d : ℕ) → t ≤ d → d < r → p d ≡ false) → Left t n ≡ f r ∷ Left (suc r) n
  first-left zero t r a b e h = absurd (omega arith)
  first-left (suc n) t r a b e h = go (eq-or-lt_of_le {n = r} {m = n} (omega arith)) (λ q. first-left n t r a q e h)
    where
      go : (r ≡ n) ⊎ (r < n) → (r < n → Left t n ≡ f r ∷ Left (suc r) n) → Left t (suc n) ≡ f r ∷ Left (suc r) (suc n)
      go (inl q) i =
          one_more t n ∙ ap (λ (l : List ScoreDoc). l ++ one_left t n) (none_left n t (λ d x y. h d x (omega arith))) ∙ here-one t n (omega arith) (ap p (sym q) ∙ e) ∙ ap (λ (d : ℕ). f d ∷ []) (sym q) ∙ ap (λ (l : List ScoreDoc). f r ∷ l) (sym (none_left (suc n) (suc r) (λ d x y. absurd (omega arith))))
      go (inr q) i =
          one_more t n ∙ ap (λ (l : List ScoreDoc). l ++ one_left t n) (i q) ∙ ap (λ (l : List ScoreDoc). f r ∷ (Left (suc r) n ++ l)) (same-one t (suc r) n (omega arith) q) ∙ ap (λ (l : List ScoreDoc). f r ∷ l) (sym (one_more (suc r) n))

  -- none between two documents: what is left from either is the same
  skip-one : (t r d : ℕ) → t ≤ r → (t ≤ d → d < r → p d ≡ false) → one_left t d ≡ one_left r d
  skip-one t r d l h =
      ⊎_elim
      (λ a. none-one t d (λ b. absurd (omega arith)) ∙ sym (none-one r d (λ b. absurd (omega arith))))
      (λ a. ⊎_elim (λ b. none-one t d (λ _. h a b) ∙ sym (none-one r d (λ _. h a b))) (λ b. same-one t r d a b) (cmp d r))
      (cmp d t)

  pub skip-left : (n t r : ℕ) → t ≤ r → ((d : ℕ) → t ≤ d → d < r → d < n → p d ≡ false) → Left t n ≡ Left r n
  skip-left zero t r l h = start_left t ∙ sym (start_left r)
  skip-left (suc n) t r l h =
      one_more t n ∙ ap (λ (i : List ScoreDoc). i ++ one_left t n) (skip-left n t r l (λ d a b c. h d a b (omega arith))) ∙ ap (λ (i : List ScoreDoc). Left r n ++ i) (skip-one t r n l (λ a b. h n a b (le_refl _))) ∙ sym (one_more r n)
