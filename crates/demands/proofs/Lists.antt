-- Lists: a map of a part, and what holds of each entry. Assumes nothing.
use mathlib.Core.Path.{◌≡◌, refl, sym, ap, ◌∙◌, subst}
use mathlib.Core.Logic.{inl, inr}
use mathlib.Core.Bool.{Bool, true}
use mathlib.Core.List.{List, [], ◌∷◌, ◌++◌, map, map-append}
use Prim.Native.Nat.{ℕ, zero, suc, ◌<◌}
use native.Mathlib.Nat.{not-suc-le-zero, le_of_suc-le-suc}
use native.Mathlib.Omega.{arith}
use lib.ListN.{length, take, drop, get_or}
use Rattle.meaning.specs.Below.{list_below}
use Rattle.doc_values.proofs.Lists.{decided, list-taken, list_left}

pub map-take {ℓ ℓ'} : {A : Type ℓ} {B : Type ℓ'} (f : A → B) (n : ℕ) (l : List A) → map f (take n l) ≡ take n (map f l)
map-take f zero l = refl
map-take f (suc n) [] = refl
map-take f (suc n) (x ∷ xs) = ap (λ r. f x ∷ r) (map-take f n xs)

pub map-drop {ℓ ℓ'} : {A : Type ℓ} {B : Type ℓ'} (f : A → B) (n : ℕ) (l : List A) → map f (drop n l) ≡ drop n (map f l)
map-drop f zero l = refl
map-drop f (suc n) [] = refl
map-drop f (suc n) (x ∷ xs) = map-drop f n xs

-- each entry of a list
abbrev pub All {ℓ} : {A : Type ℓ} → (A → Type 0) → List A → Type 0
All P [] = Unit
All P (x ∷ xs) = P x × All P xs

pub all-last {ℓ} : {A : Type ℓ} (P : A → Type 0) (xs : List A) (x : A) → All P xs → P x → All P (xs ++ (x ∷ []))
all-last P [] x a p = (p, tt)
all-last P (y ∷ ys) x a p = (a.0, all-last P ys x a.1 p)

pub all-at {ℓ} : {A : Type ℓ} (P : A → Type 0) (xs : List A) (i : ℕ) (d : A) → All P xs → i < length xs → P (get_or xs i d)
all-at P [] i d a h = absurd (not-suc-le-zero h)
all-at P (x ∷ xs) zero d a h = a.0
all-at P (x ∷ xs) (suc i) d a h = all-at P xs i d a.1 (le_of_suc-le-suc h)

pub all_listed {ℓ} : {A : Type ℓ} (P : A → Type 0) (f : ℕ → A) (p : ℕ → Bool) (n : ℕ) → ((d : ℕ) → d < n → p d ≡ true → P (f d)) → All P (map f (list_below n p))
unfolding list_below
all_listed P f p zero h = tt
all_listed {A} P f p (suc n) h = elim (decided (p n)) [
  | inl e ↦
      subst (λ (l : List A). All P l) (sym (ap (map f) (list-taken p n e) ∙ map-append f (list_below n p) (n ∷ [])))
      (all-last P (map f (list_below n p)) (f n) (all_listed P f p n (λ d l. h d (omega (arith, l)))) (h n (omega arith) e))
  | inr e ↦ subst (λ (l : List A). All P l) (sym (ap (map f) (list_left p n e))) (all_listed P f p n (λ d l. h d (omega (arith, l))))
]
