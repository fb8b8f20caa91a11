-- Words stored one after the other: two runs of stores are one, stores over others are the later ones, and stores from
-- the front on leave what is behind them. Assumes nothing.
use mathlib.Core.Path.{◌≡◌, refl, sym, ap, ap₂, ◌∙◌}
use mathlib.Core.List.{List, [], ◌∷◌, ◌++◌}
use Prim.Native.Nat.{ℕ, suc, ◌+◌, ◌≤◌, ◌<◌}
use native.Mathlib.Nat.{add-zero, zero-add, suc_inj}
use native.Mathlib.Numerals.{add-one}
use native.Mathlib.Omega.{arith}
use lib.ListN.{length, set, drop}
use lib.Seq.{sets, sets-eq, set-set, set_comm}
use Rattle.meaning.specs.Below.{list_to}
use Rattle.meaning.specs.Entries.{written}
use Rattle.meaning.proofs.Below.{list_to-next, length-list_to}

module _ {ℓ} {A : Type ℓ} where
  pub sets-append : (l : List A) (i : ℕ) (xs ys : List A) → sets l i (xs ++ ys) ≡ sets (sets l i xs) (i + length xs) ys
  sets-append l i [] ys = ap (λ (k : ℕ). sets l k ys) (sym (add-zero i))
  sets-append l i (x ∷ xs) ys =
      let e : suc i + length xs ≡ i + suc (length xs) = omega arith in
      sets-append (set l i x) (suc i) xs ys ∙ ap (λ (k : ℕ). sets (sets (set l i x) (suc i) xs) k ys) e

  -- what is stored behind what was stored
  pub sets_behind : (l t : List A) (i k : ℕ) (xs ys : List A) → t ≡ sets l i xs → k ≡ i + length xs → sets t k ys ≡ sets l i (xs ++ ys)
  sets_behind l t i k xs ys e g = ap₂ (λ (u : List A) (m : ℕ). sets u m ys) e g ∙ sym (sets-append l i xs ys)

  -- a store before others, and stores over as many at the same places
  set-sets : (l : List A) (i k : ℕ) (a : A) (xs : List A) → k < i → set (sets l i xs) k a ≡ sets (set l k a) i xs
  set-sets l i k a [] h = refl
  set-sets l i k a (x ∷ xs) h =
      set-sets (set l i x) (suc i) k a xs (omega (arith, h))
      ∙ ap (λ (u : List A). sets u (suc i) xs) (set_comm l i k x a (λ e. absurd (omega (arith, e, h))))

  sets-again : (l : List A) (i : ℕ) (xs ys : List A) → length xs ≡ length ys → sets (sets l i xs) i ys ≡ sets l i ys
  sets-again l i [] [] e = refl
  sets-again l i [] (y ∷ ys) e = absurd (omega (arith, e))
  sets-again l i (x ∷ xs) [] e = absurd (omega (arith, e))
  sets-again l i (x ∷ xs) (y ∷ ys) e =
      ap (λ (u : List A). sets u (suc i) ys) (set-sets (set l i x) (suc i) i y xs (omega arith) ∙ ap (λ (u : List A). sets u (suc i) xs) (set-set l i x y))
      ∙ sets-again (set l i y) (suc i) xs ys (suc_inj e)

  -- what is stored over the end of what was stored
  pub sets_over : (l t : List A) (i k : ℕ) (xs ys zs : List A) → t ≡ sets l i (xs ++ ys) → k ≡ i + length xs → length ys ≡ length zs → sets t k zs ≡ sets l i (xs ++ zs)
  sets_over l t i k xs ys zs e g h =
      ap₂ (λ (u : List A) (m : ℕ). sets u m zs) (e ∙ sets-append l i xs ys) g
      ∙ sets-again (sets l i xs) (i + length xs) ys zs h
      ∙ sym (sets-append l i xs zs)

  -- the stores of a short list, as the code writes their places
  pub two-stores : (l : List A) (i : ℕ) (a b : A) → set (set l i a) (i + 1) b ≡ sets l i (a ∷ b ∷ [])
  two-stores l i a b = ap (λ (k : ℕ). set (set l i a) k b) (add-one i)

  pub three-stores : (l : List A) (i : ℕ) (a b c : A) → set (set (set l i a) (i + 1) b) (i + 2) c ≡ sets l i (a ∷ b ∷ c ∷ [])
  three-stores l i a b c =
      let e : i + 2 ≡ suc (suc i) = omega arith in
      ap₂ (λ (k m : ℕ). set (set (set l i a) k b) m c) (add-one i) e

  -- nothing stored, and a turn of a loop that stores a list
  pub sets-none : (l : List A) (i : ℕ) (f : ℕ → A) → l ≡ sets l i (list_to 0 f)
  unfolding list_to
  sets-none l i f = refl

  pub sets-next : (f : ℕ → A) (l t : List A) (i j : ℕ) (v : A) → t ≡ sets l i (list_to j f) → v ≡ f j → set t (i + j) v ≡ sets l i (list_to (j + 1) f)
  sets-next f l t i j v e g =
      ap (set t (i + j)) g
      ∙ sets_behind l t i (i + j) (list_to j f) (f j ∷ []) e (ap (λ (k : ℕ). i + k) (sym (length-list_to j f)))
      ∙ ap (sets l i) (sym (list_to-next f j))

  pub sets-front : (xs l : List A) → length xs ≤ length l → sets l 0 xs ≡ written xs l
  sets-front xs l h =
      let e : 0 + length xs ≡ length xs = zero-add (length xs) in
      sets-eq xs l 0 (omega (arith, h)) ∙ ap (λ (k : ℕ). xs ++ drop k l) e
