-- Laws of `join_to`: lists one after the other, of which one grows at the end, and rows that are all of one width.
-- Assumes nothing.
use mathlib.Core.Path.{◌≡◌, refl, sym, ap, ap₂, ◌∙◌}
use mathlib.Core.Logic.{⊎_elim}
use mathlib.Core.List.{List, [], ◌++◌, append_assoc, append-nil}
use Prim.Native.Nat.{ℕ, zero, suc, ◌+◌, ◌*◌, ◌<◌}
use native.Mathlib.Nat.{le_refl, mul-zero, mul-suc, mul-le-mul_left}
use native.Mathlib.Numerals.{add-one}
use native.Mathlib.Omega.{arith}
use lib.ListN.{length, get_or, length-append, get_or-append}
use lib.Seq.{get_or-append-add}
use Rattle.meaning.specs.Packed.{join_to}
use Rattle.meaning.proofs.Below.{last-or-below}

module _ {ℓ} {A : Type ℓ} where
  pub join-zero : (f : ℕ → List A) → join_to 0 f ≡ []
  unfolding join_to
  join-zero f = refl

  pub join-next : (f : ℕ → List A) (n : ℕ) → join_to (n + 1) f ≡ join_to n f ++ f n
  unfolding join_to
  join-next f n = ap (λ (k : ℕ). join_to k f) (add-one n)

  pub join-same : (n : ℕ) (f g : ℕ → List A) → ((i : ℕ) → i < n → f i ≡ g i) → join_to n f ≡ join_to n g
  unfolding join_to
  join-same zero f g h = refl
  join-same (suc n) f g h = ap₂ (λ (xs ys : List A). xs ++ ys) (join-same n f g (λ i l. h i (omega arith))) (h n (le_refl _))

  pub join-none : (n : ℕ) (f : ℕ → List A) → ((i : ℕ) → i < n → f i ≡ []) → join_to n f ≡ []
  unfolding join_to
  join-none zero f h = refl
  join-none (suc n) f h = ap₂ (λ (xs ys : List A). xs ++ ys) (join-none n f (λ i l. h i (omega arith))) (h n (le_refl _))

  -- one list grows at its end, and all later ones are empty
  pub join-longer : (n l : ℕ) (f g : ℕ → List A) (xs : List A)
      → l < n
      → g l ≡ f l ++ xs
      → ((i : ℕ) → i < l → g i ≡ f i)
      → ((i : ℕ) → l < i → i < n → f i ≡ [])
      → ((i : ℕ) → l < i → i < n → g i ≡ [])
      → join_to n g ≡ join_to n f ++ xs
  unfolding join_to
  join-longer zero l f g xs b e same fs gs = absurd (omega arith)
  join-longer (suc n) l f g xs b e same fs gs =
      ⊎_elim
      here
      (λ p. later p (join-longer n l f g xs p e same (λ i k j. fs i k (omega arith)) (λ i k j. gs i k (omega arith))))
      (last-or-below l n b)
    where
      here : l ≡ n → join_to n g ++ g n ≡ join_to n f ++ f n ++ xs
      here p =
          ap₂ (λ (ys zs : List A). ys ++ zs) (join-same n g f (λ i k. same i (omega arith))) (ap g (sym p) ∙ e ∙ ap (λ (k : ℕ). f k ++ xs) p)
          ∙ sym (append_assoc (join_to n f) (f n) xs)

      later : l < n → join_to n g ≡ join_to n f ++ xs → join_to n g ++ g n ≡ join_to n f ++ f n ++ xs
      later p ih =
          ap (λ (ys : List A). join_to n g ++ ys) (gs n p (le_refl _))
          ∙ append-nil (join_to n g)
          ∙ ih
          ∙ ap (λ (ys : List A). ys ++ xs) (sym (append-nil (join_to n f)) ∙ ap (λ (ys : List A). join_to n f ++ ys) (sym (fs n p (le_refl _))))

  -- n rows of width w have w * n elements
  pub rows-length : (w n : ℕ) (f : ℕ → List A) → ((i : ℕ) → i < n → length (f i) ≡ w) → length (join_to n f) ≡ w * n
  unfolding join_to
  rows-length w zero f h = sym (mul-zero w)
  rows-length w (suc n) f h =
      length-append (join_to n f) (f n)
      ∙ ap₂ (λ (a b : ℕ). a + b) (rows-length w n f (λ i l. h i (omega arith))) (h n (le_refl _))
      ∙ sym (mul-suc w n)

  -- and element w * l + c is element c of row l
  pub rows_at : (w n : ℕ) (f : ℕ → List A) (d : A)
      → ((i : ℕ) → i < n → length (f i) ≡ w)
      → (l c : ℕ)
      → l < n
      → c < w
      → get_or (join_to n f) (w * l + c) d ≡ get_or (f l) c d
  unfolding join_to
  rows_at w zero f d h l c b k = absurd (omega arith)
  rows_at w (suc n) f d h l c b k =
      ⊎_elim here (λ p. before p (rows_at w n f d (λ i j. h i (omega arith)) l c p k)) (last-or-below l n b)
    where
      size : length (join_to n f) ≡ w * n
      size = rows-length w n f (λ i j. h i (omega arith))

      here : l ≡ n → get_or (join_to n f ++ f n) (w * l + c) d ≡ get_or (f l) c d
      here p =
          ap (λ (m : ℕ). get_or (join_to n f ++ f n) (m + c) d) (ap (λ (m : ℕ). w * m) p ∙ sym size)
          ∙ get_or-append-add (join_to n f) (f n) c d
          ∙ ap (λ (m : ℕ). get_or (f m) c d) (sym p)

      before : l < n → get_or (join_to n f) (w * l + c) d ≡ get_or (f l) c d → get_or (join_to n f ++ f n) (w * l + c) d ≡ get_or (f l) c d
      before p ih =
          get_or-append (join_to n f) (f n) d (w * l + c) (omega (arith, size, mul-le-mul_left {m = suc l} {n = n} w p, mul-suc w l)) ∙ ih
