-- A refusal with number 0 is never a right answer of Place: where nothing stands, only None is. Assumes nothing.
use mathlib.Core.Path.{◌≡◌, ap}
use mathlib.Core.List.{List, [], ◌∷◌}
use mathlib.Core.Option.{Option, none, some}
use Prim.Native.Nat.{ℕ, zero, suc}
use native.Mathlib.Omega.{arith}
use lib.IntN.{ℤ, pos, negsuc}
use lib.ListN.{length}
use Rattle.meaning.specs.Lent.{Index}
use Rattle.meaning.specs.CallRefusals.{Work}
use Rattle.meaning.specs.Entries.{answered, place_refusal, start_numbers, PlaceFound, PlaceAnswer}

-- a list's first number where it is not below 0
first : List ℤ → ℕ
first [] = 0
first (pos n ∷ xs) = n
first (negsuc n ∷ xs) = 0

module _ (ix : Index) (q : List ℕ) (r d : ℕ) (w : Work) where
  pub never-refused-0 : PlaceAnswer ix q r d w (pos 0 ∷ []) → ⊥
  unfolding PlaceAnswer first
  never-refused-0 h = go (place_refusal ix q r d w) h
    where
      longer : (start : Option ℤ) → (pos 0 ∷ []) ≡ start_numbers start → ⊥
      longer none e = let n : ◌≡◌ {A = ℕ} 1 2 = ap length e in absurd (omega (arith, n))
      longer (some s) e = let n : ◌≡◌ {A = ℕ} 1 3 = ap length e in absurd (omega (arith, n))

      go : (n : ℕ) → answered n (PlaceFound ix q r d (pos 0 ∷ [])) (λ m. (pos 0 ∷ []) ≡ (pos m ∷ [])) → ⊥
      go zero h = longer h.0 h.2
      go (suc n) e = let z : ◌≡◌ {A = ℕ} 0 (suc n) = ap first e in absurd (omega (arith, z))
