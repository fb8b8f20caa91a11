-- The lowest number of an entry's conditions, and what the entry answers by it. Assumes nothing.
use mathlib.Core.Path.{◌≡◌, refl}
use mathlib.Core.Bool.{Bool, true, false}
use mathlib.Core.List.{List, ◌∷◌}
use Prim.Native.Nat.{ℕ, zero, suc, ◌<◌}
use native.Mathlib.Omega.{arith}
use Rattle.meaning.specs.Refusals.{Condition, ◌when◌, lowest}
use Rattle.meaning.specs.Entries.{answered, Kept}

-- ---- the first condition of a list
module _ (n : ℕ) (b : Bool) (cs : List Condition) where
  pub lowest-here : b ≡ true → n ≡ lowest ((n when b) ∷ cs)
  unfolding lowest
  lowest-here e = rw e

  pub lowest-past : (m : ℕ) → b ≡ false → m ≡ lowest cs → m ≡ lowest ((n when b) ∷ cs)
  unfolding lowest
  lowest-past m e h = rw e h

  -- where none holds, it does not
  pub lowest-zero : 0 < n → lowest ((n when b) ∷ cs) ≡ 0 → (b ≡ false) × (lowest cs ≡ 0)
  unfolding lowest
  lowest-zero h e = go b e
    where
      go : (b : Bool) → lowest ((n when b) ∷ cs) ≡ 0 → (b ≡ false) × (lowest cs ≡ 0)
      go true e = absurd (omega (arith, e))
      go false e = (refl, e)

-- ---- by the number
module _ {A : Type 0} (a : A) (f : ℕ → A) where
  pub answered-refused : (n : ℕ) → (n ≡ 0 → ⊥) → f n ≡ answered n a f
  answered-refused zero h = absurd (h refl)
  answered-refused (suc n) h = refl

  pub answered-accepted : (n : ℕ) → n ≡ 0 → a ≡ answered n a f
  answered-accepted n e = rw e

-- a buffer that was not touched, and any buffer of a call that is not refused
pub kept_same : {A : Type 0} (n : ℕ) (x : List A) → Kept n x x
kept_same n x h = refl

pub kept-accepted : {A : Type 0} (n : ℕ) (x y : List A) → n ≡ 0 → Kept n x y
kept-accepted n x y e h = absurd (omega (arith, e, h))
