-- What Place answers: the first of the common starts; and Nothing exactly where there is none. Assumes nothing.
use mathlib.Core.Path.{◌≡◌, refl, sym, subst}
use mathlib.Core.Bool.{Bool, true, false, cond}
use mathlib.Core.List.{List, [], ◌∷◌}
use Prim.Native.Nat.{ℕ, ◌+◌, ◌<◌}
use native.Mathlib.Omega.{arith}
use lib.Dec.{T}
use lib.IntN.{ℤ, pos}
use lib.ListN.{length, get_or}
use Rattle.meaning.specs.Phrase.{eqℤ, multiplicity, smallest, common_size}
use Rattle.meaning.proofs.Phrases.{eqℤ-refl, start-common}
use Rattle.std.specs.Prelude.{Option, Some, None, slice_get}
use Rattle.phrase_starts.specs.Common.{Common}
use Rattle.phrase.proofs.Size.{common-length}
use Rattle.phrase.specs.Place.{PlacedIn}

first-there : (zs : List ℤ) → (length zs ≡ 0 → ⊥) → 0 < multiplicity (get_or zs 0 (pos 0)) zs
unfolding multiplicity
first-there [] h = absurd (h refl)
first-there (z ∷ zs) h = go (eqℤ z z) (eqℤ-refl z)
  where
    go : (b : Bool) → T b → 0 < cond b 1 0 + multiplicity z zs
    go true t = omega arith
    go false t = absurd t

-- the first entry of the common part is in every list
pub first-common : (xss : List (List ℤ)) (zs : List ℤ) → Common xss zs → (length zs ≡ 0 → ⊥) → 0 < smallest (get_or zs 0 (pos 0)) xss
first-common xss zs k h = subst (λ (n : ℕ). 0 < n) (k.counts (get_or zs 0 (pos 0))) (first-there zs h)

-- a start is given only where the common part is not empty, so where it is empty there is none
pub nothing-without : (xss : List (List ℤ)) (r : Option ℤ) → PlacedIn xss r → common_size xss ≡ 0 → r ≡ None
unfolding PlacedIn
nothing-without xss None p e = refl
nothing-without xss (Some s) p e = let h = start-common s xss p in absurd (omega (arith, h, e))

-- the first entry of the common part, if there is one, is placed
pub first-placed : (xss : List (List ℤ)) (zs : List ℤ) → 0 < length xss → Common xss zs → PlacedIn xss (slice_get zs 0)
unfolding PlacedIn
first-placed xss [] h k = sym (common-length xss [] h k.counts)
first-placed xss (z ∷ zs) h k = first-common xss (z ∷ zs) k (λ e. absurd (omega (arith, e)))
