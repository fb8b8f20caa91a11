-- The common part of lists of starts, as a list that does not fall. Assumes nothing: these are definitions.
use Rattle.std.specs.Prelude.{◌≡◌, List, [], ◌∷◌, ℤ, ◌≤ℤ◌}
use Rattle.meaning.specs.Phrase.{multiplicity, smallest}

-- each entry is at least x
unfoldable pub AtLeast : ℤ → List ℤ → Type 0
AtLeast x [] = Unit
AtLeast x (y ∷ ys) = (x ≤ℤ y) × AtLeast x ys

-- the entries do not fall
unfoldable pub Ascending : List ℤ → Type 0
Ascending [] = Unit
Ascending (x ∷ xs) = AtLeast x xs × Ascending xs

-- zs has each entry with its smallest multiplicity over the lists, and does not fall
pub record Common (xss : List (List ℤ)) (zs : List ℤ) : Type 0 where
  pub counts : (s : ℤ) → multiplicity s zs ≡ smallest s xss
  pub rising : Ascending zs
