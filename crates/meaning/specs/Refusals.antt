-- Document 01, "Who causes which refusal": an entry gives the lowest number whose condition holds. Assumes nothing: these are definitions.
use Rattle.std.specs.Prelude.{Bool, true, false, List, [], ◌∷◌, ℕ}

-- a refusal: its number, and whether its condition holds for what was lent
pub record Condition : Type 0 where
  pub number : ℕ
  pub holds : Bool

abbrev pub ◌when◌ : ℕ → Bool → Condition
n when b = record { number = n; holds = b }

infix 20 ◌when◌
-- the number of the first condition that holds, and 0 where none does; an entry lists its numbers ascending
unfoldable pub lowest : List Condition → ℕ
lowest [] = 0
lowest (c ∷ cs) = elim c.holds [ true ↦ c.number | false ↦ lowest cs ]
