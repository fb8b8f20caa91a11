-- When a phrase may be asked. Assumes nothing: these are definitions.
use Rattle.std.specs.Prelude.{ℕ, List}
use Rattle.phrase.specs.Terms.{Good, Room}

-- its terms are good, and some term's starts have room in so many places
pub record Asked (ps ts : List ℕ) (places : ℕ) : Type 0 where
  pub good : Good ps ts
  pub room : Room ts places
