-- What each answer of Range says in document 01's numbers: a refusal's number alone, or 0 and how many documents are
-- listed. Assumes nothing: these are definitions.
use Rattle.std.specs.Prelude.{List, [], ◌∷◌, ℕ, Result, Ok, Err}
use Rattle.refusal.specs.declared.Refusal.{Refusal}
use Rattle.refusal.specs.Numbers.{number_of}

unfoldable pub ranged_numbers : Result ℕ Refusal → List ℕ
ranged_numbers (Err r) = number_of r ∷ []
ranged_numbers (Ok n) = 0 ∷ n ∷ []
