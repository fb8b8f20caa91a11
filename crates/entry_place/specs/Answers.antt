-- What each answer of Place says in document 01's numbers. Assumes nothing: these are definitions.
use Rattle.std.specs.Prelude.{List, [], ◌∷◌, ℤ, pos, Result, Ok, Err, Option, None, Some}
use Rattle.refusal.specs.declared.Refusal.{Refusal}
use Rattle.refusal.specs.Numbers.{number_of}

-- a refusal's number alone, or 0, how many starts are given, and the start, which may lie below 0; so None has two
-- numbers, and is told apart from a refusal
unfoldable pub placed_numbers : Result (Option ℤ) Refusal → List ℤ
placed_numbers (Err r) = pos (number_of r) ∷ []
placed_numbers (Ok None) = pos 0 ∷ pos 0 ∷ []
placed_numbers (Ok (Some s)) = pos 0 ∷ pos 1 ∷ s ∷ []
