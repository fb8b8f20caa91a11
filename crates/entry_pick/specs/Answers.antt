-- What each answer of Pick says in document 01's numbers: a refusal's number alone, or 0 and the numbers of the hits.
-- Assumes nothing: these are definitions.
use Rattle.std.specs.Prelude.{List, [], ◌∷◌, ℕ, Result, Ok, Err}
use Rattle.refusal.specs.declared.Refusal.{Refusal}
use Rattle.refusal.specs.Numbers.{number_of}
use Rattle.collector.specs.declared.TopDocs.{TopDocs}
use Rattle.collector.specs.Collected.{numbers}

unfoldable pub picked_numbers : Result TopDocs Refusal → List ℕ
picked_numbers (Err r) = number_of r ∷ []
picked_numbers (Ok t) = numbers t
