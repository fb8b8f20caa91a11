-- What each answer of Search and Page says in document 01's numbers: a refusal's number alone, or 0 and the entry's
-- values. Assumes nothing: these are definitions.
use Rattle.std.specs.Prelude.{List, [], ◌∷◌, ℕ, Result, Ok, Err}
use Rattle.collector.specs.Collected.{numbers}
use Rattle.collector.specs.declared.TopDocs.{TopDocs}
use Rattle.walk.specs.declared.Listed.{Listed}
use Rattle.refusal.specs.declared.Refusal.{Refusal}
use Rattle.refusal.specs.Numbers.{number_of}

unfoldable pub searched_numbers : Result TopDocs Refusal → List ℕ
searched_numbers (Err r) = number_of r ∷ []
searched_numbers (Ok t) = numbers t

unfoldable pub paged_numbers : Result Listed Refusal → List ℕ
paged_numbers (Err r) = number_of r ∷ []
paged_numbers (Ok l) = 0 ∷ l.given ∷ l.next ∷ []

-- how many of n records a call with this answer used
abbrev pub used : {T : Type 0} → Result T Refusal → ℕ → ℕ
used (Err _) n = 0
used (Ok _) n = n
