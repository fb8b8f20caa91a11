-- The numbers 7 to 10 of a query beside an index. Assumes nothing: these are definitions.
use Rattle.std.specs.Prelude.{List, [], ◌∷◌, ℕ}
use Rattle.meaning.specs.Lent.{Index}
use Rattle.meaning.specs.Refusals.{Condition, ◌when◌, lowest}
use Rattle.meaning.specs.QueryRefusals.{wrong7, wrong8, wrong9, wrong10}

-- the numbers of the query's author with their conditions, ascending
abbrev pub query_conditions : Index → List ℕ → List Condition
query_conditions ix q =
    (7 when wrong7 q) ∷ (8 when wrong8 ix q) ∷ (9 when wrong9 q) ∷ (10 when wrong10 ix q) ∷ []

-- the lowest whose condition holds, and 0 where none does
abbrev pub query_refusal : Index → List ℕ → ℕ
query_refusal ix q = lowest (query_conditions ix q)
