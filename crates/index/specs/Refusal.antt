-- The numbers 1 to 6 of an index. Assumes nothing: these are definitions.
use Rattle.std.specs.Prelude.{List, [], ◌∷◌, ℕ}
use Rattle.meaning.specs.Lent.{Index}
use Rattle.meaning.specs.Refusals.{Condition, ◌when◌, lowest}
use Rattle.meaning.specs.IndexRefusals.{wrong1, wrong2, wrong3, wrong4, wrong5, wrong6}

-- the loader's numbers with their conditions, ascending
abbrev pub index_conditions : Index → List Condition
index_conditions ix =
    (1 when wrong1 ix) ∷ (2 when wrong2 ix) ∷ (3 when wrong3 ix) ∷ (4 when wrong4 ix) ∷ (5 when wrong5 ix)
    ∷ (6 when wrong6 ix) ∷ []

-- the lowest whose condition holds, and 0 where none does
abbrev pub index_refusal : Index → ℕ
index_refusal ix = lowest (index_conditions ix)
