-- What each answer of the writer says in the request's numbers: a refusal's number alone, or 0 and the numbers of
-- postings and positions; and what the writer promises. Assumes nothing: these are definitions.
use Rattle.std.specs.Prelude.{◌≡◌, List, [], ◌∷◌, ℕ, length, Result, Ok, Err}
use Rattle.meaning.specs.TokenRefusals.{Outputs, write_refusal, write_answer, written_norms, written_postings, written_positions, written_runs}
use Rattle.refusal.specs.declared.Refusal.{Refusal}
use Rattle.refusal.specs.Numbers.{number_of}
use Rattle.tokens.specs.declared.Numbers.{Numbers}

unfoldable pub written_numbers : Result Numbers Refusal → List ℕ
written_numbers (Err r) = number_of r ∷ []
written_numbers (Ok n) = 0 ∷ n.postings ∷ n.positions ∷ []

-- the lengths of the outputs
abbrev pub outputs : ℕ → ℕ → ℕ → ℕ → Outputs
outputs norms postings positions runs =
    record { norms = norms; postings = postings; positions = positions; runs = runs }

abbrev pub outputs_of : List ℕ → List ℕ → List ℕ → List ℕ → Outputs
outputs_of norms postings positions runs = outputs (length norms) (length postings) (length positions) (length runs)

-- what the writer promises: its answer, and its outputs before and after, by the refusal's number
pub record WritesIndex (n : ℕ)
    (fields leaf_fields ws norms postings positions runs norms' postings' positions' runs' : List ℕ)
    (r : Result Numbers Refusal) : Type 0 where
  pub answer : written_numbers r ≡ write_answer n fields leaf_fields ws (outputs_of norms postings positions runs)
  pub norm_bytes : norms' ≡ written_norms
      (write_refusal n fields leaf_fields ws (outputs_of norms postings positions runs))
      n fields leaf_fields ws norms
  pub posting_words : postings' ≡ written_postings
      (write_refusal n fields leaf_fields ws (outputs_of norms postings positions runs))
      n fields leaf_fields ws postings
  pub position_words : positions' ≡ written_positions
      (write_refusal n fields leaf_fields ws (outputs_of norms postings positions runs))
      n fields leaf_fields ws positions
  pub run_words : runs' ≡ written_runs
      (write_refusal n fields leaf_fields ws (outputs_of norms postings positions runs))
      n fields leaf_fields ws runs
