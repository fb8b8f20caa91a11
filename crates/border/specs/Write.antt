-- How the token writer answers at the border: the refusal's number is returned, and the numbers stand in a lent slice,
-- which is one output more for 16. Assumes nothing: these are definitions.
use Rattle.std.specs.Prelude.{◌≡◌, ◌||◌, List, [], ◌∷◌, ℕ, ltb, length}
use Rattle.meaning.specs.Tokens.{fields_lent}
use Rattle.meaning.specs.Refusals.{◌when◌, lowest}
use Rattle.meaning.specs.IndexRefusals.{wrong1, wrong2}
use Rattle.meaning.specs.TokenRefusals.{Outputs, wrong15, wrong16, posting_number, position_number, written_norms, written_postings, written_positions, written_runs}
use Rattle.meaning.specs.Entries.{written, answered}
use Rattle.token_writer.specs.Answers.{outputs}

-- how many postings, and how many positions
abbrev pub write_numbers : ℕ → List ℕ → List ℕ → List ℕ → List ℕ
write_numbers n fields leaf_fields ws =
    posting_number n fields leaf_fields ws ∷ position_number n fields leaf_fields ws ∷ []

-- the refusals with a slice of so many places for the answer
unfoldable pub border_write : ℕ → List ℕ → List ℕ → List ℕ → Outputs → ℕ → ℕ
border_write n fields leaf_fields ws o answer =
    lowest ((1 when wrong1 (fields_lent n fields)) ∷ (2 when wrong2 (fields_lent n fields))
    ∷ (15 when wrong15 n fields leaf_fields ws) ∷ (16 when (wrong16 n fields leaf_fields ws o || ltb answer 2)) ∷ [])

-- what the entry promises: the number that it returns, and by it its outputs and `answer`, before and after
pub record LotWritesIndex (n : ℕ) (fields leaf_fields ws norms postings positions runs answer : List ℕ)
    (norms' postings' positions' runs' answer' : List ℕ) (r : ℕ) : Type 0 where
  pub refusal : r ≡ border_write n fields leaf_fields ws
      (outputs (length norms) (length postings) (length positions) (length runs)) (length answer)
  pub norm_bytes : norms' ≡ written_norms r n fields leaf_fields ws norms
  pub posting_words : postings' ≡ written_postings r n fields leaf_fields ws postings
  pub position_words : positions' ≡ written_positions r n fields leaf_fields ws positions
  pub run_words : runs' ≡ written_runs r n fields leaf_fields ws runs
  pub numbers : answer' ≡ answered r (written (write_numbers n fields leaf_fields ws) answer) (λ m. answer)
