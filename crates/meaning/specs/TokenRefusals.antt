-- Request 2026-02, "An index made from tokens": its refusals, its answer, and what its outputs hold afterwards. Assumes nothing: these are definitions.
use Rattle.std.specs.Prelude.{Bool, not, ◌&&◌, ◌||◌, List, [], ◌∷◌, ℕ, ◌-◌, ◌*◌, leb, ltb, length, get_or}
use Rattle.meaning.specs.Below.{any_below, count_below}
use Rattle.meaning.specs.Limits.{no_more_docs, max_leaves, max_tokens}
use Rattle.meaning.specs.Lent.{field_count, has_norms}
use Rattle.meaning.specs.Packed.{postings_in, pack_runs}
use Rattle.meaning.specs.Tokens.{token_count, token_at, tokens_of, not_after, fields_lent, token_runs, token_norms, token_postings, token_positions}
use Rattle.meaning.specs.Refusals.{◌when◌, lowest}
use Rattle.meaning.specs.IndexRefusals.{not_whole, wrong1, wrong2}
use Rattle.meaning.specs.Entries.{written, answered}

-- "tokens out of order or naming an absent leaf or document, .. or a position above 2147483647": the i-th
unfoldable pub wrong_token : ℕ → List ℕ → List ℕ → ℕ → Bool
wrong_token n leaf_fields ws i =
    (ltb 0 i && not (not_after (token_at ws (i - 1)) (token_at ws i))) || leb (length leaf_fields) (token_at ws i).leaf || leb n (token_at ws i).document || ltb no_more_docs (token_at ws i).position

-- "a leaf's field absent"
unfoldable pub wrong_leaf_field : List ℕ → List ℕ → ℕ → Bool
wrong_leaf_field fields leaf_fields l = leb (field_count (fields_lent 0 fields)) (get_or leaf_fields l 0)

-- 15, "records not whole or more than 16,777,216, more than 512 leaves, .."
unfoldable pub wrong15 : ℕ → List ℕ → List ℕ → List ℕ → Bool
wrong15 n fields leaf_fields ws =
    not_whole (length ws) 3 || ltb max_tokens (token_count ws) || ltb max_leaves (length leaf_fields) || any_below (length leaf_fields) (wrong_leaf_field fields leaf_fields) || any_below (token_count ws) (wrong_token n leaf_fields ws)

-- the lengths of the outputs that are lent: norm bytes, words of postings, positions and runs
pub record Outputs : Type 0 where
  pub norms : ℕ
  pub postings : ℕ
  pub positions : ℕ
  pub runs : ℕ

-- "The numbers of both": postings, and positions
abbrev pub posting_number : ℕ → List ℕ → List ℕ → List ℕ → ℕ
posting_number n fields leaf_fields ws = postings_in (token_runs n fields leaf_fields (tokens_of ws))

abbrev pub position_number : ℕ → List ℕ → List ℕ → List ℕ → ℕ
position_number n fields leaf_fields ws = length (token_positions n fields leaf_fields (tokens_of ws))

-- 16, "an output too short"
unfoldable pub wrong16 : ℕ → List ℕ → List ℕ → List ℕ → Outputs → Bool
wrong16 n fields leaf_fields ws o =
    ltb o.norms (count_below (field_count (fields_lent n fields)) (has_norms (fields_lent n fields)) * n) || ltb o.postings (3 * posting_number n fields leaf_fields ws) || ltb o.positions (position_number n fields leaf_fields ws) || ltb o.runs (2 * length leaf_fields)

-- "it gives 1, 2, 15 and 16 only"
unfoldable pub write_refusal : ℕ → List ℕ → List ℕ → List ℕ → Outputs → ℕ
write_refusal n fields leaf_fields ws o =
    lowest ((1 when wrong1 (fields_lent n fields)) ∷ (2 when wrong2 (fields_lent n fields)) ∷ (15 when wrong15 n fields leaf_fields ws) ∷ (16 when wrong16 n fields leaf_fields ws o) ∷ [])

-- "the numbers of both answered"
unfoldable pub write_answer : ℕ → List ℕ → List ℕ → List ℕ → Outputs → List ℕ
write_answer n fields leaf_fields ws o =
    answered (write_refusal n fields leaf_fields ws o) (0 ∷ posting_number n fields leaf_fields ws ∷ position_number n fields leaf_fields ws ∷ []) (λ r. r ∷ [])

-- the outputs afterwards, by the refusal's number
unfoldable pub written_norms : ℕ → ℕ → List ℕ → List ℕ → List ℕ → List ℕ → List ℕ
written_norms refusal n fields leaf_fields ws buffer = answered refusal (written (token_norms n fields leaf_fields (tokens_of ws)) buffer) (λ r. buffer)

unfoldable pub written_postings : ℕ → ℕ → List ℕ → List ℕ → List ℕ → List ℕ → List ℕ
written_postings refusal n fields leaf_fields ws buffer = answered refusal (written (token_postings n fields leaf_fields (tokens_of ws)) buffer) (λ r. buffer)

unfoldable pub written_positions : ℕ → ℕ → List ℕ → List ℕ → List ℕ → List ℕ → List ℕ
written_positions refusal n fields leaf_fields ws buffer = answered refusal (written (token_positions n fields leaf_fields (tokens_of ws)) buffer) (λ r. buffer)

unfoldable pub written_runs : ℕ → ℕ → List ℕ → List ℕ → List ℕ → List ℕ → List ℕ
written_runs refusal n fields leaf_fields ws buffer = answered refusal (written (pack_runs (token_runs n fields leaf_fields (tokens_of ws))) buffer) (λ r. buffer)
