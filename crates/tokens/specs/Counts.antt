-- How many postings and positions a list of tokens fills, counted token by token.
-- Assumes nothing: these are definitions.
use Rattle.std.specs.Prelude.{◌≡◌, Bool, not, ◌||◌, List, ℕ, ◌-◌, eqb}
use Rattle.meaning.specs.Below.{count_below}
use Rattle.meaning.specs.Tokens.{token_count, token_at, positional}
use Rattle.tokens.specs.declared.Numbers.{Numbers}

-- a posting begins at the first token, and where the leaf or the document differs from the token before
unfoldable pub begins_posting : List ℕ → ℕ → Bool
begins_posting ws i =
    eqb i 0 || not (eqb (token_at ws i).leaf (token_at ws (i - 1)).leaf)
    || not (eqb (token_at ws i).document (token_at ws (i - 1)).document)

-- the numbers are those of the tokens that begin a posting, and of those that have a position
pub record Counts (fields leaf_fields ws : List ℕ) (r : Numbers) : Type 0 where
  pub postings : r.postings ≡ count_below (token_count ws) (begins_posting ws)
  pub positions : r.positions ≡ count_below (token_count ws) (λ i. positional fields leaf_fields (token_at ws i).leaf)
