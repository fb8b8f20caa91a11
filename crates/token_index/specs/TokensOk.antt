-- What tokens are known to be where 15 does not hold; the contracts of the writer's inner functions lean on it.
-- Assumes nothing: these are definitions.
use Rattle.std.specs.Prelude.{◌≡◌, List, ℕ, ◌≤◌, ◌<◌}
use Rattle.meaning.specs.Limits.{no_more_docs, max_tokens}
use Rattle.meaning.specs.Tokens.{token_count, token_at}

-- leaves rise, documents rise within a leaf, positions within a document; n documents, m leaves
pub record TokensOk (n m : ℕ) (ws : List ℕ) : Type 0 where
  pub few : token_count ws ≤ max_tokens
  pub leaves : (i j : ℕ) → i ≤ j → j < token_count ws → (token_at ws i).leaf ≤ (token_at ws j).leaf
  pub documents : (i j : ℕ) → i ≤ j → j < token_count ws → (token_at ws i).leaf ≡ (token_at ws j).leaf
      → (token_at ws i).document ≤ (token_at ws j).document
  pub positions : (i j : ℕ) → i ≤ j → j < token_count ws → (token_at ws i).leaf ≡ (token_at ws j).leaf
      → (token_at ws i).document ≡ (token_at ws j).document
      → (token_at ws i).position ≤ (token_at ws j).position
  pub leaf : (i : ℕ) → i < token_count ws → (token_at ws i).leaf < m
  pub document : (i : ℕ) → i < token_count ws → (token_at ws i).document < n
  pub position : (i : ℕ) → i < token_count ws → (token_at ws i).position ≤ no_more_docs
