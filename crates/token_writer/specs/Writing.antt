-- What the inner functions of the writer need and promise: where a leaf's tokens begin and end, and what is written
-- of them. Assumes nothing: these are definitions.
use Rattle.std.specs.Prelude.{◌≡◌, Bool, false, List, ℕ, ◌+◌, ◌-◌, ◌*◌, ◌≤◌, ◌<◌, length}
use Rattle.std.proofs.lemmas.List.Edits.{sets}
use Rattle.meaning.specs.Below.{list_to}
use Rattle.meaning.specs.Limits.{max_documents}
use Rattle.meaning.specs.Packed.{positions_in, pack_run, pack_runs}
use Rattle.meaning.specs.Tokens.{token_count, token_at, tokens_of, run_for, token_runs, token_postings, token_positions}
use Rattle.meaning.specs.TokenRefusals.{wrong15, posting_number, position_number}
use Rattle.meaning.specs.Entries.{written}
use Rattle.index.specs.declared.postings.TheConstants.{POSTING_WORDS}
use Rattle.token_index.specs.TokensOk.{TokensOk}
use Rattle.token_norms.specs.declared.TheConstants.{RUN_WORDS}
use Rattle.token_writer.specs.declared.postings.Cursor.{Cursor}

-- leaf l's tokens begin at token from: those before are of lower leaves, the others of no lower one
pub record Begins (ws : List ℕ) (l from : ℕ) : Type 0 where
  pub within : from ≤ token_count ws
  pub lower : (k : ℕ) → k < from → (token_at ws k).leaf < l
  pub higher : (k : ℕ) → from ≤ k → k < token_count ws → l ≤ (token_at ws k).leaf

-- leaf l's postings can be written behind so many: n documents, m leaves, p: its field has positions
pub record WritePostingsPre (n m : ℕ) (ws : List ℕ) (l : ℕ) (p : Bool) (from posting position postings : ℕ) : Type 0 where
  pub few_documents : n ≤ max_documents
  pub tokens : TokensOk n m ws
  pub begins : Begins ws l from
  pub few_postings : posting ≤ from
  pub few_positions : position ≤ from
  pub postings_fit : POSTING_WORDS * (posting + length (run_for p n (tokens_of ws) l)) ≤ postings

-- and they have been; its positions are those of its tokens in turn, and none in a field without positions
pub record WritePostingsPost (n : ℕ) (ws : List ℕ) (l : ℕ) (p : Bool) (from posting position : ℕ)
    (postings postings' : List ℕ) (r : Cursor) : Type 0 where
  pub begins : Begins ws (l + 1) r.token
  pub few_postings : r.posting ≤ r.token
  pub few_positions : r.position ≤ r.token
  pub posting_end : r.posting ≡ posting + length (run_for p n (tokens_of ws) l)
  pub position_end : r.position ≡ position + length (positions_in (run_for p n (tokens_of ws) l))
  pub written : postings' ≡ sets postings (POSTING_WORDS * posting) (pack_run p position (run_for p n (tokens_of ws) l))
  pub within : from + (r.position - position) ≤ token_count ws
  pub places : positions_in (run_for p n (tokens_of ws) l)
      ≡ list_to (r.position - position) (λ j. (token_at ws (from + j)).position)

-- leaf l's run can be written behind so many postings and positions: n documents, m leaves, p: its field has positions
pub record WriteRunPre (n m : ℕ) (ws : List ℕ) (l : ℕ) (p : Bool)
    (from posting position postings positions : ℕ) : Type 0 where
  pub few_documents : n ≤ max_documents
  pub tokens : TokensOk n m ws
  pub begins : Begins ws l from
  pub few_postings : posting ≤ from
  pub few_positions : position ≤ from
  pub postings_fit : POSTING_WORDS * (posting + length (run_for p n (tokens_of ws) l)) ≤ postings
  pub positions_fit : position + length (positions_in (run_for p n (tokens_of ws) l)) ≤ positions

-- and it has been
pub record WriteRunPost (n : ℕ) (ws : List ℕ) (l : ℕ) (p : Bool) (posting position : ℕ)
    (postings positions postings' positions' : List ℕ) (r : Cursor) : Type 0 where
  pub begins : Begins ws (l + 1) r.token
  pub few_postings : r.posting ≤ r.token
  pub few_positions : r.position ≤ r.token
  pub posting_end : r.posting ≡ posting + length (run_for p n (tokens_of ws) l)
  pub position_end : r.position ≡ position + length (positions_in (run_for p n (tokens_of ws) l))
  pub written : postings' ≡ sets postings (POSTING_WORDS * posting) (pack_run p position (run_for p n (tokens_of ws) l))
  pub placed : positions' ≡ sets positions position (positions_in (run_for p n (tokens_of ws) l))

-- all runs can be written: 1 does not hold, nor 15, nor 16 of these outputs
pub record RunsPre (n : ℕ) (fields leaf_fields ws : List ℕ) (postings positions runs : ℕ) : Type 0 where
  pub few_documents : n ≤ max_documents
  pub right : wrong15 n fields leaf_fields ws ≡ false
  pub postings_fit : POSTING_WORDS * posting_number n fields leaf_fields ws ≤ postings
  pub positions_fit : position_number n fields leaf_fields ws ≤ positions
  pub runs_fit : RUN_WORDS * length leaf_fields ≤ runs

-- and they have been
pub record RunsPost (n : ℕ)
    (fields leaf_fields ws postings positions runs postings' positions' runs' : List ℕ) : Type 0 where
  pub postings_are : postings' ≡ written (token_postings n fields leaf_fields (tokens_of ws)) postings
  pub positions_are : positions' ≡ written (token_positions n fields leaf_fields (tokens_of ws)) positions
  pub runs_are : runs' ≡ written (pack_runs (token_runs n fields leaf_fields (tokens_of ws))) runs
