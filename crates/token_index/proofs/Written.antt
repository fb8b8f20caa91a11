-- The index that is written from tokens holds the leaves' runs, packed; nothing is asked of the tokens.
-- Assumes nothing.
use mathlib.Core.Path.{◌≡◌, refl, sym, ap, subst, ◌∙◌}
use mathlib.Core.Bool.{Bool, true, false, cond}
use mathlib.Core.List.{List, [], ◌∷◌, map}
use Prim.Native.Nat.{ℕ, ◌<◌}
use native.Mathlib.Omega.{arith}
use lib.ListN.{length, get_or}
use Rattle.meaning.specs.Below.{list_below, list_to}
use Rattle.meaning.specs.Lent.{Index, has_positions, leaf_count, leaf_field}
use Rattle.meaning.specs.Packed.{Posting, run_of, pack_postings}
use Rattle.meaning.specs.Tokens.{Token, tokens_of, positional, positions_at, posting_for, run_for, token_runs, token_postings, token_positions, index_of_tokens}
use Rattle.meaning.proofs.Below.{length-list_to, get_or-list_to}
use Rattle.packed.specs.Packs.{Packable, Packs}
use Rattle.packed.proofs.Back.{packed-count, packed-field, packed-back}
use Rattle.token_index.proofs.Runs.{is_in}

-- ---- the runs
pub runs_number : (n : ℕ) (fields leaf_fields : List ℕ) (ts : List Token) → length (token_runs n fields leaf_fields ts) ≡ length leaf_fields
unfolding token_runs
runs_number n fields leaf_fields ts = length-list_to (length leaf_fields) (λ l. run_for (positional fields leaf_fields l) n ts l)

pub runs-at : (n : ℕ) (fields leaf_fields : List ℕ) (ts : List Token) (l : ℕ)
    → l < length leaf_fields
    → get_or (token_runs n fields leaf_fields ts) l [] ≡ run_for (positional fields leaf_fields l) n ts l
unfolding token_runs
runs-at n fields leaf_fields ts l h = get_or-list_to (length leaf_fields) (λ k. run_for (positional fields leaf_fields k) n ts k) [] l h

-- each posting has as many positions as its frequency says, or none in a field without
pub run-packable : (p : Bool) (n : ℕ) (ts : List Token) (l : ℕ) → Packable p (run_for p n ts l)
unfolding run_for
run-packable p n ts l = each (list_below n (is_in ts l))
  where
    number : (b : Bool) (xs : List ℕ) → length (cond b xs []) ≡ cond b (length xs) 0
    number true xs = refl
    number false xs = refl

    each : (ds : List ℕ) → Packable p (map (posting_for p ts l) ds)
    each [] = tt
    each (d ∷ ds) = (number p (positions_at ts l d), each ds)

-- ---- the index
module _ (n : ℕ) (fields leaf_fields ws idfs live columns values : List ℕ) where
  abbrev ix : Index
  ix = index_of_tokens n fields ws leaf_fields idfs live columns values

  abbrev rs : List (List Posting)
  rs = token_runs n fields leaf_fields (tokens_of ws)

  pub written-packs : Packs (index_of_tokens n fields ws leaf_fields idfs live columns values) leaf_fields idfs (token_runs n fields leaf_fields (tokens_of ws))
  unfolding index_of_tokens token_postings token_positions
  written-packs =
      record {
        leaves = refl;
        postings = ap (λ (k : ℕ). pack_postings (list_to k (positional fields leaf_fields)) 0 rs) (sym (runs_number n fields leaf_fields (tokens_of ws)));
        positions = refl;
        packable =
            λ l h.
            subst (Packable (positional fields leaf_fields l)) (sym (runs-at n fields leaf_fields (tokens_of ws) l (omega (arith, h, runs_number n fields leaf_fields (tokens_of ws)))))
            (run-packable (positional fields leaf_fields l) n (tokens_of ws) l);
      }

  pub written-leaves : leaf_count (index_of_tokens n fields ws leaf_fields idfs live columns values) ≡ length leaf_fields
  written-leaves = packed-count ix leaf_fields idfs rs written-packs ∙ runs_number n fields leaf_fields (tokens_of ws)

  -- ---- leaf l
  module _ (l : ℕ) (below : l < length leaf_fields) where
    pub in-runs : l < length (token_runs n fields leaf_fields (tokens_of ws))
    in-runs = omega (arith, below, runs_number n fields leaf_fields (tokens_of ws))

    pub written-field : leaf_field (index_of_tokens n fields ws leaf_fields idfs live columns values) l ≡ get_or leaf_fields l 0
    written-field = packed-field ix leaf_fields idfs rs written-packs l in-runs

    pub written-positional : has_positions (index_of_tokens n fields ws leaf_fields idfs live columns values) (leaf_field (index_of_tokens n fields ws leaf_fields idfs live columns values) l) ≡ positional fields leaf_fields l
    unfolding index_of_tokens
    written-positional = ap (has_positions ix) written-field

    pub written-run : run_of (index_of_tokens n fields ws leaf_fields idfs live columns values) l ≡ run_for (positional fields leaf_fields l) n (tokens_of ws) l
    written-run = packed-back ix leaf_fields idfs rs written-packs l in-runs ∙ runs-at n fields leaf_fields (tokens_of ws) l below
