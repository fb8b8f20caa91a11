-- The tree of scorers that `scorer` in src/search/searcher.rs makes: boosts folded in, nodes without a scorer left out,
-- required children cheapest first.
-- Assumes nothing: these are definitions.
use Rattle.std.specs.Prelude.{Bool, true, false, not, cond, ◌&&◌, ◌||◌, List, [], ◌∷◌, ◌++◌, ℕ, zero, suc, ◌+◌, leb, ltb, Float}
use Rattle.std.proofs.Math.Option.{Option, none, some}
use Rattle.std.specs.Float.{binary64}
use Rattle.std.specs.Float.Ieee.{add}
use Rattle.meaning.specs.Lent.{Index, leaf_field}
use Rattle.meaning.specs.Ieee754.{zero_float, narrow, narrowed_sum}
use Rattle.meaning.specs.Postings.{posting_at, found, frequency_of}
use Rattle.meaning.specs.Range.{NumericRange, in_range}
use Rattle.meaning.specs.Phrase.{PhraseTerm, phrase_frequency}
use Rattle.meaning.specs.Score.{field_score}

-- what a scorer without children matches
pub data Leaf : Type 0 where
  nothing : Leaf
  term : ℕ → Leaf
  phrase : ℕ → List PhraseTerm → Leaf
  range : NumericRange → Leaf
  everything : Leaf

-- how it scores: the same for each document, or BM25 at a weight
pub data Scoring : Type 0 where
  constant : Float → Scoring
  weighted : Float → Scoring

-- where a Boolean's Should group joins the sum: as one more, after so many of the required, or after the required sum
-- is narrowed
pub data Joining : Type 0 where
  one_more : ℕ → Joining
  afterwards : Joining

-- a Boolean's score where it is constant, where its group joins, how many of the optional must match; the required,
-- cheapest first, the optional in clause order, the prohibited
mutual
  pub data Scorer : Type 0 where
    leaf : Leaf → Scoring → Scorer
    boolean : Option Float → Joining → ℕ → Scorers → Scorers → Scorers → Scorer

  -- each with whether it scores
  pub data Scorers : Type 0 where
    end : Scorers
    more : Bool → Scorer → Scorers → Scorers

-- ---- which documents match
unfoldable pub leaf_matches : Index → Leaf → ℕ → Bool
leaf_matches ix nothing d = false
leaf_matches ix (term l) d = found (posting_at ix l d)
leaf_matches ix (phrase f ts) d = ltb 0 (phrase_frequency ix ts d)
leaf_matches ix (range r) d = ltb d ix.max_doc && in_range ix r d
leaf_matches ix everything d = ltb d ix.max_doc

unfoldable mutual
  pub matches : Index → Scorer → ℕ → Bool
  matches ix (leaf l s) d = leaf_matches ix l d
  matches ix (boolean c j need rs os ps) d =
      all_match ix rs d && not (any_matches ix ps d) && leb need (matching ix os d)

  pub all_match : Index → Scorers → ℕ → Bool
  all_match ix end d = true
  all_match ix (more b s ss) d = matches ix s d && all_match ix ss d

  pub any_matches : Index → Scorers → ℕ → Bool
  any_matches ix end d = false
  any_matches ix (more b s ss) d = matches ix s d || any_matches ix ss d

  -- how many match
  pub matching : Index → Scorers → ℕ → ℕ
  matching ix end d = 0
  matching ix (more b s ss) d = cond (matches ix s d) 1 0 + matching ix ss d

-- ---- the score of a document that matches
unfoldable pub leaf_score : Index → Leaf → Scoring → ℕ → Float
leaf_score ix l (constant c) d = c
leaf_score ix nothing (weighted w) d = zero_float
leaf_score ix (term l) (weighted w) d =
    field_score ix (leaf_field ix l) w (frequency_of ix l (posting_at ix l d)) d
leaf_score ix (phrase f ts) (weighted w) d = field_score ix f w (phrase_frequency ix ts d) d
leaf_score ix (range r) (weighted w) d = zero_float
leaf_score ix everything (weighted w) d = zero_float

-- of a required child: whether it scores, and its score
pub record Scored : Type 0 where
  pub scores : Bool
  pub score : Float

-- the scores of those that score
unfoldable pub scoring : List Scored → List Float
scoring [] = []
scoring (x ∷ xs) = cond x.scores (x.score ∷ []) [] ++ scoring xs

-- the same with the group's score after the first n children
unfoldable pub with_group : ℕ → Float → List Scored → List Float
with_group zero g xs = g ∷ scoring xs
with_group (suc n) g [] = g ∷ []
with_group (suc n) g (x ∷ xs) = cond x.scores (x.score ∷ []) [] ++ with_group n g xs

-- a Boolean's score from its required children's and its group's
unfoldable pub joined_score : Joining → List Scored → Float → Float
joined_score (one_more n) xs g = narrowed_sum (with_group n g xs)
joined_score afterwards xs g = narrow (add binary64 (narrowed_sum (scoring xs)) g)

unfoldable mutual
  pub scorer_score : Index → Scorer → ℕ → Float
  scorer_score ix (leaf l s) d = leaf_score ix l s d
  scorer_score ix (boolean (some c) j need rs os ps) d = c
  scorer_score ix (boolean none j need rs os ps) d =
      joined_score j (required_scores ix rs d) (narrowed_sum (optional_scores ix os d))

  pub required_scores : Index → Scorers → ℕ → List Scored
  required_scores ix end d = []
  required_scores ix (more b s ss) d =
      record { scores = b; score = scorer_score ix s d } ∷ required_scores ix ss d

  -- of the optional that match
  pub optional_scores : Index → Scorers → ℕ → List Float
  optional_scores ix end d = []
  optional_scores ix (more b s ss) d =
      cond (matches ix s d) (scorer_score ix s d ∷ []) [] ++ optional_scores ix ss d
