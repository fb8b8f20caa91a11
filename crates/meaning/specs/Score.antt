-- Document 01, "Meaning of the tree" and "BM25 and the hits": the score that a query gives a document.
-- It is total: a Must contributes whether or not it takes the document, and a term without a posting there has frequency 0.
-- Assumes nothing: these are definitions.
use Rattle.std.specs.Prelude.{Bool, true, false, cond, ◌&&◌, List, [], ◌∷◌, ◌++◌, map, ℕ, eqb, leb, pos, Float}
use Rattle.std.specs.Float.{binary32, binary64}
use Rattle.std.specs.Float.Ieee.{add, mul, of_bits, of_int}
use Rattle.meaning.specs.Lent.{Index, field_average, leaf_field, leaf_idf, norm_byte}
use Rattle.meaning.specs.Ieee754.{zero_float, narrow, narrowed_sum}
use Rattle.meaning.specs.Bm25.{length_of, inverse, weight, bm25}
use Rattle.meaning.specs.Postings.{posting_at, frequency_of}
use Rattle.meaning.specs.Phrase.{PhraseTerm, phrase_frequency}
use Rattle.meaning.specs.Query.{Occur, must, should, must_not, filter, is_must, is_should, Tree, term, phrase, boolean, range, match_all, constant_score, boost, match_none, Clauses, empty, clause, has_required}
use Rattle.meaning.specs.Takes.{takes}
use Rattle.meaning.specs.Cost.{cost, costs, disjunction_cost}

-- the score of a frequency in a document's field, at a weight; "b is 1 without norms"
unfoldable pub field_score : Index → ℕ → Float → ℕ → ℕ → Float
field_score ix f w frequency d =
    bm25 w (of_int binary32 (pos frequency)) (inverse (of_bits binary32 (field_average ix f)) (length_of (norm_byte ix f d)))

-- a term's score
unfoldable pub term_score : Index → ℕ → Float → ℕ → Float
term_score ix l b d =
    field_score ix (leaf_field ix l) (weight b (of_bits binary32 (leaf_idf ix l))) (frequency_of ix l (posting_at ix l d)) d

-- "a phrase's idf is its leaves' idf added in f64 from 0 in record order, then narrowed"
unfoldable pub phrase_idf : Index → List PhraseTerm → Float
phrase_idf ix ts = narrowed_sum (map (λ t. of_bits binary32 (leaf_idf ix t.leaf)) ts)

-- a phrase's score
unfoldable pub phrase_score : Index → ℕ → List PhraseTerm → Float → ℕ → Float
phrase_score ix f ts b d = field_score ix f (weight b (phrase_idf ix ts)) (phrase_frequency ix ts d) d

-- "Boosts multiply on the way down in f32 from 1"
abbrev pub boosted : Float → ℕ → Float
boosted b v = mul binary32 b (of_bits binary32 v)

-- "Must and Should pass the boost on, Filter and MustNot pass 0"
abbrev pub passed : Occur → Float → Float
passed must b = b
passed should b = b
passed must_not b = zero_float
passed filter b = zero_float

-- a scoring requirement: its cost and its score
pub record Requirement : Type 0 where
  pub cost : ℕ
  pub score : Float

-- before the first of a higher cost or an equal one
unfoldable pub insert_by_cost : Requirement → List Requirement → List Requirement
insert_by_cost r [] = r ∷ []
insert_by_cost r (x ∷ xs) = cond (leb r.cost x.cost) (r ∷ x ∷ xs) (x ∷ insert_by_cost r xs)

-- "in ascending cost, clause order among equals"
unfoldable pub by_cost : List Requirement → List Requirement
by_cost [] = []
by_cost (r ∷ rs) = insert_by_cost r (by_cost rs)

-- "added in f64 from 0 in ascending cost .. then narrowed to f32"
unfoldable pub required_score : List Requirement → Float
required_score rs = narrowed_sum (map (λ r. r.score) (by_cost rs))

-- of a clause: its occurrence, its cost, whether it takes the document, and its score there
pub record ClauseScore : Type 0 where
  pub occur : Occur
  pub cost : ℕ
  pub matches : Bool
  pub score : Float

-- "Must scores", in clause order
unfoldable pub must_scores : List ClauseScore → List Requirement
must_scores [] = []
must_scores (c ∷ cs) = cond (is_must c.occur) (record { cost = c.cost; score = c.score } ∷ []) [] ++ must_scores cs

-- the scores of the Shoulds that take the document, in clause order
unfoldable pub should_scores : List ClauseScore → List Float
should_scores [] = []
should_scores (c ∷ cs) = cond (is_should c.occur && c.matches) (c.score ∷ []) [] ++ should_scores cs

-- "Should scores add the same way in clause order"
unfoldable pub group_score : List ClauseScore → Float
group_score cs = narrowed_sum (should_scores cs)

-- a Boolean's score, by whether "msm 0 and something required" holds
unfoldable pub boolean_score : Bool → ℕ → List ClauseScore → Float
-- "the Should sum of that document is added to the required score in f64 and narrowed again"
boolean_score true group_cost cs = narrow (add binary64 (required_score (must_scores cs)) (group_score cs))
-- "with msm above 0, or without Must and Filter, the Should group's score as one more .. the group last among equals"
boolean_score false group_cost cs = required_score (must_scores cs ++ (record { cost = group_cost; score = group_score cs } ∷ []))

unfoldable mutual
  -- "ConstantScore passes 0 and keeps its own; Range and MatchAll score the boost that reaches them"
  pub score : Index → Tree → Float → ℕ → Float
  score ix (term l) b d = term_score ix l b d
  score ix (phrase f ts) b d = phrase_score ix f ts b d
  score ix (boolean msm cs) b d = boolean_score (has_required cs && eqb msm 0) (disjunction_cost (costs ix cs)) (scores ix cs b d)
  score ix (range r) b d = b
  score ix match_all b d = b
  score ix (constant_score t) b d = b
  score ix (boost v t) b d = score ix t (boosted b v) d
  score ix match_none b d = zero_float

  -- of each clause, in clause order
  pub scores : Index → Clauses → Float → ℕ → List ClauseScore
  scores ix empty b d = []
  scores ix (clause o t cs) b d =
      record { occur = o; cost = cost ix t; matches = takes ix t d; score = score ix t (passed o b) d } ∷ scores ix cs b d
