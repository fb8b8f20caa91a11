-- Document 01, "Meaning of the tree": which node has a scorer, as `scorer` in src/search/searcher.rs says. Assumes nothing: these are definitions.
use Rattle.std.specs.Prelude.{Bool, true, false, ◌&&◌, List, [], ◌∷◌, ℕ, leb, ltb}
use Rattle.meaning.specs.Lent.{Index, leaf_number}
use Rattle.meaning.specs.Phrase.{PhraseTerm}
use Rattle.meaning.specs.Query.{Tree, term, phrase, boolean, range, match_all, constant_score, boost, match_none, Clauses, empty, clause}
use Rattle.meaning.specs.Takes.{Verdict, required_hold, shoulds_holding, shoulds_needed}

-- "A leaf without postings .. has no scorer"
abbrev pub has_postings : Index → ℕ → Bool
has_postings ix l = ltb 0 (leaf_number ix l)

-- "or a phrase holding one"
unfoldable pub all_have_postings : Index → List PhraseTerm → Bool
all_have_postings ix [] = true
all_have_postings ix (t ∷ ts) = has_postings ix t.leaf && all_have_postings ix ts

unfoldable mutual
  -- a Boolean has none where a Must or Filter has none, or where too few Shoulds have one
  pub has_scorer : Index → Tree → Bool
  has_scorer ix (term l) = has_postings ix l
  has_scorer ix (phrase f ts) = all_have_postings ix ts
  has_scorer ix (boolean msm cs) = required_hold (scorers_of ix cs) && leb (shoulds_needed msm cs) (shoulds_holding (scorers_of ix cs))
  has_scorer ix (range r) = true
  has_scorer ix match_all = true
  has_scorer ix (constant_score t) = has_scorer ix t
  has_scorer ix (boost b t) = has_scorer ix t
  has_scorer ix match_none = false

  -- of each clause, whether it has a scorer
  pub scorers_of : Index → Clauses → List Verdict
  scorers_of ix empty = []
  scorers_of ix (clause o t cs) = record { occur = o; holds = has_scorer ix t } ∷ scorers_of ix cs
