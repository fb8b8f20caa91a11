-- Document 01, "Meaning of the tree": which documents a query takes. Assumes nothing: these are definitions.
use Rattle.std.specs.Prelude.{Bool, true, false, not, cond, ◌&&◌, ◌||◌, List, [], ◌∷◌, ℕ, ◌+◌, max, leb, ltb}
use Rattle.meaning.specs.Lent.{Index}
use Rattle.meaning.specs.Postings.{posting_at, found}
use Rattle.meaning.specs.Range.{in_range}
use Rattle.meaning.specs.Phrase.{phrase_frequency}
use Rattle.meaning.specs.Query.{Occur, is_required, is_should, is_must_not, Tree, term, phrase, boolean, range, match_all, constant_score, boost, match_none, Clauses, empty, clause, has_required}

-- of a clause of a Boolean: its occurrence, and whether it takes the document (or, below, whether it has a scorer)
pub record Verdict : Type 0 where
  pub occur : Occur
  pub holds : Bool

-- "every Must and Filter takes"
unfoldable pub required_hold : List Verdict → Bool
required_hold [] = true
required_hold (v ∷ vs) = (not (is_required v.occur) || v.holds) && required_hold vs

-- not: "no MustNot takes"
unfoldable pub some_prohibited : List Verdict → Bool
some_prohibited [] = false
some_prohibited (v ∷ vs) = (is_must_not v.occur && v.holds) || some_prohibited vs

-- how many "Should clauses take"
unfoldable pub shoulds_holding : List Verdict → ℕ
shoulds_holding [] = 0
shoulds_holding (v ∷ vs) = cond (is_should v.occur && v.holds) 1 0 + shoulds_holding vs

-- "at least msm Should clauses take; without Must and Filter, at least max(1, msm)"
unfoldable pub shoulds_needed : ℕ → Clauses → ℕ
shoulds_needed msm cs = cond (has_required cs) msm (max 1 msm)

-- "Boolean takes a document that every Must and Filter takes, no MustNot takes, and at least msm Should clauses take"
unfoldable pub boolean_takes : ℕ → List Verdict → Bool
boolean_takes needed vs = required_hold vs && not (some_prohibited vs) && leb needed (shoulds_holding vs)

unfoldable mutual
  -- "Term takes its postings' documents, Phrase those where its frequency is above 0, Range those in it, MatchAll all, MatchNone none, ConstantScore and Boost their child's"
  pub takes : Index → Tree → ℕ → Bool
  takes ix (term l) d = found (posting_at ix l d)
  takes ix (phrase f ts) d = ltb 0 (phrase_frequency ix ts d)
  takes ix (boolean msm cs) d = boolean_takes (shoulds_needed msm cs) (takes_of ix cs d)
  takes ix (range r) d = ltb d ix.max_doc && in_range ix r d
  takes ix match_all d = ltb d ix.max_doc
  takes ix (constant_score t) d = takes ix t d
  takes ix (boost b t) d = takes ix t d
  takes ix match_none d = false

  -- of each clause, whether it takes the document
  pub takes_of : Index → Clauses → ℕ → List Verdict
  takes_of ix empty d = []
  takes_of ix (clause o t cs) d = record { occur = o; holds = takes ix t d } ∷ takes_of ix cs d
