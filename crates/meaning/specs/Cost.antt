-- Document 01, "Meaning of the tree": the cost of a node. Assumes nothing: these are definitions.
use Rattle.std.specs.Prelude.{Bool, cond, ◌&&◌, List, [], ◌∷◌, ◌++◌, map, ℕ, ◌+◌, min, ltb, length}
use Rattle.meaning.specs.Lent.{Index, leaf_number}
use Rattle.meaning.specs.Range.{range_documents}
use Rattle.meaning.specs.Query.{Occur, is_required, is_should, Tree, term, phrase, boolean, range, match_all, constant_score, boost, match_none, Clauses, empty, clause, has_required}
use Rattle.meaning.specs.Scorer.{has_scorer}

-- of a clause: its occurrence, whether it has a scorer, and its cost
pub record ClauseCost : Type 0 where
  pub occur : Occur
  pub present : Bool
  pub cost : ℕ

-- the least of some costs
unfoldable pub least : List ℕ → ℕ
least [] = 0
least (x ∷ []) = x
least (x ∷ y ∷ ys) = min x (least (y ∷ ys))

-- the costs of the clauses that have a scorer and one of the occurrences asked for, in clause order
unfoldable pub costs_of : (Occur → Bool) → List ClauseCost → List ℕ
costs_of p [] = []
costs_of p (c ∷ cs) = cond (p c.occur && c.present) (c.cost ∷ []) [] ++ costs_of p cs

unfoldable pub sum : List ℕ → ℕ
sum [] = 0
sum (x ∷ xs) = x + sum xs

-- "disjunction, the sum"; a clause without a scorer "adds no cost"
unfoldable pub disjunction_cost : List ClauseCost → ℕ
disjunction_cost cs = sum (costs_of is_should cs)

-- "conjunction, the least": of Must and Filter, and, with msm above 0, the Should group as one more
unfoldable pub conjunction_cost : ℕ → List ClauseCost → ℕ
conjunction_cost msm cs = least (costs_of is_required cs ++ cond (ltb 0 msm) (disjunction_cost cs ∷ []) [])

unfoldable mutual
  -- "term, its postings; range, its documents .. the others as src/search/scorer.rs has them"
  pub cost : Index → Tree → ℕ
  cost ix (term l) = leaf_number ix l
  cost ix (phrase f ts) = least (map (λ t. leaf_number ix t.leaf) ts)
  cost ix (boolean msm cs) = cond (has_required cs) (conjunction_cost msm (costs ix cs)) (disjunction_cost (costs ix cs))
  cost ix (range r) = length (range_documents ix r)
  cost ix match_all = ix.max_doc
  cost ix (constant_score t) = cost ix t
  cost ix (boost b t) = cost ix t
  cost ix match_none = 0

  -- of each clause, in clause order
  pub costs : Index → Clauses → List ClauseCost
  costs ix empty = []
  costs ix (clause o t cs) = record { occur = o; present = has_scorer ix t; cost = cost ix t } ∷ costs ix cs
