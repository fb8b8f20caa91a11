-- What the functions of this crate and of the refusals above it are proved equal to, where document 01 has no name for
-- it. Assumes nothing: these are definitions.
use Rattle.std.specs.Prelude.{cond, List, ℕ, Float, Option, Some, None}
use Rattle.std.proofs.Math.Option.{Option as Meant, none, some}
use Rattle.meaning.specs.Query.{record_children, Kind, children_fit, Decoded, DecodedClauses, tree_of, Clauses, empty}
use Rattle.meaning.specs.QueryRefusals.{carries_above, clauses_above}

-- the record after a decoded tree
abbrev pub decoded_end : Meant Decoded → Option ℕ
decoded_end none = None
decoded_end (some t) = Some t.next

-- the same of a Boolean's clauses
abbrev pub end_of_clauses : Meant DecodedClauses → Option ℕ
end_of_clauses none = None
end_of_clauses (some cs) = Some cs.next

-- where the number of children of the record fits its kind, what is given, else none
abbrev pub fitting : Kind → List ℕ → ℕ → Option ℕ → Option ℕ
fitting kind q r next = cond (children_fit kind (record_children q r)) next None

-- the clauses that are decoded
abbrev pub clauses_of : Meant DecodedClauses → Clauses
clauses_of none = empty
clauses_of (some cs) = cs.clauses

-- the record after a tree, or none where the boost that reaches it goes above the limit there or below
abbrev pub end_below_limit : Meant Decoded → Float → Option ℕ
end_below_limit t b = cond (carries_above (tree_of t) b) None (decoded_end t)

-- the same of a Boolean's clauses
abbrev pub clauses_below_limit : Meant DecodedClauses → Float → Option ℕ
clauses_below_limit cs b = cond (clauses_above (clauses_of cs) b) None (end_of_clauses cs)
