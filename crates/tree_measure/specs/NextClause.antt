-- A step from one clause of a Boolean to the next. Assumes nothing: these are definitions.
use Rattle.std.specs.Prelude.{◌≡◌, false, Option, MatchOption, ◌-◌, ◌<◌, length, get_or}
use Rattle.meaning.specs.Query.{record_count, record_occurrence}
use Rattle.query.specs.Kinds.{IsOccur}
use Rattle.tree_measure.specs.declared.Measure.{Measure}
use Rattle.tree_measure.specs.declared.boolean_clauses.Clause.{Clause}
use Rattle.tree_measure.specs.declared.boolean_clauses.Clauses.{Clauses}

-- of a record past the last
abbrev pub no_measure : Measure
no_measure = record { next = 0; present = false; cost = 0 }

-- a clause is left, and its record and its measure are there
pub record ClauseThere (s : Clauses) : Type 0 where
  pub more : 0 < s.left
  pub here : s.next < record_count s.query.now
  pub measured : s.next < length s.measures.now

-- the clause c is taken from s, and t is left
pub record ClauseTaken (s : Clauses) (c : Clause) (t : Clauses) : Type 0 where
  pub there : ClauseThere s
  pub at-is : c.at ≡ s.next
  pub occurs : IsOccur (record_occurrence s.query.now s.next) c.occurrence
  pub measure-is : c.measure ≡ get_or s.measures.now s.next no_measure
  pub same-query : t.query.now ≡ s.query.now
  pub same-measures : t.measures.now ≡ s.measures.now
  pub next-is : t.next ≡ c.measure.next
  pub left-is : t.left ≡ s.left - 1

abbrev pub NextClause : Clauses → Option Clause → Clauses → Type 0
NextClause s r t = MatchOption r (ClauseThere s → ⊥) (λ c. ClauseTaken s c t)
