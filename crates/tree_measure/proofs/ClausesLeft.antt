-- A clause that is taken, in the words of the query and the measures; where none is taken, none is left. Assumes nothing.
use mathlib.Core.Path.{◌≡◌, ◌∙◌, ap, subst}
use mathlib.Core.List.{List}
use Prim.Native.Nat.{ℕ, zero, suc, ◌-◌, ◌≤◌, ◌<◌}
use native.Mathlib.Omega.{arith}
use lib.ListN.{length, get_or}
use Rattle.meaning.specs.Query.{record_count, record_occurrence}
use Rattle.query.specs.Kinds.{IsOccur}
use Rattle.tree_measure.specs.declared.Measure.{Measure}
use Rattle.tree_measure.specs.declared.boolean_clauses.Clause.{Clause}
use Rattle.tree_measure.specs.declared.boolean_clauses.Clauses.{Clauses}
use Rattle.tree_measure.specs.NextClause.{no_measure, ClauseThere, ClauseTaken}

-- the clauses that are left are of this query and have these measures
pub record ClausesOf (s : Clauses) (q : List ℕ) (ms : List Measure) : Type 0 where
  pub query : s.query.now ≡ q
  pub measured : s.measures.now ≡ ms

-- a clause as it is read, and what is left behind it
pub record ClauseRead (s : Clauses) (q : List ℕ) (ms : List Measure) (c : Clause) (t : Clauses) : Type 0 where
  pub more : 0 < s.left
  pub at-is : c.at ≡ s.next
  pub measure-is : c.measure ≡ get_or ms s.next no_measure
  pub occurs : IsOccur (record_occurrence q s.next) c.occurrence
  pub others : ClausesOf t q ms
  pub next-is : t.next ≡ (get_or ms s.next no_measure).next
  pub left-is : t.left ≡ s.left - 1

pub clause-read : {s t : Clauses} {q : List ℕ} {ms : List Measure} {c : Clause} → ClausesOf s q ms → ClauseTaken s c t → ClauseRead s q ms c t
clause-read {s} {t} {q} {ms} {c} of taken =
    let measure-is = taken.measure-is ∙ ap (λ (xs : List Measure). get_or xs s.next no_measure) of.measured in
    record {
      more = taken.there.more;
      at-is = taken.at-is;
      measure-is = measure-is;
      occurs = subst (λ (ws : List ℕ). IsOccur (record_occurrence ws s.next) c.occurrence) of.query taken.occurs;
      others = record { query = taken.same-query ∙ of.query; measured = taken.same-measures ∙ of.measured };
      next-is = taken.next-is ∙ ap Measure.next measure-is;
      left-is = taken.left-is;
    }

none-left : (left : ℕ) → (0 < left → ⊥) → left ≤ 0
none-left zero f = omega arith
none-left (suc left) f = absurd (f (omega arith))

-- each clause that is left has a record and a measure
pub clauses-end : {s : Clauses} {q : List ℕ} {ms : List Measure} → ClausesOf s q ms → (0 < s.left → (s.next < record_count q) × (s.next < length ms)) → (ClauseThere s → ⊥) → s.left ≤ 0
clauses-end {s} of there ends =
    none-left s.left (λ h. let t = there h in let records = ap record_count of.query in let long = ap length of.measured in ends (record { more = h; here = omega (arith, t.0, records); measured = omega (arith, t.1, long) }))
