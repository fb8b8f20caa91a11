-- `t` is the tally of the clauses passed; the clauses that are left stand from `next` on.
use Rattle.std.proofs.Common.{◌≡◌, ℕ, ◌+◌}
use Rattle.std.proofs.Math.Option.{some}
use Rattle.meaning.specs.Lent.{Index}
use Rattle.meaning.specs.Query.{record_children, DecodedClauses, decode, decode_clauses}
use Rattle.tree_measure.specs.Measures.{AllMeasured}
use Rattle.tree_measure.proofs.ClausesLeft.{ClausesOf}
use Rattle.tree_measure.proofs.Tallies.{Left}
use Rattle.tree_measure.proofs.measure_boolean.Given as goal

abbrev pub invariant-loop-clause : goal.invariant-loop-clause
invariant-loop-clause l = record {
  of : ClausesOf l.clause-iterator l.query l.measures;
  first : l.next ≡ l.clause-iterator.next;
  tallied : (ix : Index) (k : ℕ) (C : DecodedClauses) → AllMeasured ix l.query l.measures (l.at + 1) → decode_clauses l.query (decode l.query k) (record_children l.query l.at) (l.at + 1) ≡ some C → Left ix l.query k l.at l.clause-iterator.left l.clause-iterator.next l.t C;
}
