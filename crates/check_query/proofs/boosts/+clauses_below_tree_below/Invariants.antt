-- Each call has less depth left; none of the clauses passed went above the limit.
use Rattle.std.proofs.Common.{◌≡◌, ◌+◌, ◌-◌, ◌*◌}
use Rattle.std.proofs.Math.Option.{some}
use Rattle.meaning.specs.Query.{record_children, DecodedClauses, decode, decode_clauses}
use Rattle.query.specs.Inner.{clauses_below_limit}
use Rattle.query.proofs.Above.{left_below}
use Rattle.check_query.proofs.boosts.+clauses_below_tree_below.Given as goal

abbrev pub decreases-clauses_below : goal.decreases-clauses_below
decreases-clauses_below l = 2 * l.depth + 1

abbrev pub decreases-tree_below : goal.decreases-tree_below
decreases-tree_below l = 2 * l.depth

abbrev pub invariant-clauses_below-loop : goal.invariant-clauses_below-loop
invariant-clauses_below-loop l =
    (C : DecodedClauses) × (decode_clauses l.query (decode l.query l.depth) (record_children l.query l.at - l.counter) l.next ≡ some C) × (left_below C l.boost ≡ clauses_below_limit (decode_clauses l.query (decode l.query l.depth) (record_children l.query l.at) (l.at + 1)) l.boost)
