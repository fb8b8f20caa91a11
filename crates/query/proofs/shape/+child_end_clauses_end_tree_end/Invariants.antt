-- Each call has less depth left; the clauses that are left end where all of the Boolean's do.
use Rattle.std.proofs.Common.{◌≡◌, ◌+◌, ◌-◌, ◌*◌}
use Rattle.meaning.specs.Query.{record_children, decode, decode_clauses}
use Rattle.query.specs.Inner.{end_of_clauses}
use Rattle.query.proofs.shape.+child_end_clauses_end_tree_end.Given as goal

abbrev pub decreases-child_end : goal.decreases-child_end
decreases-child_end l = 2 * l.depth + 1

abbrev pub decreases-clauses_end : goal.decreases-clauses_end
decreases-clauses_end l = 2 * l.depth + 1

abbrev pub decreases-tree_end : goal.decreases-tree_end
decreases-tree_end l = 2 * l.depth

abbrev pub invariant-clauses_end-loop : goal.invariant-clauses_end-loop
invariant-clauses_end-loop l =
    end_of_clauses (decode_clauses l.query (decode l.query l.depth) (l.count - l.counter) l.next) ≡ end_of_clauses (decode_clauses l.query (decode l.query l.depth) (record_children l.query l.at) (l.at + 1))
