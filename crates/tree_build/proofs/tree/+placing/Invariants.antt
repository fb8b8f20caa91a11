-- Each call goes a level down or to a part of its clauses; the list's clauses before the i-th stand one after the
-- other.
use Rattle.std.proofs.Common.{◌+◌, ◌*◌, length}
use Rattle.tree_words.specs.Prepared.{given}
use Rattle.tree_build.proofs.PlacingLists.{ListAt}
use Rattle.tree_build.proofs.tree.+placing.Given as goal

abbrev pub decreases-place : goal.decreases-place
decreases-place l = l.depth * 4 + 1

abbrev pub decreases-place_boolean : goal.decreases-place_boolean
decreases-place_boolean l = l.depth * 4

abbrev pub decreases-place_list : goal.decreases-place_list
decreases-place_list l = l.depth * 4 + 2

abbrev pub decreases-place_others : goal.decreases-place_others
decreases-place_others l = l.depth * 4 + 3

abbrev pub decreases-place_required : goal.decreases-place_required
decreases-place_required l = l.depth * 4 + 3

abbrev pub invariant-place_list-loop-at : goal.invariant-place_list-loop-at
invariant-place_list-loop-at l =
    ListAt (given l.records) l.list l.boost (length l.initial.states) l.depth l.at-index l.used l.states
