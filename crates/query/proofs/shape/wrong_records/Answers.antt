use Rattle.std.proofs.Common.{◌≡◌, ◌%◌, ◌||◌, false, not, eqb, ltb, length, rules}
use Rattle.meaning.specs.Query.{record_count, record_occurrence}
use Rattle.query.proofs.Whole.{left_over}
use Rattle.query.proofs.shape.wrong_records.Goals as goal

-- where the rest is right the tree's end decides: said apart, so that the log of an edit names what it changed
pub returns-else-occurrence-ne0 : goal.returns-else-occurrence-ne0
returns-else-occurrence-ne0 c =
    let q = c.args.query.now in
    let rest : (not (eqb (length q % 9) 0) || eqb (record_count q) 0 || ltb 256 (record_count q) || not (eqb (record_occurrence q 0) 0)) ≡ false = search rules in
    left_over q c.record_count-count.result c.tree_end.result _ rest c.record_count-count.ensures c.tree_end.ensures (search rules)
