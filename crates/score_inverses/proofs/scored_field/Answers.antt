use Rattle.std.proofs.Common.{◌≡◌, rules}
use Rattle.meaning.specs.Query.{record_kind}
use Rattle.index.specs.IndexOf.{index_of}
use Rattle.query.proofs.Accepted.{term-leaf}
use Rattle.score_inverses.proofs.scored_field.Goals as goal

pub leaf_at-requires : goal.leaf_at-requires
leaf_at-requires c =
    let q = c.args.query.now in
    let term : record_kind q c.args.at ≡ 1 = search rules in
    rw c.value.ensures (term-leaf (index_of c.args.lent.now) q c.requires.0.values-right c.args.at c.requires.1 term)
