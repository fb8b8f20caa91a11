-- The tree at record 0 is the whole query, and the walk ends early just where some boost passes the limit.
use Rattle.std.proofs.Common.{◌≡◌, Bool, true, false, not, ◌∙◌}
use Rattle.query.proofs.Whole.{whole}
use Rattle.query.proofs.Above.{query-above}
use Rattle.check_query.proofs.boosts.wrong_boost.Goals as goal

pub tree_below-requires : goal.tree_below-requires
tree_below-requires c = let w = whole c.args.query.now c.requires.0 in (c.requires.1, (w.root, w.root_is))

twice : (a r : Bool) → a ≡ not r → r ≡ not a
twice a true e = rw e
twice a false e = rw e

pub returns : goal.returns
returns c =
    twice _ _ c.is_none.ensures ∙ query-above c.args.query.now c.requires.0 c.tree_below.result c.tree_below.ensures
