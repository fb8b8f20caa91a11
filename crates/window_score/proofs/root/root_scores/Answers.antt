-- At the root the sums are 0, so the children of a Boolean add to them directly; any other node adds its own score.
use Rattle.std.proofs.Common.{refl, arith}
use Rattle.tree_node.specs.declared.NodeKind.TheVariants.{Boolean}
use Rattle.tree_node.proofs.Windows.{word-read}
use Rattle.window_score.proofs.Nodes.{node-long, constant-number, no-constant, root-as, root-done, root-deep, root-ask, root-part}
use Rattle.window_score.proofs.root.root_scores.Goals as goal

pub bounds-states-0 : goal.bounds-states-0
bounds-states-0 c = omega (arith, node-long (root-as c.requires))

pub score_node_at-requires : goal.score_node_at-requires
score_node_at-requires c = node-long (root-as c.requires)

pub constant_score-requires : goal.constant_score-requires
constant_score-requires c = constant-number c.score_node_at.result c.score_node_at.ensures (root-as c.requires)

pub slice_bounds-part_scores-count : goal.slice_bounds-part_scores-count
slice_bounds-part_scores-count c = omega (arith, node-long (root-as c.requires))

pub slice_bounds-part_scores-start : goal.slice_bounds-part_scores-start
slice_bounds-part_scores-start c = omega (arith, node-long (root-as c.requires))

pub boolean_at-n-requires : goal.boolean_at-n-requires
boolean_at-n-requires c = node-long (root-as c.requires)

pub overflow_sub-depth : goal.overflow_sub-depth
overflow_sub-depth c = root-deep (no-constant c.score_node_at.ensures c.constant_score.result c.constant_score.ensures c.is_some-constant.result c.is_some-constant.ensures c.if-not-constant.true) (word-read _ Boolean c.in-Boolean.ensures refl) c.boolean_at-n.result c.boolean_at-n.ensures c.requires

pub part_scores-requires : goal.part_scores-requires
part_scores-requires c = root-ask (no-constant c.score_node_at.ensures c.constant_score.result c.constant_score.ensures c.is_some-constant.result c.is_some-constant.ensures c.if-not-constant.true) (word-read _ Boolean c.in-Boolean.ensures refl) c.boolean_at-n.result c.boolean_at-n.ensures c.requires

pub returns-then-not-constant-clause-root_post : goal.returns-then-not-constant-clause-root_post
returns-then-not-constant-clause-root_post c = root-part (no-constant c.score_node_at.ensures c.constant_score.result c.constant_score.ensures c.is_some-constant.result c.is_some-constant.ensures c.if-not-constant.true) (word-read _ Boolean c.in-Boolean.ensures refl) c.boolean_at-n.result c.boolean_at-n.ensures c.part_scores.new.kids c.part_scores.new.sums c.part_scores.ensures.root_parts_post

pub returns-clause-root_post : goal.returns-clause-root_post
returns-clause-root_post c = root-done c.requires c.node_scores.new.states c.node_scores.new.sums c.node_scores.ensures.scores_post
