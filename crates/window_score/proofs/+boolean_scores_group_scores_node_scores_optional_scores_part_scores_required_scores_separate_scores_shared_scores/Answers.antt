-- A node's score is added to the sum of each wanted document: a constant, a leaf's score, or a Boolean's own sums,
-- narrowed.
use Rattle.std.proofs.Common.{rules, refl, sym, ◌∙◌, arith}
use Rattle.std.proofs.lemmas.Bool.{and_parts, eqb-true, eqb-false}
use Rattle.tree_node.specs.declared.NodeKind.TheVariants.{Term, Phrase, Boolean}
use Rattle.tree_node.proofs.Windows.{word-read, word-unread}
use Rattle.scorer_leaf.specs.Buffers.{room, other_room}
use Rattle.window_score.proofs.Required.{required-start, required-end, required-there, required-skip, required-child, required-term, required-took, required-term-took}
use Rattle.window_score.proofs.Optional.{optional-start, optional-end, optional-there, optional-long, optional-ask, optional-answer, optional-left, optional-child, optional-term, optional-took, optional-term-took}
use Rattle.window_score.proofs.Splits.{zeros, zero-sums}
use Rattle.window_score.proofs.Groups.{root-group-as, after-ask, after-root-join, after-root, cut-fits, front-ask, group-add, rest-ask, more-root}
use Rattle.window_score.proofs.Booleans.{parts-lie, required-lies, alone-ask, group-ask, group-fits, own-ask, own-add, own-done, root-parts-as, root-alone, root-only, root-both-ask, root-both}
use Rattle.window_score.proofs.Joined.{straight-ask, straight-done, joined-ask, joined-done, front-narrow, next-ask, next-root, whole-ask, whole-narrow, last-ask, last-root, required-is-only}
use Rattle.window_score.proofs.Nodes.{node-long, not-constant, constant-number, constant-ask, constant-done, phrase-weighted, zero-ask, zero-done, boolean-deep, boolean-ask, boolean-done}
use Rattle.score_leaf.proofs.Bounds.{zero-64}
use Rattle.std.proofs.Math.Seq.{length_front}
use Rattle.std.proofs.lemmas.List.{length-take}
use Rattle.window_words.proofs.Parts.{back-length}
use Rattle.window_score.proofs.Loops.{put}
use Rattle.window_score.proofs.+boolean_scores_group_scores_node_scores_optional_scores_part_scores_required_scores_separate_scores_shared_scores.Goals as goal

pub boolean_scores-slice_bounds-is_only_child-end :
    goal.boolean_scores-slice_bounds-is_only_child-end
boolean_scores-slice_bounds-is_only_child-end t c =
    omega (arith, parts-lie c.requires, required-lies c.requires)

pub boolean_scores-slice_bounds-is_only_child-end-2 :
    goal.boolean_scores-slice_bounds-is_only_child-end-2
boolean_scores-slice_bounds-is_only_child-end-2 t c =
    omega (arith, length-take c.args.n.required_end c.args.kids.now, parts-lie c.requires, required-lies c.requires)

pub boolean_scores-slice_bounds-required_scores-end :
    goal.boolean_scores-slice_bounds-required_scores-end
boolean_scores-slice_bounds-required_scores-end t c =
    omega (arith, parts-lie c.requires, required-lies c.requires)

pub boolean_scores-slice_bounds-required_scores-end-then-end-n :
    goal.boolean_scores-slice_bounds-required_scores-end-then-end-n
boolean_scores-slice_bounds-required_scores-end-then-end-n t c =
    omega (arith, length-take c.args.n.required_end c.args.kids.now, parts-lie c.requires, required-lies c.requires)

pub boolean_scores-required_scores-requires : goal.boolean_scores-required_scores-requires
boolean_scores-required_scores-requires t c =
    (omega (arith, c.decreases), straight-ask c.requires)

pub boolean_scores-returns-then-end-n-clause-boolean_post : goal.boolean_scores-returns-then-end-n-clause-boolean_post
boolean_scores-returns-then-end-n-clause-boolean_post t c =
    let t = and_parts _ _ c.if-end-n.true in
    straight-done (eqb-true _ _ t.0) (sym c.is_only_child.ensures ∙ t.1) c.required_scores.new.kids c.required_scores.new.sums c.type_inv.sums c.required_scores.ensures.required_post

pub boolean_scores-part_scores-requires : goal.boolean_scores-part_scores-requires
boolean_scores-part_scores-requires t c =
    (omega (arith, c.decreases), own-ask (zeros _ zero-64) c.requires)

pub boolean_scores-add_narrowed-requires : goal.boolean_scores-add_narrowed-requires
boolean_scores-add_narrowed-requires t c =
    own-add c.part_scores.ensures.root_parts_post c.requires

pub boolean_scores-returns-clause-boolean_post : goal.boolean_scores-returns-clause-boolean_post
boolean_scores-returns-clause-boolean_post t c =
    own-done c.part_scores.ensures.root_parts_post c.add_narrowed.ensures

pub shared_scores-required_scores-requires : goal.shared_scores-required_scores-requires
shared_scores-required_scores-requires t c =
    (omega (arith, c.decreases), alone-ask c.args.sums.now c.requires.parts.0 (root-parts-as c.requires.parts))

pub shared_scores-narrow_sums-requires : goal.shared_scores-narrow_sums-requires
shared_scores-narrow_sums-requires t c =
    front-narrow c.args.sums.now c.requires.parts.0 c.requires.only_child.0 c.requires.only_child.1 c.required_scores.new.kids c.required_scores.new.sums c.required_scores.ensures.required_post (root-parts-as c.requires.parts)

pub shared_scores-optional_scores-requires : goal.shared_scores-optional_scores-requires
shared_scores-optional_scores-requires t c =
    (omega (arith, c.decreases), next-ask c.args.sums.now c.requires.parts.0 c.requires.only_child.0 c.requires.only_child.1 c.required_scores.new.kids c.required_scores.new.sums c.required_scores.ensures.required_post c.is_only_child-only.result c.narrow_sums.new.sums c.narrow_sums.ensures (room c.required_scores.new.buffers) (other_room c.required_scores.new.buffers) c.required_scores.ensures.same_buffers.starts_length c.required_scores.ensures.same_buffers.other_starts_length (root-parts-as c.requires.parts))

pub shared_scores-returns-then-is_only_child-clause-root_parts_post : goal.shared_scores-returns-then-is_only_child-clause-root_parts_post
shared_scores-returns-then-is_only_child-clause-root_parts_post t c =
    λ n ix places j rs os rest L A. next-root c.args.sums.now c.requires.parts.0 c.requires.only_child.0 c.requires.only_child.1 c.required_scores.new.kids c.required_scores.new.sums c.required_scores.ensures.required_post c.is_only_child-only.result c.narrow_sums.new.sums c.narrow_sums.ensures (room c.required_scores.new.buffers) (other_room c.required_scores.new.buffers) c.required_scores.ensures.same_buffers.starts_length c.required_scores.ensures.same_buffers.other_starts_length c.is_only_child-only.ensures (sym c.if-is_only_child.ensures) c.optional_scores.new.kids c.optional_scores.new.sums c.type_inv.sums c.optional_scores.ensures.optional_post (n, ix, places, j, rs, os, rest, 0, L, A, zero-sums c.args.sums.now c.requires.parts.0)

pub shared_scores-optional_scores-requires-2 : goal.shared_scores-optional_scores-requires-2
shared_scores-optional_scores-requires-2 t c =
    (omega (arith, c.decreases), whole-ask c.args.sums.now c.requires.parts.0 c.requires.only_child.0 c.requires.only_child.1 (root-parts-as c.requires.parts))

pub shared_scores-narrow_sums-requires-2 : goal.shared_scores-narrow_sums-requires-2
shared_scores-narrow_sums-requires-2 t c =
    whole-narrow c.args.sums.now c.requires.parts.0 c.requires.only_child.0 c.requires.only_child.1 c.optional_scores-2.new.kids c.optional_scores-2.new.sums c.optional_scores-2.ensures.optional_post (root-parts-as c.requires.parts)

pub shared_scores-required_scores-requires-2 : goal.shared_scores-required_scores-requires-2
shared_scores-required_scores-requires-2 t c =
    (omega (arith, c.decreases), last-ask c.args.sums.now c.requires.parts.0 c.requires.only_child.0 c.requires.only_child.1 c.optional_scores-2.new.kids c.optional_scores-2.new.sums c.optional_scores-2.ensures.optional_post c.narrow_sums-2.new.sums c.narrow_sums-2.ensures (room c.optional_scores-2.new.buffers) (other_room c.optional_scores-2.new.buffers) c.optional_scores-2.ensures.same_buffers.starts_length c.optional_scores-2.ensures.same_buffers.other_starts_length (root-parts-as c.requires.parts))

pub shared_scores-returns-clause-root_parts_post : goal.shared_scores-returns-clause-root_parts_post
shared_scores-returns-clause-root_parts_post t c =
    λ n ix places j rs os rest L A. last-root c.args.sums.now c.requires.parts.0 c.requires.only_child.0 c.requires.only_child.1 c.optional_scores-2.new.kids c.optional_scores-2.new.sums c.optional_scores-2.ensures.optional_post c.narrow_sums-2.new.sums c.narrow_sums-2.ensures (room c.optional_scores-2.new.buffers) (other_room c.optional_scores-2.new.buffers) c.optional_scores-2.ensures.same_buffers.starts_length c.optional_scores-2.ensures.same_buffers.other_starts_length (required-is-only c.args.kids.now c.args.n c.requires.only_child c.if-is_only_child.ensures) c.required_scores-2.new.kids c.required_scores-2.new.sums c.type_inv.sums c.required_scores-2.ensures.required_post (n, ix, places, j, rs, os, rest, 0, L, A, zero-sums c.args.sums.now c.requires.parts.0)

pub part_scores-slice_bounds-is_only_child-end :
    goal.part_scores-slice_bounds-is_only_child-end
part_scores-slice_bounds-is_only_child-end t c =
    omega (arith, parts-lie (root-parts-as c.requires), required-lies (root-parts-as c.requires))

pub part_scores-slice_bounds-is_only_child-end-2 :
    goal.part_scores-slice_bounds-is_only_child-end-2
part_scores-slice_bounds-is_only_child-end-2 t c =
    omega (arith, length-take c.args.n.required_end c.args.kids.now, parts-lie (root-parts-as c.requires), required-lies (root-parts-as c.requires))

pub part_scores-slice_bounds-is_only_child-end-3 :
    goal.part_scores-slice_bounds-is_only_child-end-3
part_scores-slice_bounds-is_only_child-end-3 t c =
    omega (arith, parts-lie (root-parts-as c.requires), required-lies (root-parts-as c.requires))

pub part_scores-shared_scores-requires : goal.part_scores-shared_scores-requires
part_scores-shared_scores-requires t c =
    (omega (arith, c.decreases), joined-ask c.requires c.is_only_child.result c.is_only_child-2.result c.is_only_child.ensures c.is_only_child-2.ensures c.if-n-is_only_child.true)

pub part_scores-returns-then-n-is_only_child-clause-root_parts_post : goal.part_scores-returns-then-n-is_only_child-clause-root_parts_post
part_scores-returns-then-n-is_only_child-clause-root_parts_post t c =
    joined-done c.requires c.shared_scores.new.kids c.shared_scores.new.sums c.shared_scores.ensures.root_parts_post

pub part_scores-slice_bounds-required_scores-end : goal.part_scores-slice_bounds-required_scores-end
part_scores-slice_bounds-required_scores-end t c =
    omega (arith, parts-lie (root-parts-as c.requires), required-lies (root-parts-as c.requires))

pub part_scores-slice_bounds-required_scores-end-then-end-optional_end : goal.part_scores-slice_bounds-required_scores-end-then-end-optional_end
part_scores-slice_bounds-required_scores-end-then-end-optional_end t c =
    omega (arith, length-take c.args.n.required_end c.args.kids.now, parts-lie (root-parts-as c.requires), required-lies (root-parts-as c.requires))

pub part_scores-required_scores-requires : goal.part_scores-required_scores-requires
part_scores-required_scores-requires t c =
    (omega (arith, c.decreases), alone-ask c.args.sums.now c.requires.0 (root-parts-as c.requires))

pub part_scores-returns-then-end-optional_end-clause-root_parts_post : goal.part_scores-returns-then-end-optional_end-clause-root_parts_post
part_scores-returns-then-end-optional_end-clause-root_parts_post t c =
    root-alone c.requires c.if-end-optional_end.true c.required_scores.new.kids c.required_scores.new.sums c.required_scores.ensures.required_post

pub part_scores-slice_bounds-optional_scores-end : goal.part_scores-slice_bounds-optional_scores-end
part_scores-slice_bounds-optional_scores-end t c =
    omega (arith, parts-lie (root-parts-as c.requires), required-lies (root-parts-as c.requires))

pub part_scores-offset_bounds-kids-end-2 : goal.part_scores-offset_bounds-kids-end-2
part_scores-offset_bounds-kids-end-2 t c =
    omega (arith, c.well_formed, parts-lie (root-parts-as c.requires), required-lies (root-parts-as c.requires))

pub part_scores-optional_scores-requires : goal.part_scores-optional_scores-requires
part_scores-optional_scores-requires t c =
    (omega (arith, c.decreases), group-ask c.args.sums.now c.requires.0 (root-parts-as c.requires))

pub part_scores-returns-then-end-eq0-clause-root_parts_post : goal.part_scores-returns-then-end-eq0-clause-root_parts_post
part_scores-returns-then-end-eq0-clause-root_parts_post t c =
    root-only c.requires c.if-end-eq0.true c.optional_scores.new.kids c.optional_scores.new.sums c.optional_scores.ensures.optional_post

pub part_scores-separate_scores-requires : goal.part_scores-separate_scores-requires
part_scores-separate_scores-requires t c =
    (omega (arith, c.decreases), c.requires)

pub part_scores-returns-clause-root_parts_post : goal.part_scores-returns-clause-root_parts_post
part_scores-returns-clause-root_parts_post t c =
    c.separate_scores.ensures.root_parts_post

pub separate_scores-slice_bounds-optional_scores-end : goal.separate_scores-slice_bounds-optional_scores-end
separate_scores-slice_bounds-optional_scores-end t c =
    omega (arith, parts-lie (root-parts-as c.requires), required-lies (root-parts-as c.requires))

pub separate_scores-slice_bounds-optional_scores-end-2 : goal.separate_scores-slice_bounds-optional_scores-end-2
separate_scores-slice_bounds-optional_scores-end-2 t c =
    omega (arith, parts-lie (root-parts-as c.requires), required-lies (root-parts-as c.requires))

pub separate_scores-optional_scores-requires : goal.separate_scores-optional_scores-requires
separate_scores-optional_scores-requires t c =
    (omega (arith, c.decreases), group-ask _ (zeros _ zero-64) (root-parts-as c.requires))

pub separate_scores-offset_bounds-kids-end : goal.separate_scores-offset_bounds-kids-end
separate_scores-offset_bounds-kids-end t c =
    omega (arith, c.well_formed, parts-lie (root-parts-as c.requires), required-lies (root-parts-as c.requires))

pub separate_scores-slice_bounds-group_scores-end : goal.separate_scores-slice_bounds-group_scores-end
separate_scores-slice_bounds-group_scores-end t c =
    group-fits _ (zeros _ zero-64) c.optional_scores.new.kids c.optional_scores.new.sums c.optional_scores.ensures.optional_post (root-parts-as c.requires)

pub separate_scores-slice_bounds-group_scores-end-2 : goal.separate_scores-slice_bounds-group_scores-end-2
separate_scores-slice_bounds-group_scores-end-2 t c =
    omega (arith, length-take c.args.n.required_end (put c.args.kids.now c.args.n.required_end c.args.n.optional_end c.optional_scores.new.kids), group-fits _ (zeros _ zero-64) c.optional_scores.new.kids c.optional_scores.new.sums c.optional_scores.ensures.optional_post (root-parts-as c.requires))

pub separate_scores-group_scores-requires : goal.separate_scores-group_scores-requires
separate_scores-group_scores-requires t c =
    (omega (arith, c.decreases), root-both-ask c.requires _ (zeros _ zero-64) c.optional_scores.new.kids c.optional_scores.new.sums c.optional_scores.ensures.optional_post (room c.optional_scores.new.buffers) (other_room c.optional_scores.new.buffers) c.optional_scores.ensures.same_buffers.starts_length c.optional_scores.ensures.same_buffers.other_starts_length)

pub separate_scores-returns-clause-root_parts_post : goal.separate_scores-returns-clause-root_parts_post
separate_scores-returns-clause-root_parts_post t c =
    root-both c.requires _ (zeros _ zero-64) c.optional_scores.new.kids c.optional_scores.new.sums c.optional_scores.ensures.optional_post (room c.optional_scores.new.buffers) (other_room c.optional_scores.new.buffers) c.optional_scores.ensures.same_buffers.starts_length c.optional_scores.ensures.same_buffers.other_starts_length c.group_scores.new.kids c.group_scores.new.sums c.group_scores.ensures.root_group_post

pub group_scores-required_scores-requires : goal.group_scores-required_scores-requires
group_scores-required_scores-requires t c =
    (omega (arith, c.decreases), after-ask c.args.sums.now c.requires.0 (root-group-as c.requires))

pub group_scores-join_after-requires : goal.group_scores-join_after-requires
group_scores-join_after-requires t c =
    after-root-join c.args.sums.now c.requires.0 c.required_scores.new.kids c.required_scores.new.sums c.required_scores.ensures.required_post (root-group-as c.requires)

pub group_scores-returns-then-n-clause-root_group_post : goal.group_scores-returns-then-n-clause-root_group_post
group_scores-returns-then-n-clause-root_group_post t c =
    λ n ix places j rs os L A. after-root c.args.sums.now c.requires.0 c.required_scores.new.kids c.required_scores.new.sums c.required_scores.ensures.required_post c.if-n.true c.join_after.new.sums c.join_after.ensures (n, ix, places, j, rs, os, 0, L, A, zero-sums c.args.sums.now c.requires.0)

pub group_scores-slice_bounds-required_scores-end : goal.group_scores-slice_bounds-required_scores-end
group_scores-slice_bounds-required_scores-end t c =
    cut-fits c.args.sums.now c.requires.0 c.if-n.false (root-group-as c.requires)

pub group_scores-slice_bounds-required_scores-end-2 : goal.group_scores-slice_bounds-required_scores-end-2
group_scores-slice_bounds-required_scores-end-2 t c =
    omega (arith, length-take c.args.n.group_at c.args.kids.now, cut-fits c.args.sums.now c.requires.0 c.if-n.false (root-group-as c.requires))

pub group_scores-required_scores-requires-2 : goal.group_scores-required_scores-requires-2
group_scores-required_scores-requires-2 t c =
    (omega (arith, c.decreases), front-ask c.args.sums.now c.requires.0 c.if-n.false (root-group-as c.requires))

pub group_scores-add_narrowed-requires : goal.group_scores-add_narrowed-requires
group_scores-add_narrowed-requires t c =
    group-add c.args.sums.now c.requires.0 c.if-n.false c.required_scores-2.new.kids c.required_scores-2.new.sums c.required_scores-2.auto.kids c.required_scores-2.ensures.required_post (root-group-as c.requires)

pub group_scores-offset_bounds-kids-at : goal.group_scores-offset_bounds-kids-at
group_scores-offset_bounds-kids-at t c =
    omega (arith, c.well_formed, cut-fits c.args.sums.now c.requires.0 c.if-n.false (root-group-as c.requires))

pub group_scores-slice_bounds-required_scores-count : goal.group_scores-slice_bounds-required_scores-count
group_scores-slice_bounds-required_scores-count t c =
    omega (arith, length_front c.args.kids.now c.required_scores-2.new.kids c.args.n.group_at c.required_scores-2.auto.kids, cut-fits c.args.sums.now c.requires.0 c.if-n.false (root-group-as c.requires))

pub group_scores-slice_bounds-required_scores-start : goal.group_scores-slice_bounds-required_scores-start
group_scores-slice_bounds-required_scores-start t c =
    omega (arith, length_front c.args.kids.now c.required_scores-2.new.kids c.args.n.group_at c.required_scores-2.auto.kids, cut-fits c.args.sums.now c.requires.0 c.if-n.false (root-group-as c.requires))

pub group_scores-required_scores-requires-3 : goal.group_scores-required_scores-requires-3
group_scores-required_scores-requires-3 t c =
    (omega (arith, c.decreases), rest-ask c.args.sums.now c.requires.0 c.if-n.false c.required_scores-2.new.kids c.required_scores-2.new.sums c.required_scores-2.auto.kids c.required_scores-2.ensures.required_post c.add_narrowed.new.sums c.add_narrowed.ensures (room c.required_scores-2.new.buffers) (other_room c.required_scores-2.new.buffers) c.required_scores-2.ensures.same_buffers.starts_length c.required_scores-2.ensures.same_buffers.other_starts_length (root-group-as c.requires))

pub group_scores-returns-clause-root_group_post : goal.group_scores-returns-clause-root_group_post
group_scores-returns-clause-root_group_post t c =
    λ n ix places j rs os L A. more-root c.args.sums.now c.requires.0 c.if-n.false c.required_scores-2.new.kids c.required_scores-2.new.sums c.required_scores-2.auto.kids c.required_scores-2.ensures.required_post c.add_narrowed.new.sums c.add_narrowed.ensures (room c.required_scores-2.new.buffers) (other_room c.required_scores-2.new.buffers) c.required_scores-2.ensures.same_buffers.starts_length c.required_scores-2.ensures.same_buffers.other_starts_length c.required_scores-3.new.kids c.required_scores-3.new.sums c.required_scores-3.ensures.required_post (n, ix, places, j, rs, os, 0, L, A, zero-sums c.args.sums.now c.requires.0)

pub node_scores-bounds-states-0 : goal.node_scores-bounds-states-0
node_scores-bounds-states-0 t c =
    omega (arith, node-long c.requires)

pub node_scores-score_node_at-requires : goal.node_scores-score_node_at-requires
node_scores-score_node_at-requires t c =
    node-long c.requires

pub node_scores-constant_score-requires : goal.node_scores-constant_score-requires
node_scores-constant_score-requires t c =
    constant-number c.score_node_at.result c.score_node_at.ensures c.requires

pub node_scores-add_constant-requires : goal.node_scores-add_constant-requires
node_scores-add_constant-requires t c =
    constant-ask c.score_node_at.result c.score_node_at.ensures c.in-Some.score c.in-Some.ensures c.requires

pub node_scores-returns-in-Some-clause-scores_post : goal.node_scores-returns-in-Some-clause-scores_post
node_scores-returns-in-Some-clause-scores_post t c =
    constant-done c.score_node_at.result c.score_node_at.ensures c.in-Some.score c.in-Some.ensures c.add_constant.new.sums c.add_constant.ensures

pub node_scores-returns-in-Term-clause-scores_post : goal.node_scores-returns-in-Term-clause-scores_post
node_scores-returns-in-Term-clause-scores_post t c =
    c.term_scores.ensures c.args.window.now.reader.positions.now c.args.window.now.reader.ranges.now (room c.args.buffers.now) (other_room c.args.buffers.now) c.args.depth

pub node_scores-phrase_scores-requires : goal.node_scores-phrase_scores-requires
node_scores-phrase_scores-requires t c =
    (word-read _ Phrase c.in-Phrase.ensures refl, phrase-weighted (not-constant c.score_node_at.ensures c.in_default.ensures) c.requires, (c.args.window.now.reader.ranges.now, c.args.depth, c.requires))

pub node_scores-returns-in-Phrase-clause-scores_post : goal.node_scores-returns-in-Phrase-clause-scores_post
node_scores-returns-in-Phrase-clause-scores_post t c =
    c.phrase_scores.ensures.phrase_post c.args.window.now.reader.ranges.now c.args.depth

pub node_scores-boolean_at-n-requires : goal.node_scores-boolean_at-n-requires
node_scores-boolean_at-n-requires t c =
    node-long c.requires

pub node_scores-slice_bounds-boolean_scores-count :
    goal.node_scores-slice_bounds-boolean_scores-count
node_scores-slice_bounds-boolean_scores-count t c =
    omega (arith, node-long c.requires)

pub node_scores-slice_bounds-boolean_scores-start :
    goal.node_scores-slice_bounds-boolean_scores-start
node_scores-slice_bounds-boolean_scores-start t c =
    omega (arith, node-long c.requires)

pub node_scores-overflow_sub-depth : goal.node_scores-overflow_sub-depth
node_scores-overflow_sub-depth t c =
    boolean-deep (not-constant c.score_node_at.ensures c.in_default.ensures) (word-read _ Boolean c.in-Boolean.ensures refl) c.boolean_at-n.result c.boolean_at-n.ensures c.requires

pub node_scores-boolean_scores-requires : goal.node_scores-boolean_scores-requires
node_scores-boolean_scores-requires t c =
    (omega (arith, c.decreases, boolean-deep (not-constant c.score_node_at.ensures c.in_default.ensures) (word-read _ Boolean c.in-Boolean.ensures refl) c.boolean_at-n.result c.boolean_at-n.ensures c.requires), boolean-ask (not-constant c.score_node_at.ensures c.in_default.ensures) (word-read _ Boolean c.in-Boolean.ensures refl) c.boolean_at-n.result c.boolean_at-n.ensures c.requires)

pub node_scores-returns-in-Boolean-clause-scores_post : goal.node_scores-returns-in-Boolean-clause-scores_post
node_scores-returns-in-Boolean-clause-scores_post t c =
    boolean-done (not-constant c.score_node_at.ensures c.in_default.ensures) (word-read _ Boolean c.in-Boolean.ensures refl) c.boolean_at-n.result c.boolean_at-n.ensures c.boolean_scores.new.kids c.boolean_scores.new.sums c.boolean_scores.ensures.boolean_post

pub node_scores-add_constant-requires-in_default-from : goal.node_scores-add_constant-requires-in_default-from
node_scores-add_constant-requires-in_default-from t c =
    zero-ask (not-constant c.score_node_at.ensures c.in_default.ensures) (word-unread _ c.from.result Term c.from.ensures c.in_default-from.not-Term) (word-unread _ c.from.result Phrase c.from.ensures c.in_default-from.not-Phrase) (word-unread _ c.from.result Boolean c.from.ensures c.in_default-from.not-Boolean) c.requires

pub node_scores-returns-in_default-from-clause-scores_post : goal.node_scores-returns-in_default-from-clause-scores_post
node_scores-returns-in_default-from-clause-scores_post t c =
    zero-done (not-constant c.score_node_at.ensures c.in_default.ensures) (word-unread _ c.from.result Term c.from.ensures c.in_default-from.not-Term) (word-unread _ c.from.result Phrase c.from.ensures c.in_default-from.not-Phrase) (word-unread _ c.from.result Boolean c.from.ensures c.in_default-from.not-Boolean) c.add_constant-in_default-from.new.sums c.add_constant-in_default-from.ensures

pub optional_scores-loop-at-init : goal.optional_scores-loop-at-init
optional_scores-loop-at-init t c =
    record { long = refl; buffers = search rules; at = optional-start }

pub optional_scores-child_at-k-requires : goal.optional_scores-child_at-k-requires
optional_scores-child_at-k-requires t c =
    optional-there c.loop-at.invariant.at c.loop-at-test.true c.requires

pub optional_scores-slice_bounds-optional_child_bits-end : goal.optional_scores-slice_bounds-optional_child_bits-end
optional_scores-slice_bounds-optional_child_bits-end t c =
    omega (arith, c.child_at-k.ensures.end_is, (optional-there c.loop-at.invariant.at c.loop-at-test.true c.requires).fits)

pub optional_scores-optional_child_bits-x-requires-clause-long : goal.optional_scores-optional_child_bits-x-requires-clause-long
optional_scores-optional_child_bits-x-requires-clause-long t c =
    optional-long c.loop-at.invariant.at c.loop-at-test.true c.child_at-k.result.end c.child_at-k.ensures.end_is c.requires

pub optional_scores-optional_child_bits-x-requires-clause-unneeded : goal.optional_scores-optional_child_bits-x-requires-clause-unneeded
optional_scores-optional_child_bits-x-requires-clause-unneeded t c =
    λ none. optional-ask c.loop-at.invariant.at c.loop-at-test.true c.child_at-k.result.end c.child_at-k.ensures.end_is none _ _ c.loop-at.invariant.buffers.starts_length c.loop-at.invariant.buffers.other_starts_length c.requires

pub optional_scores-slice_bounds-term_scores-end :
    goal.optional_scores-slice_bounds-term_scores-end
optional_scores-slice_bounds-term_scores-end t c =
    omega (arith, c.child_at-k.ensures.end_is, (optional-there c.loop-at.invariant.at c.loop-at-test.true c.requires).fits, back-length c.loop-at.kids c.optional_child_bits-x.new.states c.loop-at.at c.child_at-k.result.end c.optional_child_bits-x.auto.states)

pub optional_scores-term_scores-requires : goal.optional_scores-term_scores-requires
optional_scores-term_scores-requires t c =
    optional-term (optional-answer c.loop-at.invariant.at c.loop-at-test.true c.child_at-k.result.end c.child_at-k.ensures.end_is c.loop-at.invariant.buffers.starts_length c.loop-at.invariant.buffers.other_starts_length c.optional_child_bits-x.result c.optional_child_bits-x.new.states c.optional_child_bits-x.auto.states c.optional_child_bits-x.ensures.unneeded c.optional_child_bits-x.ensures.needed) _ _ (c.optional_child_bits-x.ensures.same_buffers.starts_length ∙ c.loop-at.invariant.buffers.starts_length) (c.optional_child_bits-x.ensures.same_buffers.other_starts_length ∙ c.loop-at.invariant.buffers.other_starts_length) (word-read _ Term (sym c.in-Term.is ∙ c.child_at-k.ensures.kind-is) refl) c.requires

pub optional_scores-slice_bounds-node_scores-end :
    goal.optional_scores-slice_bounds-node_scores-end
optional_scores-slice_bounds-node_scores-end t c =
    omega (arith, c.child_at-k.ensures.end_is, (optional-there c.loop-at.invariant.at c.loop-at-test.true c.requires).fits, back-length c.loop-at.kids c.optional_child_bits-x.new.states c.loop-at.at c.child_at-k.result.end c.optional_child_bits-x.auto.states)

pub optional_scores-node_scores-requires : goal.optional_scores-node_scores-requires
optional_scores-node_scores-requires t c =
    (omega (arith, c.decreases), optional-child (optional-answer c.loop-at.invariant.at c.loop-at-test.true c.child_at-k.result.end c.child_at-k.ensures.end_is c.loop-at.invariant.buffers.starts_length c.loop-at.invariant.buffers.other_starts_length c.optional_child_bits-x.result c.optional_child_bits-x.new.states c.optional_child_bits-x.auto.states c.optional_child_bits-x.ensures.unneeded c.optional_child_bits-x.ensures.needed) _ _ (c.optional_child_bits-x.ensures.same_buffers.starts_length ∙ c.loop-at.invariant.buffers.starts_length) (c.optional_child_bits-x.ensures.same_buffers.other_starts_length ∙ c.loop-at.invariant.buffers.other_starts_length) c.requires)

pub optional_scores-loop-at-smaller-in-Term :
    goal.optional_scores-loop-at-smaller-in-Term
optional_scores-loop-at-smaller-in-Term t c =
    omega (arith, c.child_at-k.ensures.end_is, (optional-there c.loop-at.invariant.at c.loop-at-test.true c.requires).long, c.loop-at-test.true, back-length c.loop-at.kids c.optional_child_bits-x.new.states c.loop-at.at c.child_at-k.result.end c.optional_child_bits-x.auto.states)

pub optional_scores-loop-at-preserved-in-Term :
    goal.optional_scores-loop-at-preserved-in-Term
optional_scores-loop-at-preserved-in-Term t c =
    record { long = back-length c.loop-at.kids c.optional_child_bits-x.new.states c.loop-at.at c.child_at-k.result.end c.optional_child_bits-x.auto.states ∙ c.loop-at.invariant.long; buffers = search rules; at = optional-term-took (optional-answer c.loop-at.invariant.at c.loop-at-test.true c.child_at-k.result.end c.child_at-k.ensures.end_is c.loop-at.invariant.buffers.starts_length c.loop-at.invariant.buffers.other_starts_length c.optional_child_bits-x.result c.optional_child_bits-x.new.states c.optional_child_bits-x.auto.states c.optional_child_bits-x.ensures.unneeded c.optional_child_bits-x.ensures.needed) _ _ (c.optional_child_bits-x.ensures.same_buffers.starts_length ∙ c.loop-at.invariant.buffers.starts_length) (c.optional_child_bits-x.ensures.same_buffers.other_starts_length ∙ c.loop-at.invariant.buffers.other_starts_length) c.term_scores.new.sums c.term_scores.ensures }

pub optional_scores-loop-at-smaller-in_default :
    goal.optional_scores-loop-at-smaller-in_default
optional_scores-loop-at-smaller-in_default t c =
    omega (arith, c.child_at-k.ensures.end_is, (optional-there c.loop-at.invariant.at c.loop-at-test.true c.requires).long, c.loop-at-test.true, back-length c.loop-at.kids c.optional_child_bits-x.new.states c.loop-at.at c.child_at-k.result.end c.optional_child_bits-x.auto.states, back-length (put c.loop-at.kids c.loop-at.at c.child_at-k.result.end c.optional_child_bits-x.new.states) c.node_scores.new.states c.loop-at.at c.child_at-k.result.end c.node_scores.auto.states)

pub optional_scores-loop-at-preserved-in_default :
    goal.optional_scores-loop-at-preserved-in_default
optional_scores-loop-at-preserved-in_default t c =
    record { long = back-length (put c.loop-at.kids c.loop-at.at c.child_at-k.result.end c.optional_child_bits-x.new.states) c.node_scores.new.states c.loop-at.at c.child_at-k.result.end c.node_scores.auto.states ∙ back-length c.loop-at.kids c.optional_child_bits-x.new.states c.loop-at.at c.child_at-k.result.end c.optional_child_bits-x.auto.states ∙ c.loop-at.invariant.long; buffers = search rules; at = optional-took (optional-answer c.loop-at.invariant.at c.loop-at-test.true c.child_at-k.result.end c.child_at-k.ensures.end_is c.loop-at.invariant.buffers.starts_length c.loop-at.invariant.buffers.other_starts_length c.optional_child_bits-x.result c.optional_child_bits-x.new.states c.optional_child_bits-x.auto.states c.optional_child_bits-x.ensures.unneeded c.optional_child_bits-x.ensures.needed) _ _ (c.optional_child_bits-x.ensures.same_buffers.starts_length ∙ c.loop-at.invariant.buffers.starts_length) (c.optional_child_bits-x.ensures.same_buffers.other_starts_length ∙ c.loop-at.invariant.buffers.other_starts_length) c.node_scores.new.states c.node_scores.new.sums c.node_scores.auto.states c.node_scores.ensures.scores_post }

pub optional_scores-loop-at-smaller : goal.optional_scores-loop-at-smaller
optional_scores-loop-at-smaller t c =
    omega (arith, c.child_at-k.ensures.end_is, (optional-there c.loop-at.invariant.at c.loop-at-test.true c.requires).long, c.loop-at-test.true, back-length c.loop-at.kids c.optional_child_bits-x.new.states c.loop-at.at c.child_at-k.result.end c.optional_child_bits-x.auto.states)

pub optional_scores-loop-at-preserved : goal.optional_scores-loop-at-preserved
optional_scores-loop-at-preserved t c =
    record { long = back-length c.loop-at.kids c.optional_child_bits-x.new.states c.loop-at.at c.child_at-k.result.end c.optional_child_bits-x.auto.states ∙ c.loop-at.invariant.long; buffers = search rules; at = optional-left (optional-answer c.loop-at.invariant.at c.loop-at-test.true c.child_at-k.result.end c.child_at-k.ensures.end_is c.loop-at.invariant.buffers.starts_length c.loop-at.invariant.buffers.other_starts_length c.optional_child_bits-x.result c.optional_child_bits-x.new.states c.optional_child_bits-x.auto.states c.optional_child_bits-x.ensures.unneeded c.optional_child_bits-x.ensures.needed) c.if-x-ne0.false }

pub optional_scores-returns-clause-optional_post : goal.optional_scores-returns-clause-optional_post
optional_scores-returns-clause-optional_post t c =
    optional-end c.loop-at.invariant.at c.loop-at-test.false

pub required_scores-loop-at-init : goal.required_scores-loop-at-init
required_scores-loop-at-init t c =
    record { long = refl; buffers = search rules; at = required-start }

pub required_scores-child_at-k-requires : goal.required_scores-child_at-k-requires
required_scores-child_at-k-requires t c =
    required-there c.loop-at.invariant.at c.loop-at-test.true c.requires

pub required_scores-slice_bounds-term_scores-end :
    goal.required_scores-slice_bounds-term_scores-end
required_scores-slice_bounds-term_scores-end t c =
    omega (arith, c.child_at-k.ensures.end_is, (required-there c.loop-at.invariant.at c.loop-at-test.true c.requires).fits)

pub required_scores-term_scores-requires : goal.required_scores-term_scores-requires
required_scores-term_scores-requires t c =
    required-term c.loop-at.invariant.at c.loop-at-test.true c.child_at-k.result.end c.child_at-k.ensures.end_is (eqb-true _ 1 (sym c.child_at-k.ensures.scores-is ∙ c.if-k.true)) (room c.loop-at.buffers) (other_room c.loop-at.buffers) c.loop-at.invariant.buffers.starts_length c.loop-at.invariant.buffers.other_starts_length (word-read _ Term (sym c.in-Term.is ∙ c.child_at-k.ensures.kind-is) refl) c.requires

pub required_scores-slice_bounds-node_scores-end :
    goal.required_scores-slice_bounds-node_scores-end
required_scores-slice_bounds-node_scores-end t c =
    omega (arith, c.child_at-k.ensures.end_is, (required-there c.loop-at.invariant.at c.loop-at-test.true c.requires).fits)

pub required_scores-node_scores-requires : goal.required_scores-node_scores-requires
required_scores-node_scores-requires t c =
    (omega (arith, c.decreases), required-child c.loop-at.invariant.at c.loop-at-test.true c.child_at-k.result.end c.child_at-k.ensures.end_is (eqb-true _ 1 (sym c.child_at-k.ensures.scores-is ∙ c.if-k.true)) (room c.loop-at.buffers) (other_room c.loop-at.buffers) c.loop-at.invariant.buffers.starts_length c.loop-at.invariant.buffers.other_starts_length c.requires)

pub required_scores-loop-at-smaller-in-Term :
    goal.required_scores-loop-at-smaller-in-Term
required_scores-loop-at-smaller-in-Term t c =
    omega (arith, c.child_at-k.ensures.end_is, (required-there c.loop-at.invariant.at c.loop-at-test.true c.requires).long, c.loop-at-test.true)

pub required_scores-loop-at-preserved-in-Term :
    goal.required_scores-loop-at-preserved-in-Term
required_scores-loop-at-preserved-in-Term t c =
    record { long = c.loop-at.invariant.long; buffers = search rules; at = required-term-took c.loop-at.invariant.at c.loop-at-test.true c.child_at-k.result.end c.child_at-k.ensures.end_is (eqb-true _ 1 (sym c.child_at-k.ensures.scores-is ∙ c.if-k.true)) (room c.loop-at.buffers) (other_room c.loop-at.buffers) c.loop-at.invariant.buffers.starts_length c.loop-at.invariant.buffers.other_starts_length c.term_scores.new.sums c.term_scores.ensures }

pub required_scores-loop-at-smaller-in_default :
    goal.required_scores-loop-at-smaller-in_default
required_scores-loop-at-smaller-in_default t c =
    omega (arith, c.child_at-k.ensures.end_is, (required-there c.loop-at.invariant.at c.loop-at-test.true c.requires).long, c.loop-at-test.true, back-length c.loop-at.kids c.node_scores.new.states c.loop-at.at c.child_at-k.result.end c.node_scores.auto.states)

pub required_scores-loop-at-preserved-in_default :
    goal.required_scores-loop-at-preserved-in_default
required_scores-loop-at-preserved-in_default t c =
    record { long = back-length c.loop-at.kids c.node_scores.new.states c.loop-at.at c.child_at-k.result.end c.node_scores.auto.states ∙ c.loop-at.invariant.long; buffers = search rules; at = required-took c.loop-at.invariant.at c.loop-at-test.true c.child_at-k.result.end c.child_at-k.ensures.end_is (eqb-true _ 1 (sym c.child_at-k.ensures.scores-is ∙ c.if-k.true)) (room c.loop-at.buffers) (other_room c.loop-at.buffers) c.loop-at.invariant.buffers.starts_length c.loop-at.invariant.buffers.other_starts_length c.node_scores.new.states c.node_scores.new.sums c.node_scores.auto.states c.node_scores.ensures.scores_post }

pub required_scores-loop-at-smaller : goal.required_scores-loop-at-smaller
required_scores-loop-at-smaller t c =
    omega (arith, c.child_at-k.ensures.end_is, (required-there c.loop-at.invariant.at c.loop-at-test.true c.requires).long, c.loop-at-test.true)

pub required_scores-loop-at-preserved : goal.required_scores-loop-at-preserved
required_scores-loop-at-preserved t c =
    record { long = c.loop-at.invariant.long; buffers = search rules; at = required-skip c.loop-at.invariant.at c.loop-at-test.true c.child_at-k.result.end c.child_at-k.ensures.end_is (eqb-false _ 1 (sym c.child_at-k.ensures.scores-is ∙ c.if-k.false)) }

pub required_scores-returns-clause-required_post : goal.required_scores-returns-clause-required_post
required_scores-returns-clause-required_post t c =
    required-end c.loop-at.invariant.at c.loop-at-test.false
