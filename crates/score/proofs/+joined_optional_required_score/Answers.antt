-- A node's score, by its kind: a Boolean adds up its required children that score, and its optional children that stand
-- at the document.
use mathlib.Core.Path.{◌≡◌, refl, sym, ap, subst, ◌∙◌}
use native.Mathlib.Omega.{arith}
use Prim.Native.Nat.{ℕ, ◌≤◌}
use lib.ListN.{length}
use mathlib.Core.List.{List}
use lib.Seq.{length_front, length-take-le}
use Rattle.meaning.specs.Ieee754.{zero_float}
use Rattle.score_leaf.proofs.Bounds.{zero-64}
use Rattle.score.proofs.Parts.{back_length}
use Rattle.score.proofs.Loops.{OptionalMid, put, places_same, optional-start, optional-end, optional-ask, optional-mid, optional-left, optional-child, optional-number, optional-took, optional-term-ask, optional-kind, optional-term-took, required-start, required-end, required-skip, required-child, required-number, required-took, required-term, required-term-took}
use Rattle.score.proofs.Alone.{zero-narrowed}
use Rattle.score.proofs.Booleans.{Lies, Grouped, lies, grouped, ungrouped, after-asks, alone-done, only-done, group-asks, group-number, after-number, after-done, cut-lies, front-asks, rest-asks, rest-done}
use mathlib.Core.Bool.{not}
use lib.Ieee.{Float, binary64, is_nan, fits}
use lib.Ieee.Fits.{and_i, fits_widens}
use Rattle.meaning.specs.Limits.{node_state_words}
use Rattle.scorer_leaf.specs.Buffers.{places_in}
use Rattle.scorer_leaf.proofs.Loops.{same_refl, same_then}
use Rattle.scorer_leaf.proofs.Bounds.{ok-long}
use Rattle.tree_node.specs.Kinds.{node_kind}
use Rattle.tree_node.proofs.Scorers.{term-word, boolean-word, scores-one, scores-none}
use Rattle.score.proofs.Nodes.{score_node_at}
use Rattle.score_leaf.specs.Asked.{ScoreIs}
use Rattle.score_leaf.proofs.Constants.{constant-some, constant-none}
use Rattle.score_leaf.proofs.Nodes.{constant-is, leaf-at}
use Rattle.scorer.specs.Calls.{lists_of}
use Rattle.score.proofs.+joined_optional_required_score.Goals as goal
use Rattle.score.proofs.+joined_optional_required_score.Goals.{joined-Start, joined-Then-end-optional_end, joined-After-narrow-group, joined-Else-n, score-Start, optional-Then-advance-doc, optional-Then-advance_term-doc}

-- where the parts of a Boolean lie
parts : (t : _) (c : joined-Start t) → Lies c.args.n (length c.args.kids.now)
parts t c = lies c.args.kids.now c.args.n c.args.reader.now (places_in c.args.buffers.now) c.args.doc c.args.depth c.requires

-- no optional children: a group of 0
no-group : (t : _) (c : joined-Then-end-optional_end t) → Grouped c.args.kids.now c.args.n c.args.reader.now (places_in c.args.buffers.now) c.args.doc c.args.depth zero_float c.args.kids.now
no-group t c = ungrouped _ _ _ _ _ _ c.if-end-optional_end.true

-- the words after the group's score, and its sum
abbrev kids₁ : (t : _) → joined-After-narrow-group t → List ℕ
kids₁ t c = put c.args.kids.now c.args.n.required_end c.args.n.optional_end c.optional.new.kids

group : (t : _) (c : joined-After-narrow-group t) → Grouped c.args.kids.now c.args.n c.args.reader.now (places_in c.args.buffers.now) c.args.doc c.args.depth c.optional.result (kids₁ t c)
group t c = grouped _ _ _ _ _ _ _ _ c.optional.ensures.optional_post

whole : (t : _) (c : joined-After-narrow-group t) → length (kids₁ t c) ≡ length c.args.kids.now
whole t c = back_length c.args.kids.now c.optional.new.kids c.args.n.required_end c.args.n.optional_end c.optional.auto.kids

pub joined-slice_bounds-required-end : goal.joined-slice_bounds-required-end
joined-slice_bounds-required-end t c = omega (arith, parts t (goal.at.joined-slice_bounds-required-end t c).Start)

pub joined-slice_bounds-required-end-then-end-optional_end : goal.joined-slice_bounds-required-end-then-end-optional_end
joined-slice_bounds-required-end-then-end-optional_end t c =
    let e : c.args.n.required_end ≤ length c.args.kids.now = omega (arith, parts t (goal.at.joined-slice_bounds-required-end-then-end-optional_end t c).Start) in
    sym (length-take-le _ _ e)

pub joined-required-requires : goal.joined-required-requires
joined-required-requires t c = (omega arith, after-asks (no-group t (goal.at.joined-required-requires t c).Then-end-optional_end) zero-narrowed refl zero-64 c.requires)

pub joined-returns-then-end-optional_end-clause-join_post : goal.joined-returns-then-end-optional_end-clause-join_post
joined-returns-then-end-optional_end-clause-join_post t c = alone-done (no-group t (goal.at.joined-returns-then-end-optional_end-clause-join_post t c).Then-end-optional_end) zero-narrowed refl zero-64 _ _ c.required.ensures.required_post c.if-end-optional_end.true _ c.narrow.ensures

pub joined-returns-then-end-eq0-clause-join_post : goal.joined-returns-then-end-eq0-clause-join_post
joined-returns-then-end-eq0-clause-join_post t c = only-done (group t (goal.at.joined-returns-then-end-eq0-clause-join_post t c).After-narrow-group) c.narrow-group.ensures c.if-end-eq0.true

pub joined-offset_bounds-kids-end : goal.joined-offset_bounds-kids-end
joined-offset_bounds-kids-end t c = omega (arith, parts t (goal.at.joined-offset_bounds-kids-end t c).Start, c.well_formed)

pub joined-slice_bounds-optional-end : goal.joined-slice_bounds-optional-end
joined-slice_bounds-optional-end t c = omega (arith, parts t (goal.at.joined-slice_bounds-optional-end t c).Start, c.well_formed)

pub joined-optional-requires : goal.joined-optional-requires
joined-optional-requires t c = (omega arith, group-asks c.args.kids.now c.args.n c.args.reader.now _ _ _ c.requires)

pub joined-required-sum-requires : goal.joined-required-sum-requires
joined-required-sum-requires t c = (omega arith, after-asks (group t (goal.at.joined-required-sum-requires t c).After-narrow-group) c.narrow-group.ensures (places_same c.optional.ensures.same_buffers) zero-64 c.requires)

pub joined-float_to_float-narrowed : goal.joined-float_to_float-narrowed
joined-float_to_float-narrowed t c =
    and_i (fits binary64 c.narrow-narrowed.result) (not (is_nan c.narrow-narrowed.result)) (fits_widens c.narrow-narrowed.result c.row_known-1.given)
    (after-number (group t (goal.at.joined-float_to_float-narrowed t c).After-narrow-group) c.narrow-group.ensures (places_same c.optional.ensures.same_buffers) zero-64 _ _ c.required-sum.ensures.required_post c.requires _ c.narrow-narrowed.ensures)

pub joined-add_score-requires : goal.joined-add_score-requires
joined-add_score-requires t c = group-number (group t (goal.at.joined-add_score-requires t c).After-narrow-group) c.narrow-group.ensures c.requires

pub joined-add_score-sum-requires : goal.joined-add_score-sum-requires
joined-add_score-sum-requires t c = group-number (group t (goal.at.joined-add_score-sum-requires t c).After-narrow-group) c.narrow-group.ensures c.requires

pub joined-returns-then-n-clause-join_post : goal.joined-returns-then-n-clause-join_post
joined-returns-then-n-clause-join_post t c = after-done (group t (goal.at.joined-returns-then-n-clause-join_post t c).After-narrow-group) c.narrow-group.ensures (places_same c.optional.ensures.same_buffers) zero-64 _ _ c.required-sum.ensures.required_post c.if-n.true _ _ _ c.narrow-narrowed.ensures c.add_score.ensures c.narrow-then-n.ensures

-- the group joins within the required
cut-here : (t : _) (c : joined-Else-n t) (G : Grouped c.args.kids.now c.args.n c.args.reader.now (places_in c.args.buffers.now) c.args.doc c.args.depth c.optional.result (put c.args.kids.now c.args.n.required_end c.args.n.optional_end c.optional.new.kids)) → c.args.n.group_at ≤ c.args.n.required_end
cut-here t c G = cut-lies G c.narrow-group.ensures (places_same c.optional.ensures.same_buffers) zero-64 c.if-n.false c.requires

pub joined-slice_bounds-required-end-2 : goal.joined-slice_bounds-required-end-2
joined-slice_bounds-required-end-2 t c = omega (arith, parts t (goal.at.joined-slice_bounds-required-end-2 t c).Start, whole t (goal.at.joined-slice_bounds-required-end-2 t c).After-narrow-group, cut-here t (goal.at.joined-slice_bounds-required-end-2 t c).Else-n (group t (goal.at.joined-slice_bounds-required-end-2 t c).After-narrow-group))

pub joined-slice_bounds-required-end-3 : goal.joined-slice_bounds-required-end-3
joined-slice_bounds-required-end-3 t c =
    let p = goal.at.joined-slice_bounds-required-end-3 t c in
    sym (length-take-le _ _ (omega (arith, parts t p.Start, whole t p.After-narrow-group, cut-here t p.Else-n (group t p.After-narrow-group))))

pub joined-required-front-requires : goal.joined-required-front-requires
joined-required-front-requires t c = (omega arith, front-asks (group t (goal.at.joined-required-front-requires t c).After-narrow-group) c.narrow-group.ensures (places_same c.optional.ensures.same_buffers) zero-64 c.if-n.false c.requires)

pub joined-offset_bounds-kids-at : goal.joined-offset_bounds-kids-at
joined-offset_bounds-kids-at t c =
    omega (arith, parts t (goal.at.joined-offset_bounds-kids-at t c).Start, whole t (goal.at.joined-offset_bounds-kids-at t c).After-narrow-group, length_front (kids₁ t (goal.at.joined-offset_bounds-kids-at t c).After-narrow-group) c.required-front.new.kids c.args.n.group_at c.required-front.auto.kids, cut-here t (goal.at.joined-offset_bounds-kids-at t c).Else-n (group t (goal.at.joined-offset_bounds-kids-at t c).After-narrow-group), c.well_formed)

pub joined-slice_bounds-required-count : goal.joined-slice_bounds-required-count
joined-slice_bounds-required-count t c =
    omega (arith, parts t (goal.at.joined-slice_bounds-required-count t c).Start, whole t (goal.at.joined-slice_bounds-required-count t c).After-narrow-group, length_front (kids₁ t (goal.at.joined-slice_bounds-required-count t c).After-narrow-group) c.required-front.new.kids c.args.n.group_at c.required-front.auto.kids, cut-here t (goal.at.joined-slice_bounds-required-count t c).Else-n (group t (goal.at.joined-slice_bounds-required-count t c).After-narrow-group), c.well_formed)

pub joined-slice_bounds-required-start : goal.joined-slice_bounds-required-start
joined-slice_bounds-required-start t c =
    omega (arith, parts t (goal.at.joined-slice_bounds-required-start t c).Start, whole t (goal.at.joined-slice_bounds-required-start t c).After-narrow-group, length_front (kids₁ t (goal.at.joined-slice_bounds-required-start t c).After-narrow-group) c.required-front.new.kids c.args.n.group_at c.required-front.auto.kids, cut-here t (goal.at.joined-slice_bounds-required-start t c).Else-n (group t (goal.at.joined-slice_bounds-required-start t c).After-narrow-group), c.well_formed)

pub joined-required-requires-2 : goal.joined-required-requires-2
joined-required-requires-2 t c = (omega arith, rest-asks (group t (goal.at.joined-required-requires-2 t c).After-narrow-group) c.narrow-group.ensures (places_same c.optional.ensures.same_buffers) zero-64 c.if-n.false _ _ c.required-front.auto.kids c.required-front.ensures.required_post (places_same c.required-front.ensures.same_buffers) c.add_score-sum.ensures c.requires)

pub joined-returns-clause-join_post : goal.joined-returns-clause-join_post
joined-returns-clause-join_post t c = rest-done (group t (goal.at.joined-returns-clause-join_post t c).After-narrow-group) c.narrow-group.ensures (places_same c.optional.ensures.same_buffers) zero-64 c.if-n.false _ _ c.required-front.auto.kids c.required-front.ensures.required_post (places_same c.required-front.ensures.same_buffers) c.add_score-sum.ensures _ _ c.required-2.ensures.required_post _ c.narrow-2.ensures

-- a node's record is there
record-there : (t : _) (c : score-Start t) → node_state_words ≤ length c.args.states.now
record-there t c = let p = c.requires in ok-long p.0 c.args.reader.now.ranges.now p.1 c.args.depth p.2 c.args.states.now c.args.doc p.6

pub score-score_node_at-requires : goal.score-score_node_at-requires
score-score_node_at-requires t c = omega (arith, record-there t (goal.at.score-score_node_at-requires t c).Start)

pub score-bounds-states-0 : goal.score-bounds-states-0
score-bounds-states-0 t c = omega (arith, record-there t (goal.at.score-bounds-states-0 t c).Start)

pub score-boolean_at-n-requires : goal.score-boolean_at-n-requires
score-boolean_at-n-requires t c = omega (arith, record-there t (goal.at.score-boolean_at-n-requires t c).Start)

pub score-slice_bounds-joined-count : goal.score-slice_bounds-joined-count
score-slice_bounds-joined-count t c = omega (arith, record-there t (goal.at.score-slice_bounds-joined-count t c).Start)

pub score-slice_bounds-joined-start : goal.score-slice_bounds-joined-start
score-slice_bounds-joined-start t c = omega (arith, record-there t (goal.at.score-slice_bounds-joined-start t c).Start)

pub score-constant_score-requires : goal.score-constant_score-requires
score-constant_score-requires t c = λ e. let p = c.requires in
    let states = c.args.states.now in
    (constant-is p.0 c.args.reader.now.ranges.now c.args.reader.now.inverses.now (places_in c.args.buffers.now) c.args.depth c.args.doc states c.score_node_at.result c.score_node_at.ensures p.1 p.2 p.6 e).0

pub score-returns-in-Some-clause-score_post : goal.score-returns-in-Some-clause-score_post
score-returns-in-Some-clause-score_post t c = let states = c.args.states.now in
    let k = constant-some c.score_node_at.result c.in-Some.score c.in-Some.ensures in
    λ ix S sc L g m o. (subst (λ (z : Float). ScoreIs ix S c.args.doc z) (sym k.1) (constant-is ix c.args.reader.now.ranges.now c.args.reader.now.inverses.now (places_in c.args.buffers.now) c.args.depth c.args.doc states c.score_node_at.result c.score_node_at.ensures S sc o k.0).1, o)

pub score-overflow_sub-depth : goal.score-overflow_sub-depth
score-overflow_sub-depth t c = let p = c.requires in
    let states = c.args.states.now in
    omega (arith, (score_node_at p.0 c.args.reader.now.ranges.now c.args.reader.now.inverses.now (places_in c.args.buffers.now) c.args.depth c.args.doc states c.score_node_at.result c.score_node_at.ensures c.boolean_at-n.result c.boolean_at-n.ensures p.1 p.2 p.4 p.5 p.6 (constant-none c.score_node_at.result c.in_default.ensures) (boolean-word _ (sym c.in-Boolean.ensures))).deep)

pub score-joined-requires : goal.score-joined-requires
score-joined-requires t c = let p = c.requires in
    let states = c.args.states.now in
    let d = score_node_at p.0 c.args.reader.now.ranges.now c.args.reader.now.inverses.now (places_in c.args.buffers.now) c.args.depth c.args.doc states c.score_node_at.result c.score_node_at.ensures c.boolean_at-n.result c.boolean_at-n.ensures p.1 p.2 p.4 p.5 p.6 (constant-none c.score_node_at.result c.in_default.ensures) (boolean-word _ (sym c.in-Boolean.ensures)) in
    (omega (arith, d.deep), (p.0, d.j, d.rs, d.os, d.rest, p.3, d.asks, d.parts))

pub score-leaf_score-requires : goal.score-leaf_score-requires
score-leaf_score-requires t c = let p = c.requires in
    let states = c.args.states.now in
    let d = leaf-at p.0 c.args.reader.now.ranges.now c.args.reader.now.inverses.now (places_in c.args.buffers.now) c.args.depth c.args.doc states c.score_node_at.result c.score_node_at.ensures p.1 p.2 p.4 p.5 p.6 (constant-none c.score_node_at.result c.in_default.ensures) (λ e. c.in_default-from.not-Boolean (c.from.ensures ∙ ap node_kind e)) in
    (c.args.reader.now.max_doc, (p.0, c.args.reader.now.ranges.now, d.l, d.w, d.s, d.v, p.3, d.asks, d.is))

pub score-returns-in-Boolean-clause-score_post : goal.score-returns-in-Boolean-clause-score_post
score-returns-in-Boolean-clause-score_post t c = let p = c.requires in
    let states = c.args.states.now in
    λ ix S sc L g m o.
    let d = score_node_at ix c.args.reader.now.ranges.now c.args.reader.now.inverses.now (places_in c.args.buffers.now) c.args.depth c.args.doc states c.score_node_at.result c.score_node_at.ensures c.boolean_at-n.result c.boolean_at-n.ensures S sc g m o (constant-none c.score_node_at.result c.in_default.ensures) (boolean-word _ (sym c.in-Boolean.ensures)) in
    let q = c.joined.ensures.join_post ix d.j d.rs d.os d.rest L d.asks d.parts in
    d.done c.joined.result c.joined.new.kids c.joined.auto.kids q.0 q.1

pub score-returns-in_default-from-clause-score_post : goal.score-returns-in_default-from-clause-score_post
score-returns-in_default-from-clause-score_post t c = let p = c.requires in
    let states = c.args.states.now in
    λ ix S sc L g m o.
    let d = leaf-at ix c.args.reader.now.ranges.now c.args.reader.now.inverses.now (places_in c.args.buffers.now) c.args.depth c.args.doc states c.score_node_at.result c.score_node_at.ensures S sc g m o (constant-none c.score_node_at.result c.in_default.ensures) (λ e. c.in_default-from.not-Boolean (c.from.ensures ∙ ap node_kind e)) in
    d.done c.leaf_score.result c.leaf_score.new.states (c.leaf_score.ensures.leaf_post c.args.reader.now.max_doc ix c.args.reader.now.ranges.now d.l d.w d.s d.v L d.asks d.is)

pub optional-loop-at-init : goal.optional-loop-at-init
optional-loop-at-init t c = record { long = refl; same_buffers = same_refl _; sum = optional-start zero-64 }

pub required-loop-at-init : goal.required-loop-at-init
required-loop-at-init t c = record { long = refl; same_buffers = same_refl _; sum = required-start }

pub optional-advance-requires : goal.optional-advance-requires
optional-advance-requires t c = optional-ask c.loop-at.invariant.sum c.loop-at-test.true c.child_at-child.ensures.end_is _ _ (places_same c.loop-at.invariant.same_buffers) c.requires

-- the child stands at the document
stands : (t : _) (c : optional-Then-advance-doc t) → OptionalMid c.args.kids.now c.args.reader.now (places_in c.args.buffers.now) c.args.doc c.args.depth (put c.loop-at.kids c.loop-at.at c.child_at-child.result.end c.advance.new.states) c.loop-at.at c.child_at-child.result.end c.loop-at.sum
stands t c = optional-mid c.loop-at.invariant.sum c.loop-at-test.true c.child_at-child.ensures.end_is _ _ (places_same c.loop-at.invariant.same_buffers) _ _ c.advance.ensures.advance_post c.if-advance-doc.true

pub optional-score-s-requires : goal.optional-score-s-requires
optional-score-s-requires t c = (omega arith, optional-child (stands t (goal.at.optional-score-s-requires t c).Then-advance-doc) (places_same (same_then c.loop-at.invariant.same_buffers c.advance.ensures.same_buffers)) c.requires)

pub optional-add_score-sum-requires-then-advance-doc : goal.optional-add_score-sum-requires-then-advance-doc
optional-add_score-sum-requires-then-advance-doc t c = optional-number (stands t (goal.at.optional-add_score-sum-requires-then-advance-doc t c).Then-advance-doc) (places_same (same_then c.loop-at.invariant.same_buffers c.advance.ensures.same_buffers)) _ _ c.score-s.ensures.score_post c.requires

pub optional-loop-at-preserved-then-advance-doc : goal.optional-loop-at-preserved-then-advance-doc
optional-loop-at-preserved-then-advance-doc t c =
    record {
      long = back_length (put c.loop-at.kids c.loop-at.at c.child_at-child.result.end c.advance.new.states) c.score-s.new.states c.loop-at.at c.child_at-child.result.end c.score-s.auto.states ∙ back_length c.loop-at.kids c.advance.new.states c.loop-at.at c.child_at-child.result.end c.advance.auto.states ∙ c.loop-at.invariant.long;
      same_buffers = same_then (same_then c.loop-at.invariant.same_buffers c.advance.ensures.same_buffers) c.score-s.ensures.same_buffers;
      sum = optional-took (stands t (goal.at.optional-loop-at-preserved-then-advance-doc t c).Then-advance-doc) (places_same (same_then c.loop-at.invariant.same_buffers c.advance.ensures.same_buffers)) _ _ c.score-s.ensures.score_post _ c.add_score-sum-then-advance-doc.ensures;
    }

pub optional-loop-at-preserved : goal.optional-loop-at-preserved
optional-loop-at-preserved t c =
    record {
      long = back_length c.loop-at.kids c.advance.new.states c.loop-at.at c.child_at-child.result.end c.advance.auto.states ∙ c.loop-at.invariant.long;
      same_buffers = same_then c.loop-at.invariant.same_buffers c.advance.ensures.same_buffers;
      sum = optional-left c.loop-at.invariant.sum c.loop-at-test.true c.child_at-child.ensures.end_is _ _ (places_same c.loop-at.invariant.same_buffers) _ _ c.advance.ensures.advance_post c.if-advance-doc.false;
    }

pub optional-returns-clause-optional_post : goal.optional-returns-clause-optional_post
optional-returns-clause-optional_post t c = optional-end c.loop-at.invariant.sum c.loop-at-test.false

pub optional-advance_term-requires : goal.optional-advance_term-requires
optional-advance_term-requires t c = optional-term-ask c.loop-at.invariant.sum c.loop-at-test.true c.child_at-child.ensures.end_is _ _ (places_same c.loop-at.invariant.same_buffers) (term-word _ (sym c.child_at-child.ensures.kind-is ∙ c.in-Term.is)) c.requires

-- the term stands at the document
term-stands : (t : _) (c : optional-Then-advance_term-doc t) → OptionalMid c.args.kids.now c.args.reader.now (places_in c.args.buffers.now) c.args.doc c.args.depth (put c.loop-at.kids c.loop-at.at c.child_at-child.result.end c.advance_term.new.states) c.loop-at.at c.child_at-child.result.end c.loop-at.sum
term-stands t c = optional-mid c.loop-at.invariant.sum c.loop-at-test.true c.child_at-child.ensures.end_is _ _ (places_same c.loop-at.invariant.same_buffers) _ _ (c.advance_term.ensures.term_post (lists_of c.args.reader.now) c.args.depth refl) c.if-advance_term-doc.true

pub optional-term_score-s-requires : goal.optional-term_score-s-requires
optional-term_score-s-requires t c =
    let r = c.args.reader.now in (
      optional-kind c.loop-at.invariant.sum c.loop-at-test.true c.child_at-child.ensures.end_is _ _ (places_same c.loop-at.invariant.same_buffers) _ _ (c.advance_term.ensures.term_post (lists_of c.args.reader.now) c.args.depth refl) (term-word _ (sym c.child_at-child.ensures.kind-is ∙ c.in-Term.is)) c.requires,
      (r.max_doc, r.positions.now, r.ranges.now, places_in c.loop-at.buffers, c.args.depth, optional-child (term-stands t (goal.at.optional-term_score-s-requires t c).Then-advance_term-doc) (places_same c.loop-at.invariant.same_buffers) c.requires),
    )

pub optional-add_score-sum-requires : goal.optional-add_score-sum-requires
optional-add_score-sum-requires t c = optional-number (term-stands t (goal.at.optional-add_score-sum-requires t c).Then-advance_term-doc) (places_same c.loop-at.invariant.same_buffers) _ _ (c.term_score-s.ensures c.args.reader.now.max_doc c.args.reader.now.positions.now c.args.reader.now.ranges.now (places_in c.loop-at.buffers) c.args.depth) c.requires

pub optional-loop-at-preserved-then-advance_term-doc : goal.optional-loop-at-preserved-then-advance_term-doc
optional-loop-at-preserved-then-advance_term-doc t c = record { long = back_length c.loop-at.kids c.advance_term.new.states c.loop-at.at c.child_at-child.result.end c.advance_term.auto.states ∙ c.loop-at.invariant.long; same_buffers = c.loop-at.invariant.same_buffers; sum = optional-term-took (term-stands t (goal.at.optional-loop-at-preserved-then-advance_term-doc t c).Then-advance_term-doc) (places_same c.loop-at.invariant.same_buffers) _ c.term_score-s.ensures _ c.add_score-sum.ensures }

pub optional-loop-at-preserved-else-advance_term-doc : goal.optional-loop-at-preserved-else-advance_term-doc
optional-loop-at-preserved-else-advance_term-doc t c = record { long = back_length c.loop-at.kids c.advance_term.new.states c.loop-at.at c.child_at-child.result.end c.advance_term.auto.states ∙ c.loop-at.invariant.long; same_buffers = c.loop-at.invariant.same_buffers; sum = optional-left c.loop-at.invariant.sum c.loop-at-test.true c.child_at-child.ensures.end_is _ _ (places_same c.loop-at.invariant.same_buffers) _ _ (c.advance_term.ensures.term_post (lists_of c.args.reader.now) c.args.depth refl) c.if-advance_term-doc.false }

pub required-score-s-requires : goal.required-score-s-requires
required-score-s-requires t c = (omega arith, required-child c.loop-at.invariant.sum c.loop-at-test.true c.child_at-child.ensures.end_is (scores-one c.child_at-child.ensures.scores-is c.if-child-2.true) (places_same c.loop-at.invariant.same_buffers) c.requires)

pub required-add_score-sum-requires-then-child-2 : goal.required-add_score-sum-requires-then-child-2
required-add_score-sum-requires-then-child-2 t c = required-number c.loop-at.invariant.sum c.loop-at-test.true c.child_at-child.ensures.end_is (scores-one c.child_at-child.ensures.scores-is c.if-child-2.true) (places_same c.loop-at.invariant.same_buffers) _ _ c.score-s.ensures.score_post c.requires

pub required-loop-at-preserved-then-child-2 : goal.required-loop-at-preserved-then-child-2
required-loop-at-preserved-then-child-2 t c =
    record {
      long = back_length c.loop-at.kids c.score-s.new.states c.loop-at.at c.child_at-child.result.end c.score-s.auto.states ∙ c.loop-at.invariant.long;
      same_buffers = same_then c.loop-at.invariant.same_buffers c.score-s.ensures.same_buffers;
      sum = required-took c.loop-at.invariant.sum c.loop-at-test.true c.child_at-child.ensures.end_is (scores-one c.child_at-child.ensures.scores-is c.if-child-2.true) (places_same c.loop-at.invariant.same_buffers) _ _ c.score-s.ensures.score_post _ c.add_score-sum-then-child-2.ensures;
    }

pub required-loop-at-preserved : goal.required-loop-at-preserved
required-loop-at-preserved t c = record { long = c.loop-at.invariant.long; same_buffers = c.loop-at.invariant.same_buffers; sum = required-skip c.loop-at.invariant.sum c.loop-at-test.true c.child_at-child.ensures.end_is (scores-none c.child_at-child.ensures.scores-is c.if-child-2.false) }

pub required-returns-clause-required_post : goal.required-returns-clause-required_post
required-returns-clause-required_post t c = required-end c.loop-at.invariant.sum c.loop-at-test.false

pub required-term_score-s-requires : goal.required-term_score-s-requires
required-term_score-s-requires t c = required-term c.loop-at.invariant.sum c.loop-at-test.true c.child_at-child.ensures.end_is (scores-one c.child_at-child.ensures.scores-is c.if-child.true) (places_same c.loop-at.invariant.same_buffers) (term-word _ (sym c.child_at-child.ensures.kind-is ∙ c.in-Term.is)) c.requires

pub required-add_score-sum-requires : goal.required-add_score-sum-requires
required-add_score-sum-requires t c = required-number c.loop-at.invariant.sum c.loop-at-test.true c.child_at-child.ensures.end_is (scores-one c.child_at-child.ensures.scores-is c.if-child.true) (places_same c.loop-at.invariant.same_buffers) _ _ (c.term_score-s.ensures c.args.reader.now.max_doc c.args.reader.now.positions.now c.args.reader.now.ranges.now (places_in c.loop-at.buffers) c.args.depth) c.requires

pub required-loop-at-preserved-then-child : goal.required-loop-at-preserved-then-child
required-loop-at-preserved-then-child t c = record { long = c.loop-at.invariant.long; same_buffers = c.loop-at.invariant.same_buffers; sum = required-term-took c.loop-at.invariant.sum c.loop-at-test.true c.child_at-child.ensures.end_is (scores-one c.child_at-child.ensures.scores-is c.if-child.true) (places_same c.loop-at.invariant.same_buffers) _ c.term_score-s.ensures _ c.add_score-sum.ensures }

pub required-loop-at-preserved-else-child : goal.required-loop-at-preserved-else-child
required-loop-at-preserved-else-child t c = record { long = c.loop-at.invariant.long; same_buffers = c.loop-at.invariant.same_buffers; sum = required-skip c.loop-at.invariant.sum c.loop-at-test.true c.child_at-child.ensures.end_is (scores-none c.child_at-child.ensures.scores-is c.if-child.false) }
