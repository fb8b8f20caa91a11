-- A node comes to the first document at or after the target that it matches: kind by kind, and for a Boolean the
-- required, the optional and the prohibited children, each a level deeper.
use Prim.Native.Nat.{◌+◌, ◌-◌, ◌<◌}
use lib.ListN.{length, drop, take}
use lib.Dec.{leb}
use Rattle.meaning.specs.Limits.{no_more_docs, node_state_words}
use Rattle.meaning.specs.First.{First}
use Rattle.tree_weight.specs.ScorerTree.{matching, all_match}
use Rattle.scorer.specs.Calls.{BooleanHeld, leads}
use Rattle.tree_node.specs.Kinds.{node_kind}
use Rattle.tree_node.proofs.Scorers.{phrase-word, boolean-word, is-phrase}
use Rattle.scorer_leaf.specs.Calls.{lists_of}
use mathlib.Core.Path.{refl, sym, ap, ◌∙◌}
use mathlib.Core.List.{◌++◌}
use native.Mathlib.Omega.{arith}
use native.Mathlib.Nat.{le_trans}
use lib.Seq.{length-take-le, get_or-set_same}
use borrow.Author.Tests.{le-leb}
use Rattle.scorer.proofs.Firsts.{pass-done, pass-more, pass-then, pass-only, enough-top, enough-hit, enough-more, kept_top, kept-alone, kept-hit, kept_more}
use Rattle.scorer_leaf.proofs.Loops.{same_refl, same_then, same_room, part_back, back-length, going_start}
use Rattle.scorer.proofs.Leads.{front_length, parts-later, lead-fits, lead-required, lead-turn, lead-optional, lead-joined, alone-optional, alone-joined, alone-first, alone-here, boolean-lead, boolean-turn, boolean-prohibited, boolean-joined, boolean-later, boolean-none}
use Rattle.scorer.proofs.Nodes.{node-long, node-cached, node-leaf, node-sought, node-boolean, node-joined}
use Rattle.scorer.proofs.Children.{child-asked, phrase-asked, term-asked, range-asked}
use Rattle.scorer.proofs.Loops.{least-child, least-end, least_skip, least-took, pass-child, pass-end, pass-skip, pass-took, pass-asked}
use Rattle.scorer.proofs.+advance_conjunction_disjunction_excluding_lead_least_pass_step.Goals as goal
use Rattle.scorer.proofs.+advance_conjunction_disjunction_excluding_lead_least_pass_step.Goals.{excluding-After-lead-d}

pub conjunction-step-e-requires : goal.conjunction-step-e-requires
conjunction-step-e-requires t c =
    let P = c.requires.1 in
    let a = c.loop-d in
    let i = a.invariant.2 P.0 P.1 P.2 P.3 P.5 in
    (omega arith, (a.invariant.1, (P.0, P.1, P.2, P.3, same_room P.4 a.invariant.0.buffers-same, i.held)))

pub conjunction-returns-then-e-d-clause-lead_post : goal.conjunction-returns-then-e-d-clause-lead_post
conjunction-returns-then-e-d-clause-lead_post t c =
    let a = c.loop-d in
    let g = c.step-e in
    λ ix p rs os h.
    let i = a.invariant.2 ix p rs os h in
    let q = g.ensures.step_post ix p rs os i.held in
    (pass-done i.lo i.before q.0 c.if-e-d.true, rw c.if-e-d.true at q.1)

pub conjunction-loop-d-smaller : goal.conjunction-loop-d-smaller
conjunction-loop-d-smaller t c =
    let P = c.requires.1 in
    let a = c.loop-d in
    let i = a.invariant.2 P.0 P.1 P.2 P.3 P.5 in
    let g = c.step-e in
    let q = g.ensures.step_post P.0 P.1 P.2 P.3 i.held in
    omega (arith, q.0.from, q.0.top, c.if-e-d.false)

pub conjunction-loop-d-preserved : goal.conjunction-loop-d-preserved
conjunction-loop-d-preserved t c =
    let P = c.requires.1 in
    let a = c.loop-d in
    let i = a.invariant.2 P.0 P.1 P.2 P.3 P.5 in
    let g = c.step-e in (
      record { kids-same = g.auto.kids ∙ a.invariant.0.kids-same; buffers-same = same_then a.invariant.0.buffers-same g.ensures.same_buffers },
      (g.ensures.step_post P.0 P.1 P.2 P.3 i.held).0.top,
      λ ix p rs os h.
          let i = a.invariant.2 ix p rs os h in
          let q = g.ensures.step_post ix p rs os i.held in
          record { lo = le_trans i.lo q.0.from; before = pass-more i.before q.0; held = q.1 },
    )

pub disjunction-loop-x-init : goal.disjunction-loop-x-init
disjunction-loop-x-init t c =
    (record { kids-same = refl; buffers-same = same_refl _ }, c.requires.1.0, λ ix p ss h. going_start h)

pub disjunction-returns-then-d-eq-NO_MORE_DOCS-clause-disjunction_post : goal.disjunction-returns-then-d-eq-NO_MORE_DOCS-clause-disjunction_post
disjunction-returns-then-d-eq-NO_MORE_DOCS-clause-disjunction_post t c =
    let a = c.loop-x in
    let g = c.least-x in
    λ ix p ss h.
    let i = a.invariant.2 ix p ss h in
    let q = g.ensures.least_post ix p ss i.held in
    (enough-top c.requires.0 i.lo i.before q.0 c.if-d-eq-NO_MORE_DOCS.true, parts-later g.result.doc q.0.first.from q.1)

pub disjunction-loop-x-preserved : goal.disjunction-loop-x-preserved
disjunction-loop-x-preserved t c =
    let P = c.requires.1.1 in
    let a = c.loop-x in
    let i = a.invariant.2 P.0 P.1 P.2 P.4 in
    let g = c.least-x in
    let q = g.ensures.least_post P.0 P.1 P.2 i.held in
    let d : g.result.doc < no_more_docs = omega (arith, q.0.first.top, c.if-d-eq-NO_MORE_DOCS.false) in (
      record { kids-same = g.auto.kids ∙ a.invariant.0.kids-same; buffers-same = same_then a.invariant.0.buffers-same g.ensures.same_buffers },
      omega arith,
      λ ix p ss h.
          let i = a.invariant.2 ix p ss h in
          let q = g.ensures.least_post ix p ss i.held in
          record { lo = omega (arith, i.lo, q.0.first.from); before = enough-more c.requires.0 i.lo i.before q.0 d c.if-enough-x.false; held = parts-later (g.result.doc + 1) (omega (arith, q.0.first.from)) q.1 },
    )

pub disjunction-returns-then-enough-x-clause-disjunction_post : goal.disjunction-returns-then-enough-x-clause-disjunction_post
disjunction-returns-then-enough-x-clause-disjunction_post t c =
    let a = c.loop-x in
    let g = c.least-x in
    λ ix p ss h.
    let i = a.invariant.2 ix p ss h in
    let q = g.ensures.least_post ix p ss i.held in
    (enough-hit c.requires.0 i.lo i.before q.0 c.if-enough-x.true, parts-later g.result.doc q.0.first.from q.1)

pub lead-disjunction-requires : goal.lead-disjunction-requires
lead-disjunction-requires t c =
    let P = c.requires.1 in
    (omega arith, (omega (arith, c.if-n-eq0-2.false), (c.requires.0, (P.0, P.1, P.3, P.4, alone-optional P.5 c.if-n-eq0.true))))

pub lead-returns-then-n-eq0-2-clause-lead_post : goal.lead-returns-then-n-eq0-2-clause-lead_post
lead-returns-then-n-eq0-2-clause-lead_post t c =
    λ ix p rs os h. (alone-here h c.if-n-eq0.true c.args.n.need c.if-n-eq0-2.true c.requires.0, h)

pub lead-returns-else-n-eq0-2-clause-lead_post : goal.lead-returns-else-n-eq0-2-clause-lead_post
lead-returns-else-n-eq0-2-clause-lead_post t c =
    let g = c.disjunction in
    λ ix p rs os h.
    let e = c.if-n-eq0.true in
    let q = g.ensures.disjunction_post ix p os (alone-optional h e) in
    (alone-first h e c.args.n.need g.result q.0, alone-joined h e g.new.kids g.result q.0.from q.1)

pub step-slice_bounds-pass-end : goal.step-slice_bounds-pass-end
step-slice_bounds-pass-end t c = lead-fits c.requires.1.5

pub step-slice_bounds-pass-end-2 : goal.step-slice_bounds-pass-end-2
step-slice_bounds-pass-end-2 t c = sym (length-take-le c.args.n.required_end c.args.kids.now (lead-fits c.requires.1.5))

pub step-pass-e-requires : goal.step-pass-e-requires
step-pass-e-requires t c = let P = c.requires.1 in (omega arith, (c.requires.0, (P.0, P.1, P.2, P.4, lead-required P.5)))

pub step-offset_bounds-kids-end : goal.step-offset_bounds-kids-end
step-offset_bounds-kids-end t c = omega (arith, lead-fits c.requires.1.5, c.well_formed)

pub step-slice_bounds-disjunction-count : goal.step-slice_bounds-disjunction-count
step-slice_bounds-disjunction-count t c =
    let g = c.pass-e in
    omega (arith, lead-fits c.requires.1.5, front_length c.args.kids.now g.new.kids c.args.n.required_end g.auto.kids)

pub step-slice_bounds-disjunction-start : goal.step-slice_bounds-disjunction-start
step-slice_bounds-disjunction-start t c =
    let g = c.pass-e in
    omega (arith, lead-fits c.requires.1.5, front_length c.args.kids.now g.new.kids c.args.n.required_end g.auto.kids, c.well_formed)

pub step-disjunction-requires : goal.step-disjunction-requires
step-disjunction-requires t c =
    let P = c.requires.1 in
    let g = c.pass-e in
    let q = lead-turn P.5 g.new.kids g.result g.ensures.pass_post in
    (omega arith, (omega (arith, c.if-n-eq0.false), (q.0.top, (P.0, P.1, P.3, same_room P.4 g.ensures.same_buffers, lead-optional q.1))))

pub step-returns-then-n-eq0-clause-step_post : goal.step-returns-then-n-eq0-clause-step_post
step-returns-then-n-eq0-clause-step_post t c =
    let g = c.pass-e in
    λ ix p rs os h.
    let q = lead-turn h g.new.kids g.result g.ensures.pass_post in
    (pass-only {P = all_match ix rs} {Q = λ d. leb c.args.n.need (matching ix os d)} (λ d. le-leb c.args.n.need (matching ix os d) (omega (arith, c.if-n-eq0.true))) q.0, q.1)

pub step-returns-else-n-eq0-clause-step_post : goal.step-returns-else-n-eq0-clause-step_post
step-returns-else-n-eq0-clause-step_post t c =
    let g = c.pass-e in
    let x = c.disjunction in
    λ ix p rs os h.
    let q = lead-turn h g.new.kids g.result g.ensures.pass_post in
    let y = x.ensures.disjunction_post ix p os (lead-optional q.1) in
    (pass-then {P = all_match ix rs} {Q = λ d. leb c.args.n.need (matching ix os d)} q.0 y.0, lead-joined q.1 x.new.kids x.result y.0.from y.1)

pub advance-bounds-states-2 : goal.advance-bounds-states-2
advance-bounds-states-2 t c = omega (arith, node-long c.requires.1.5)

pub advance-bounds-states-0 : goal.advance-bounds-states-0
advance-bounds-states-0 t c = omega (arith, node-long c.requires.1.5)

pub advance-returns-then-target-cached-clause-advance_post : goal.advance-returns-then-target-cached-clause-advance_post
advance-returns-then-target-cached-clause-advance_post t c = λ ix p T o z. (node-cached z c.if-target-cached.true, z.ok)

pub advance-boolean_at-n-requires : goal.advance-boolean_at-n-requires
advance-boolean_at-n-requires t c = node-long c.requires.1.5

pub advance-slice_bounds-kids-count : goal.advance-slice_bounds-kids-count
advance-slice_bounds-kids-count t c = omega (arith, node-long c.requires.1.5)

pub advance-slice_bounds-kids-start : goal.advance-slice_bounds-kids-start
advance-slice_bounds-kids-start t c = omega (arith, node-long c.requires.1.5)

pub advance-overflow_sub-depth : goal.advance-overflow_sub-depth
advance-overflow_sub-depth t c =
    let P = c.requires.1 in
    let b = c.boolean_at-n in
    let n = node-boolean c.if-target-cached.false (boolean-word _ (sym c.in-Boolean.ensures)) b.result b.ensures P.2 P.5 in
    omega (arith, n.0)

pub advance-excluding-d-requires : goal.advance-excluding-d-requires
advance-excluding-d-requires t c =
    let P = c.requires.1 in
    let b = c.boolean_at-n in
    let n = node-boolean c.if-target-cached.false (boolean-word _ (sym c.in-Boolean.ensures)) b.result b.ensures P.2 P.5 in
    (omega (arith, n.0), (c.requires.0, (P.0, P.1, n.1.0, n.1.1, n.1.2, P.4, n.1.3)))

pub advance-overflow_add-states : goal.advance-overflow_add-states
advance-overflow_add-states t c =
    let P = c.requires.1 in
    let b = c.boolean_at-n in
    let x = c.excluding-d in
    let d = node-joined c.if-target-cached.false (boolean-word _ (sym c.in-Boolean.ensures)) b.result b.ensures x.result x.new.kids x.ensures.boolean_post P.2 P.5 in
    omega (arith, d.0.top)

pub advance-bounds-states-2-in-Boolean : goal.advance-bounds-states-2-in-Boolean
advance-bounds-states-2-in-Boolean t c =
    let x = c.excluding-d in
    omega (arith, node-long c.requires.1.5, back-length c.args.states.now x.new.kids node_state_words (length c.args.states.now) x.auto.kids)

pub advance-seek-d-requires : goal.advance-seek-d-requires
advance-seek-d-requires t c =
    let P = c.requires.1 in
    let n = node-leaf c.if-target-cached.false (λ e. c.in_default.not-Boolean (c.from.ensures ∙ ap node_kind e)) P.2 P.5 in
    (c.requires.0, (P.0, P.1, n.0, n.1, n.2, P.4, n.3))

pub advance-overflow_add-states-in_default : goal.advance-overflow_add-states-in_default
advance-overflow_add-states-in_default t c =
    let P = c.requires.1 in
    let y = c.seek-d in
    let d = node-sought c.if-target-cached.false c.requires.0 (λ e. c.in_default.not-Boolean (c.from.ensures ∙ ap node_kind e)) y.result y.new.states y.ensures.leaf_post P.2 P.5 in
    omega (arith, d.0.top)

pub advance-bounds-states-2-in_default : goal.advance-bounds-states-2-in_default
advance-bounds-states-2-in_default t c = let y = c.seek-d in omega (arith, node-long c.requires.1.5, y.auto.states)

pub advance-returns-in-Boolean-clause-advance_post : goal.advance-returns-in-Boolean-clause-advance_post
advance-returns-in-Boolean-clause-advance_post t c =
    let b = c.boolean_at-n in
    let x = c.excluding-d in
    λ ix p T o z. node-joined c.if-target-cached.false (boolean-word _ (sym c.in-Boolean.ensures)) b.result b.ensures x.result x.new.kids x.ensures.boolean_post T z

pub advance-returns-in-Boolean-clause-cached_after : goal.advance-returns-in-Boolean-clause-cached_after
advance-returns-in-Boolean-clause-cached_after t c =
    let x = c.excluding-d in
    get_or-set_same (take node_state_words c.args.states.now ++ (x.new.kids ++ drop (length c.args.states.now - node_state_words) (drop node_state_words c.args.states.now))) 2 (x.result + 1) 0 (omega (arith, node-long c.requires.1.5, back-length c.args.states.now x.new.kids node_state_words (length c.args.states.now) x.auto.kids))

pub advance-returns-in_default-clause-advance_post : goal.advance-returns-in_default-clause-advance_post
advance-returns-in_default-clause-advance_post t c =
    let y = c.seek-d in
    λ ix p T o z. node-sought c.if-target-cached.false c.requires.0 (λ e. c.in_default.not-Boolean (c.from.ensures ∙ ap node_kind e)) y.result y.new.states y.ensures.leaf_post T z

pub advance-returns-in_default-clause-cached_after : goal.advance-returns-in_default-clause-cached_after
advance-returns-in_default-clause-cached_after t c =
    let y = c.seek-d in get_or-set_same y.new.states 2 (y.result + 1) 0 (omega (arith, node-long c.requires.1.5, y.auto.states))

pub excluding-lead-d-requires : goal.excluding-lead-d-requires
excluding-lead-d-requires t c =
    let P = c.requires.1 in
    let a = c.loop-n in
    let i = a.invariant.2 P.0 P.1 P.2 P.3 P.4 P.6 in
    (omega arith, (a.invariant.1, (P.0, P.1, P.2, P.3, same_room P.5 a.invariant.0.buffers-same, boolean-lead i.held)))

pub excluding-returns-then-d-eq-NO_MORE_DOCS-clause-boolean_post : goal.excluding-returns-then-d-eq-NO_MORE_DOCS-clause-boolean_post
excluding-returns-then-d-eq-NO_MORE_DOCS-clause-boolean_post t c =
    let a = c.loop-n in
    let g = c.lead-d in
    λ ix p rs os ps h.
    let i = a.invariant.2 ix p rs os ps h in
    let q = boolean-turn i.held c.args.n.need g.new.kids g.result g.auto.kids g.ensures.lead_post in
    (kept_top ix rs os ps c.args.n.need i.lo i.before q.0 c.if-d-eq-NO_MORE_DOCS.true, q.1)

pub excluding-returns-then-n-kids-clause-boolean_post : goal.excluding-returns-then-n-kids-clause-boolean_post
excluding-returns-then-n-kids-clause-boolean_post t c =
    let a = c.loop-n in
    let g = c.lead-d in
    λ ix p rs os ps h.
    let i = a.invariant.2 ix p rs os ps h in
    let q = boolean-turn i.held c.args.n.need g.new.kids g.result g.auto.kids g.ensures.lead_post in
    (kept-alone ix rs os ps c.args.n.need i.lo i.before q.0 (boolean-none q.1 c.if-n-kids.true), q.1)

-- once the lead stands at a document
excluded-lead : (t : _) (c : goal.excluding-After-lead-d t) → First (leads c.requires.1.0 c.requires.1.2 c.requires.1.3 c.args.n.need) c.loop-n.t c.lead-d.result × BooleanHeld (lists_of c.args.reader.now) c.requires.1.0 c.requires.1.1 c.requires.1.2 c.requires.1.3 c.requires.1.4 c.args.depth c.args.n.required_end c.args.n.optional_end (c.lead-d.new.kids ++ drop c.args.n.optional_end c.loop-n.kids) c.lead-d.result
excluded-lead t c =
    let P = c.requires.1 in
    let i = c.loop-n.invariant.2 P.0 P.1 P.2 P.3 P.4 P.6 in
    let g = c.lead-d in
    boolean-turn i.held c.args.n.need g.new.kids g.result g.auto.kids g.ensures.lead_post

pub excluding-least-x-requires : goal.excluding-least-x-requires
excluding-least-x-requires t c =
    let P = c.requires.1 in
    let q = excluded-lead t (goal.at.excluding-least-x-requires t c).After-lead-d in
    (omega arith, (q.0.top, (P.0, P.1, P.4, same_room P.5 (same_then c.loop-n.invariant.0.buffers-same c.lead-d.ensures.same_buffers), boolean-prohibited q.1)))

pub excluding-overflow_add-t : goal.excluding-overflow_add-t
excluding-overflow_add-t t c = let q = excluded-lead t (goal.at.excluding-overflow_add-t t c).After-lead-d in omega (arith, q.0.top)

pub excluding-loop-n-smaller : goal.excluding-loop-n-smaller
excluding-loop-n-smaller t c = let q = excluded-lead t (goal.at.excluding-loop-n-smaller t c).After-lead-d in omega (arith, q.0.from)

pub excluding-loop-n-preserved : goal.excluding-loop-n-preserved
excluding-loop-n-preserved t c =
    let P = c.requires.1 in
    let a = c.loop-n in
    let i = a.invariant.2 P.0 P.1 P.2 P.3 P.4 P.6 in
    let m = c.args.n.optional_end in
    let g = c.lead-d in
    let x = c.least-x in
    let w = g.new.kids ++ drop m a.kids in
    let q = boolean-turn i.held c.args.n.need g.new.kids g.result g.auto.kids g.ensures.lead_post in
    let d : g.result < no_more_docs = omega (arith, q.0.top, c.if-d-eq-NO_MORE_DOCS.false) in (
      record { kids-same = back-length w x.new.kids m (length w) x.auto.kids ∙ front_length a.kids g.new.kids m g.auto.kids ∙ a.invariant.0.kids-same; buffers-same = same_then (same_then a.invariant.0.buffers-same g.ensures.same_buffers) x.ensures.same_buffers },
      omega arith,
      λ ix p rs os ps h.
          let i = a.invariant.2 ix p rs os ps h in
          let q = boolean-turn i.held c.args.n.need g.new.kids g.result g.auto.kids g.ensures.lead_post in
          let y = x.ensures.least_post ix p ps (boolean-prohibited q.1) in
          record { lo = omega (arith, i.lo, q.0.from); before = kept_more ix rs os ps c.args.n.need i.lo i.before q.0 x.result.doc x.result.count d y.0 c.if-x-d.false; held = boolean-later (boolean-joined q.1 x.new.kids y.1) (g.result + 1) (omega arith) },
    )

pub excluding-returns-then-x-d-clause-boolean_post : goal.excluding-returns-then-x-d-clause-boolean_post
excluding-returns-then-x-d-clause-boolean_post t c =
    let a = c.loop-n in
    let g = c.lead-d in
    let x = c.least-x in
    λ ix p rs os ps h.
    let i = a.invariant.2 ix p rs os ps h in
    let q = boolean-turn i.held c.args.n.need g.new.kids g.result g.auto.kids g.ensures.lead_post in
    let y = x.ensures.least_post ix p ps (boolean-prohibited q.1) in
    (kept-hit ix rs os ps c.args.n.need i.lo i.before q.0 x.result.doc x.result.count y.0 c.if-x-d.true, boolean-joined q.1 x.new.kids y.1)

pub least-slice_bounds-advance_term-end : goal.least-slice_bounds-advance_term-end
least-slice_bounds-advance_term-end t c = omega (arith, (least-child c.requires.1 c.loop-at.invariant c.loop-at-test.true).there, c.loop-at.invariant.0, c.well_formed, c.child_at-child.ensures.end_is)

pub least-advance_term-d-requires : goal.least-advance_term-d-requires
least-advance_term-d-requires t c = term-asked (least-child c.requires.1 c.loop-at.invariant c.loop-at-test.true) c.child_at-child.ensures c.in-Term.is

pub least-loop-at-preserved-in-Term : goal.least-loop-at-preserved-in-Term
least-loop-at-preserved-in-Term t c =
    let a = c.loop-at in
    let l = c.loop-at-test.true in
    let d = c.advance_term-d in
    (part_back a.kids a.invariant.0 d.new.states a.at _ d.auto.states (same_refl _), λ ix p ss h. least-took (a.invariant.1 ix p ss h) l _ c.child_at-child.ensures.end_is d.result c.with-least.result.doc c.with-least.result.count d.new.states d.auto.states (d.ensures.term_post (lists_of c.args.reader.now) c.args.depth refl) c.with-least.ensures)

pub least-child_at-child-requires : goal.least-child_at-child-requires
least-child_at-child-requires t c = (least-child c.requires.1 c.loop-at.invariant c.loop-at-test.true).there

pub least-loop-at-smaller-in_default : goal.least-loop-at-smaller-in_default
least-loop-at-smaller-in_default t c = omega (arith, (least-child c.requires.1 c.loop-at.invariant c.loop-at-test.true).there, c.child_at-child.ensures.end_is)

pub least-loop-at-preserved-in_default : goal.least-loop-at-preserved-in_default
least-loop-at-preserved-in_default t c =
    let a = c.loop-at in
    let k = c.child_at-child in
    let y = c.with-least-in_default in
    (a.invariant.0, λ ix p ss h. least_skip (a.invariant.1 ix p ss h) c.loop-at-test.true k.result.end k.ensures.end_is k.result.cached y.result.doc y.result.count k.ensures.cached-is c.if-target-child.true y.ensures)

pub least-slice_bounds-advance-end : goal.least-slice_bounds-advance-end
least-slice_bounds-advance-end t c = omega (arith, (least-child c.requires.1 c.loop-at.invariant c.loop-at-test.true).there, c.loop-at.invariant.0, c.well_formed, c.child_at-child.ensures.end_is)

pub least-advance-d-requires : goal.least-advance-d-requires
least-advance-d-requires t c = (omega arith, child-asked (least-child c.requires.1 c.loop-at.invariant c.loop-at-test.true) c.child_at-child.ensures)

pub least-loop-at-preserved : goal.least-loop-at-preserved
least-loop-at-preserved t c =
    let a = c.loop-at in
    let d = c.advance-d in
    let y = c.with-least-in_default-2 in
    (part_back a.kids a.invariant.0 d.new.states a.at _ d.auto.states d.ensures.same_buffers, λ ix p ss h. least-took (a.invariant.1 ix p ss h) c.loop-at-test.true _ c.child_at-child.ensures.end_is d.result y.result.doc y.result.count d.new.states d.auto.states d.ensures.advance_post y.ensures)

pub least-returns-clause-least_post : goal.least-returns-clause-least_post
least-returns-clause-least_post t c = λ ix p ss h. least-end (c.loop-at.invariant.1 ix p ss h) c.loop-at-test.false

pub pass-slice_bounds-advance_term-end : goal.pass-slice_bounds-advance_term-end
pass-slice_bounds-advance_term-end t c = omega (arith, (pass-child c.requires.1 c.loop-at.invariant c.loop-at-test.true).there, c.loop-at.invariant.0, c.well_formed, c.child_at-child.ensures.end_is)

pub pass-advance_term-d-requires : goal.pass-advance_term-d-requires
pass-advance_term-d-requires t c = term-asked (pass-child c.requires.1 c.loop-at.invariant c.loop-at-test.true) c.child_at-child.ensures c.in-Term.is

pub pass-loop-at-preserved-in-Term : goal.pass-loop-at-preserved-in-Term
pass-loop-at-preserved-in-Term t c =
    let a = c.loop-at in
    let l = c.loop-at-test.true in
    let d = c.advance_term-d in
    (part_back a.kids a.invariant.0 d.new.states a.at _ d.auto.states (same_refl _), λ ix p ss h. pass-took (a.invariant.1 ix p ss h) l _ c.child_at-child.ensures.end_is d.result d.new.states d.auto.states (d.ensures.term_post (lists_of c.args.reader.now) c.args.depth refl))

pub pass-slice_bounds-advance_range-end : goal.pass-slice_bounds-advance_range-end
pass-slice_bounds-advance_range-end t c = omega (arith, (pass-child c.requires.1 c.loop-at.invariant c.loop-at-test.true).there, c.loop-at.invariant.0, c.well_formed, c.child_at-child.ensures.end_is)

pub pass-advance_range-d-requires : goal.pass-advance_range-d-requires
pass-advance_range-d-requires t c = range-asked (pass-child c.requires.1 c.loop-at.invariant c.loop-at-test.true) c.child_at-child.ensures c.in-Range.is

pub pass-loop-at-preserved-in-Range : goal.pass-loop-at-preserved-in-Range
pass-loop-at-preserved-in-Range t c =
    let a = c.loop-at in
    let l = c.loop-at-test.true in
    let d = c.advance_range-d in
    (part_back a.kids a.invariant.0 d.new.states a.at _ d.auto.states (same_refl _), λ ix p ss h. pass-took (a.invariant.1 ix p ss h) l _ c.child_at-child.ensures.end_is d.result d.new.states d.auto.states (d.ensures (lists_of c.args.reader.now) c.args.depth refl))

pub pass-child_at-child-requires : goal.pass-child_at-child-requires
pass-child_at-child-requires t c = (pass-child c.requires.1 c.loop-at.invariant c.loop-at-test.true).there

pub pass-loop-at-smaller-then-d-child : goal.pass-loop-at-smaller-then-d-child
pass-loop-at-smaller-then-d-child t c = omega (arith, (pass-child c.requires.1 c.loop-at.invariant c.loop-at-test.true).there, c.child_at-child.ensures.end_is)

pub pass-loop-at-preserved-then-d-child : goal.pass-loop-at-preserved-then-d-child
pass-loop-at-preserved-then-d-child t c =
    let a = c.loop-at in
    let k = c.child_at-child in
    (a.invariant.0, λ ix p ss h. pass-skip (a.invariant.1 ix p ss h) c.loop-at-test.true k.result.end k.ensures.end_is k.result.cached k.ensures.cached-is c.if-d-child.true)

pub pass-slice_bounds-ask_phrase-end : goal.pass-slice_bounds-ask_phrase-end
pass-slice_bounds-ask_phrase-end t c = omega (arith, (pass-child c.requires.1 c.loop-at.invariant c.loop-at-test.true).there, c.loop-at.invariant.0, c.well_formed, c.child_at-child.ensures.end_is)

pub pass-ask_phrase-d-requires : goal.pass-ask_phrase-d-requires
pass-ask_phrase-d-requires t c =
    let is = c.child_at-child.ensures in
    phrase-asked (pass-child c.requires.1 c.loop-at.invariant c.loop-at-test.true) is (phrase-word _ (sym is.kind-is ∙ is-phrase _ (sym c.eq.ensures ∙ c.if-eq.true))) c.if-d-child.false

pub pass-loop-at-smaller-in-Range : goal.pass-loop-at-smaller-in-Range
pass-loop-at-smaller-in-Range t c = omega (arith, (pass-child c.requires.1 c.loop-at.invariant c.loop-at-test.true).there, c.child_at-child.ensures.end_is, back-length c.loop-at.kids c.advance_range-d.new.states c.loop-at.at c.child_at-child.result.end c.advance_range-d.auto.states)

pub pass-loop-at-smaller-then-eq : goal.pass-loop-at-smaller-then-eq
pass-loop-at-smaller-then-eq t c =
    let a = c.loop-at in
    let e = c.child_at-child.ensures.end_is in
    omega (arith, (pass-child c.requires.1 a.invariant c.loop-at-test.true).there, e, back-length a.kids c.ask_phrase-d.new.states a.at c.child_at-child.result.end c.ask_phrase-d.auto.states)

pub pass-loop-at-preserved-then-eq : goal.pass-loop-at-preserved-then-eq
pass-loop-at-preserved-then-eq t c =
    let a = c.loop-at in
    let d = c.ask_phrase-d in
    (part_back a.kids a.invariant.0 d.new.states a.at _ d.auto.states d.ensures.same_buffers, λ ix p ss h. pass-asked (a.invariant.1 ix p ss h) c.loop-at-test.true _ c.child_at-child.ensures.end_is d.result d.new.states d.auto.states (d.ensures.ask_post (lists_of c.args.reader.now) c.args.depth refl refl))

pub pass-slice_bounds-advance-end : goal.pass-slice_bounds-advance-end
pass-slice_bounds-advance-end t c = omega (arith, (pass-child c.requires.1 c.loop-at.invariant c.loop-at-test.true).there, c.loop-at.invariant.0, c.well_formed, c.child_at-child.ensures.end_is)

pub pass-advance-d-requires : goal.pass-advance-d-requires
pass-advance-d-requires t c = (omega arith, child-asked (pass-child c.requires.1 c.loop-at.invariant c.loop-at-test.true) c.child_at-child.ensures)

pub pass-loop-at-preserved : goal.pass-loop-at-preserved
pass-loop-at-preserved t c =
    let a = c.loop-at in
    let d = c.advance-d in
    (part_back a.kids a.invariant.0 d.new.states a.at _ d.auto.states d.ensures.same_buffers, λ ix p ss h. pass-took (a.invariant.1 ix p ss h) c.loop-at-test.true _ c.child_at-child.ensures.end_is d.result d.new.states d.auto.states d.ensures.advance_post)

pub pass-returns-clause-pass_post : goal.pass-returns-clause-pass_post
pass-returns-clause-pass_post t c = λ ix p ss h. pass-end (c.loop-at.invariant.1 ix p ss h) c.loop-at-test.false
