-- The documents one after the other: each matches, and those that are live are collected.
use Rattle.std.proofs.Common.{◌≡◌, refl, sym, ◌∙◌, ◌+◌, List, ℤ, length, arith}
use Rattle.collector.specs.declared.TopScoreDocCollector.{TopScoreDocCollector}
use Rattle.bulk_scorer.proofs.Held.{root-page, root-words}
use Rattle.bulk_scorer.proofs.Sofar.{nonneg-clear}
use Rattle.bulk_term.proofs.Roots.{joined}
use Rattle.bulk.proofs.AnyRoot.{AnysAt, asked-any, any-is, any-root, any-start, any-ready, any-done, any-pass, any-take}
use Rattle.bulk.proofs.everything.collect_everything.Goals as goal
use Rattle.bulk.proofs.everything.collect_everything.Goals.{then-is_live, else-is_live}

pub score_node_at-requires : goal.score_node_at-requires
score_node_at-requires c =
    let a = c.args in
    let live = a.reader.now.live.now in
    let q = c.requires in
    root-words q.0 q.1 live q.2 q.7.2.0 q.3 q.7.2.1 q.4 q.7.2.2 a.states.now q.7.2.3

pub one_score-s-requires : goal.one_score-s-requires
one_score-s-requires c =
    let a = c.args in
    let documents = a.reader.now.max_doc in
    let live = a.reader.now.live.now in
    let W = asked-any documents live c.score_node_at.result a.states.now a.doc_base a.c a.heap.now c.requires c.score_node_at.ensures in
    (W.sc, W.scores)

pub loop-doc-init : goal.loop-doc-init
loop-doc-init c =
    let a = c.args in
    let documents = a.reader.now.max_doc in
    let live = a.reader.now.live.now in
    record { long = refl; collected = any-start documents live c.one_score-s.result a.doc_base a.c a.heap.now }

pub stepped-c-requires-clause-ready : goal.stepped-c-requires-clause-ready
stepped-c-requires-clause-ready c =
    let a = c.args in
    let documents = a.reader.now.max_doc in
    let live = a.reader.now.live.now in
    let l = c.loop-doc in
    let W = asked-any documents live c.score_node_at.result a.states.now a.doc_base a.c a.heap.now c.requires c.score_node_at.ensures in
    let R = any-root documents live c.one_score-s.result c.score_node_at.result c.one_score-s.ensures c.requires.7.2.0 c.requires.7.2.1 W in
    any-ready documents live c.one_score-s.result a.doc_base a.c a.heap.now l.c l.heap l.doc l.invariant.collected c.requires.7.2.0 W.sc R c.requires.7.1 (a.doc_base + l.doc) (omega arith)

pub stepped-c-requires-clause-t : goal.stepped-c-requires-clause-t
stepped-c-requires-clause-t c =
    let a = c.args in
    let documents = a.reader.now.max_doc in
    let live = a.reader.now.live.now in
    let W = asked-any documents live c.score_node_at.result a.states.now a.doc_base a.c a.heap.now c.requires c.score_node_at.ensures in
    let R = any-root documents live c.one_score-s.result c.score_node_at.result c.one_score-s.ensures c.requires.7.2.0 c.requires.7.2.1 W in
    nonneg-clear c.one_score-s.result R.small.sign

pub loop-doc-preserved : goal.loop-doc-preserved
loop-doc-preserved c =
    let a = c.args in
    let documents = a.reader.now.max_doc in
    let live = a.reader.now.live.now in
    let l = c.loop-doc in
    let h = c.loop-doc-test.true in
    let P : TopScoreDocCollector → List ℤ → Type 0 = λ k z. record { long : length z ≡ length a.heap.now; collected : AnysAt documents live c.one_score-s.result a.doc_base a.c a.heap.now k z (l.doc + 1) } in
    elim c.if-is_live.branch [
      | then-is_live w ↦ joined P _ _ _ _ w.heap-is w.c-is (record { long = w.stepped-c.auto.heap ∙ l.invariant.long; collected = any-take documents live c.one_score-s.result a.doc_base a.c a.heap.now l.c l.heap l.doc l.invariant.collected h (sym c.is_live.ensures ∙ w.if-is_live.true) w.stepped-c.result w.stepped-c.new.heap w.stepped-c.ensures })
      | else-is_live w ↦ joined P _ _ _ _ w.heap-is w.c-is (record { long = l.invariant.long; collected = any-pass documents live c.one_score-s.result a.doc_base a.c a.heap.now l.c l.heap l.doc l.invariant.collected h (sym c.is_live.ensures ∙ w.if-is_live.false) })
    ]

pub returns : goal.returns
returns c =
    let a = c.args in
    let documents = a.reader.now.max_doc in
    let live = a.reader.now.live.now in
    let l = c.loop-doc in
    λ E norms table places depth same ix s scores H.
    let W = any-is documents live c.score_node_at.result E norms table places depth a.states.now c.score_node_at.ensures c.requires.6 same ix s scores (root-page E norms live table ix places s depth scores a.states.now H) in
    rw same (any-done documents live c.one_score-s.result a.doc_base a.c a.heap.now l.c l.heap l.doc l.invariant.collected (omega (arith, c.loop-doc-test.false, c.loop-doc.auto.doc-end)) ix s W.sc W.is (any-root documents live c.one_score-s.result c.score_node_at.result c.one_score-s.ensures ix s W))
