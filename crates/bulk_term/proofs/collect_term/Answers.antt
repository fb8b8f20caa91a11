-- The run's postings one after the other: each is a posting of the root's leaf.
use Rattle.std.proofs.Common.{sym, ◌∙◌, List, [], ℤ, get_or, arith, ◌+◌, ◌≤◌}
use Rattle.collector.specs.declared.TopScoreDocCollector.{TopScoreDocCollector}
use Rattle.bulk_scorer.proofs.Held.{root-words}
use Rattle.bulk_term.proofs.Roots.{joined}
use Rattle.bulk_term.proofs.Runs.{run_length}
use Rattle.bulk_term.proofs.TermRoot.{RootAt, PostingIs, TermsAt, asked-root, posting-read, term-start, term-done, term-small, term-bit, term-ready, term_asks, term-pass, term-clear, term-take}
use Rattle.bulk_term.proofs.collect_term.Goals as goal
use Rattle.bulk_term.proofs.collect_term.Goals.{After-score_node_at-n, In-loop-doc, then-is_live, else-is_live}

root : (c : After-score_node_at-n) → RootAt c.args.reader.now c.score_node_at-n.result c.args.doc_base
root c = asked-root c.args.reader.now c.score_node_at-n.result c.args.states.now c.args.doc_base c.args.c c.args.heap.now c.requires c.score_node_at-n.ensures

posting : (c : In-loop-doc) → RootAt c.args.reader.now c.score_node_at-n.result c.args.doc_base → PostingIs c.args.reader.now c.score_node_at-n.result c.loop-doc.doc-index (get_or (get_or c.as_chunks.result.0.now c.loop-doc.doc-index []) 0 0) (get_or (get_or c.as_chunks.result.0.now c.loop-doc.doc-index []) 1 0)
posting c w = posting-read w c.as_chunks.result.0.now c.as_chunks.ensures.front c.loop-doc.doc-index (omega (arith, c.loop-doc-test.true, c.as_chunks.ensures.front_len))

pub score_node_at-n-requires : goal.score_node_at-n-requires
score_node_at-n-requires c =
    let r = c.args.reader.now in
    let q = c.requires in
    root-words q.0 r.norms.now r.live.now r.inverses.now q.5.2.0 q.1 q.5.2.1 q.2 q.5.2.2 c.args.states.now q.5.2.3

pub slice_bounds-as_chunks-end : goal.slice_bounds-as_chunks-end
slice_bounds-as_chunks-end c = omega (arith, (root (goal.at.slice_bounds-as_chunks-end c).After-score_node_at-n).ends)

pub loop-doc-init : goal.loop-doc-init
loop-doc-init c = term-start _ _ _ _ _

pub is_live-requires : goal.is_live-requires
is_live-requires c = let p = goal.at.is_live-requires c in let w = root p.After-score_node_at-n in term-bit (posting p.In-loop-doc w) w

pub posting_score-s-requires : goal.posting_score-s-requires
posting_score-s-requires c = let p = goal.at.posting_score-s-requires c in let w = root p.After-score_node_at-n in term_asks (posting p.In-loop-doc w) w

pub overflow_add-doc_base : goal.overflow_add-doc_base
overflow_add-doc_base c = let p = goal.at.overflow_add-doc_base c in let w = root p.After-score_node_at-n in omega (arith, term-small (posting p.In-loop-doc w) w)

pub stepped-c-requires : goal.stepped-c-requires
stepped-c-requires c =
    let p = goal.at.stepped-c-requires c in
    let w = root p.After-score_node_at-n in
    let q = posting p.In-loop-doc w in
    record { ready = term-ready c.loop-doc.invariant q w c.requires.5.1; doc_lt_no_more_docs = term-small q w; t = term-clear q w _ c.posting_score-s.ensures }

pub loop-doc-preserved : goal.loop-doc-preserved
loop-doc-preserved c =
    let a = c.args in
    let p = goal.at.loop-doc-preserved c in
    let q = posting p.In-loop-doc (root p.After-score_node_at-n) in
    let i = c.loop-doc.invariant in
    let P : TopScoreDocCollector → List ℤ → Type 0 = λ k z. TermsAt a.reader.now c.score_node_at-n.result a.doc_base a.c a.heap.now k z (c.loop-doc.doc-index + 1) in
    elim c.if-is_live.branch [
      | then-is_live w ↦ joined P _ _ _ _ w.heap-is w.c-is (term-take i q (sym c.is_live.ensures ∙ w.if-is_live.true) _ w.posting_score-s.ensures _ _ w.stepped-c.ensures)
      | else-is_live w ↦ joined P _ _ _ _ w.heap-is w.c-is (term-pass i q (sym c.is_live.ensures ∙ w.if-is_live.false))
    ]

pub returns : goal.returns
returns c =
    let n = c.score_node_at-n.result in
    let ends = (root (goal.at.returns c).After-score_node_at-n).ends in
    let past : n.number ≤ c.loop-doc.doc-index = omega (arith, c.loop-doc-test.false, c.as_chunks.ensures.front_len, run_length c.args.reader.now.postings.now n.first n.number ends) in
    λ E places depth same. term-done c.loop-doc.invariant past c.args.states.now c.score_node_at-n.ensures c.requires.4 E places depth same
