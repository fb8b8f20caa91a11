-- Window after window: what the tree matches is collected, and nothing lies in between.
use Rattle.std.proofs.Common.{rules, refl, arith, get_or}
use Rattle.scorer_leaf.specs.Calls.{lists_of}
use Rattle.scorer_leaf.specs.Buffers.{room, other_room, places_in, SameBuffers}
use Rattle.bulk_scorer.proofs.Held.{root-words}
use Rattle.std.specs.Float.{binary64}
use Rattle.std.specs.Float.Ieee.{of_bits}
use Rattle.score_leaf.proofs.Bounds.{zero-64}
use Rattle.bulk_window.proofs.Scores.{zeros}
use Rattle.window_score.specs.Sums.{Zeros}
use Rattle.window_score.specs.Asked.{reads}
use Rattle.bulk_window.specs.Windows.{WindowPre, WindowPost}
use Rattle.bulk_window.proofs.Loop.{loop-start, loop-end, loop-done, loop-step, window-small, window-next, window-scores}
use Rattle.bulk_window.proofs.Window.{window-clear, window-none, window-some, window-zeros}
use Rattle.bulk_window.proofs.collect_windows.Goals as goal
use Rattle.bulk_window.proofs.collect_windows.Goals.{After-node_bits-places, then-places-ne0, else-places-ne0}

pub loop-base-init : goal.loop-base-init
loop-base-init c =
    let a = c.args in
    record {
      whole = refl;
      zeros = zeros (of_bits binary64 0) zero-64;
      top = omega arith;
      buffers = search rules;
      at = loop-start a.reader.now (places_in a.buffers.now) a.states.now a.depth a.doc_base a.c a.heap.now;
    }

pub bounds-states-22 : goal.bounds-states-22
bounds-states-22 c =
    let a = c.args in
    let r = c.requires.2 in
    let long = root-words (lists_of a.reader.now) a.reader.now.norms.now a.reader.now.live.now a.reader.now.inverses.now r.0 (places_in a.buffers.now) r.1 a.depth r.2 a.states.now r.3 in
    omega (arith, long, c.loop-base.auto.states, c.node_bits-places.auto.states)

-- what `root_scores` and `collect_places` ask
asked : (c : After-node_bits-places) → WindowPre c.node_bits-places.new.states (reads c.args.reader.now c.loop-base.base) (room c.node_bits-places.new.buffers) (other_room c.node_bits-places.new.buffers) c.node_bits-places.result c.args.depth c.args.doc_base c.loop-base.c c.loop-base.heap
asked c =
    let a = c.args in
    let l = c.loop-base in
    let r = c.requires.2 in
    window-scores a.reader.now (places_in a.buffers.now) a.states.now a.depth a.doc_base a.c a.heap.now l.states l.c l.heap l.base l.invariant.at c.loop-base-test.true r.0 r.1 r.2 r.3 (room l.buffers) (other_room l.buffers) c.live_bits-want.result (omega arith) c.live_bits-want.ensures (room c.node_bits-places.new.buffers) (other_room c.node_bits-places.new.buffers) (omega arith) c.node_bits-places.result (get_or c.node_bits-places.new.states 22 0) c.node_bits-places.new.states refl c.node_bits-places.ensures.bits_post c.requires.0 c.requires.1

pub root_scores-requires : goal.root_scores-requires
root_scores-requires c = (c.loop-base.invariant.zeros, (asked (goal.at.root_scores-requires c).After-node_bits-places).3)

pub collect_places-c-requires : goal.collect_places-c-requires
collect_places-c-requires c =
    let W = asked (goal.at.collect_places-c-requires c).After-node_bits-places in
    let r = W.3 in
    let post = c.root_scores.ensures.root_post r.0 r.1 r.2 r.3 r.4 r.5 r.6 in
    (W.0, post.0.long, W.2, (λ p h e. (W.1 p h e, window-clear r.5 r.6 _ c.root_scores.new.sums post.0 p h e)))

pub loop-base-preserved : goal.loop-base-preserved
loop-base-preserved c =
    let a = c.args in
    let l = c.loop-base in
    let r = c.requires.2 in
    let go = c.next_window-base.ensures in
    let small = window-small a.reader.now (places_in a.buffers.now) a.states.now a.depth a.doc_base a.c a.heap.now l.states l.c l.heap l.base l.invariant.at c.loop-base-test.true r.0 r.1 r.2 r.3 in
    let next = window-next a.reader.now (places_in a.buffers.now) a.states.now a.depth a.doc_base a.c a.heap.now l.states l.c l.heap l.base l.invariant.at c.loop-base-test.true r.0 r.1 r.2 r.3 (room l.buffers) (other_room l.buffers) c.live_bits-want.result (omega arith) c.live_bits-want.ensures (room c.node_bits-places.new.buffers) (other_room c.node_bits-places.new.buffers) (omega arith) c.node_bits-places.result (get_or c.node_bits-places.new.states 22 0) c.node_bits-places.new.states refl c.node_bits-places.ensures.bits_post in
    let places = c.node_bits-places.result in
    let states = c.node_bits-places.new.states in
    let V = reads a.reader.now l.base in
    let W = asked (goal.at.loop-base-preserved c).After-node_bits-places in
    let R = room c.node_bits-places.new.buffers in
    let O = other_room c.node_bits-places.new.buffers in
    let j = c.if-places-ne0 in
    let done : WindowPost states V R O places a.depth a.doc_base l.c l.heap j.c j.heap j.states × Zeros j.sums = elim j.branch [
      | then-places-ne0 w ↦ rw (w.c-is, w.heap-is, w.states-is, w.sums-is) (
        window-some states V R O places a.depth a.doc_base l.c l.heap l.sums w.root_scores.new.sums w.root_scores.new.states w.root_scores.ensures.root_post w.collect_places-c.result w.collect_places-c.new.heap w.collect_places-c.ensures.collected,
        window-zeros states V R O places a.depth a.doc_base l.c l.heap l.sums w.root_scores.new.sums w.root_scores.new.states w.root_scores.ensures.root_post W w.collect_places-c.new.sums l.invariant.zeros w.collect_places-c.ensures.cleared,
      )
      | else-places-ne0 w ↦ rw (w.c-is, w.heap-is, w.states-is, w.sums-is) (window-none states V R O places a.depth a.doc_base l.c l.heap (omega (arith, w.if-places-ne0.false)), l.invariant.zeros)
    ] in
    let same : SameBuffers a.buffers.now j.buffers = elim j.branch [ then-places-ne0 w ↦ rw w.buffers-is (search rules) | else-places-ne0 w ↦ rw w.buffers-is (search rules) ] in
    record {
      whole = go.whole;
      zeros = done.1;
      top = omega (arith, go.reached, small, next);
      buffers = same;
      at = loop-step a.reader.now (places_in a.buffers.now) a.states.now a.depth a.doc_base a.c a.heap.now l.states l.c l.heap l.base l.invariant.at c.loop-base-test.true (room l.buffers) (other_room l.buffers) c.live_bits-want.result (omega arith) c.live_bits-want.ensures (room c.node_bits-places.new.buffers) (other_room c.node_bits-places.new.buffers) (omega arith) c.node_bits-places.result (get_or c.node_bits-places.new.states 22 0) c.node_bits-places.new.states refl c.node_bits-places.ensures.bits_post j.c j.heap j.states done.0 c.next_window-base.result go;
    }

pub returns-clause-collect_post : goal.returns-clause-collect_post
returns-clause-collect_post c =
    let a = c.args in
    let l = c.loop-base in
    loop-done a.reader.now (places_in a.buffers.now) a.states.now a.depth a.doc_base a.c a.heap.now l.states l.c l.heap l.base l.invariant.at (omega (arith, c.loop-base-test.false))

pub returns-clause-collect_end : goal.returns-clause-collect_end
returns-clause-collect_end c =
    let a = c.args in
    let l = c.loop-base in
    loop-end a.reader.now (places_in a.buffers.now) a.states.now a.depth a.doc_base a.c a.heap.now l.states l.c l.heap l.base l.invariant.at l.invariant.top
