-- The tree that was built is lent to the loop, and stands afterwards at its end.
use Rattle.std.proofs.Common.{◌∙◌, ap, rules}
use Rattle.meaning.specs.Limits.{no_more_docs}
use Rattle.meaning.specs.CallRefusals.{work_short}
use Rattle.index.specs.IndexOf.{index_of}
use Rattle.searcher.specs.WorkBuffers.{lengths_of}
use Rattle.searcher.specs.WalkLent.{CollectGives}
use Rattle.searcher.proofs.Preparing.{moved-on, placed-whole, placed-stands, has-tree, stands-size, standing-in, collect-asks, collect-gives, collect-stands}
use Rattle.searcher.proofs.search.collect.Goals as goal

pub over_tree-requires-clause-tree : goal.over_tree-requires-clause-tree
over_tree-requires-clause-tree c =
    let ix = index_of c.args.lent.now in
    let q = c.args.query.now in
    let p = c.build_tree in
    let b = p.new.buffers in
    has-tree ix q b 0 (placed-stands ix q b.ranges.now b.states.now 0 p.result p.ensures.placed)

pub over_tree-requires-clause-callable : goal.over_tree-requires-clause-callable
over_tree-requires-clause-callable c = λ table t r bs tables lent.
    let a = c.args in
    let ix = index_of a.lent.now in
    let q = a.query.now in
    let p = c.build_tree in
    let b = p.new.buffers in
    let long = ap (work_short ix q) p.ensures.same_buffers.lengths ∙ c.requires.asks.1 in
    let placed = placed-whole ix q b.ranges.now b.states.now p.result p.ensures.placed in
    let size = stands-size ix q b.ranges.now b.states.now 0 (placed-stands ix q b.ranges.now b.states.now 0 p.result p.ensures.placed) in
    let pre = collect-asks a.lent.now q (lengths_of b) c.requires.asks.0 long table tables b.ranges.now b.states.now _ size lent placed a.collector a.heap.now c.requires.ready in
    search rules

pub returns : goal.returns
returns c =
    let a = c.args in
    let ix = index_of a.lent.now in
    let q = a.query.now in
    let p = c.build_tree in
    let b = p.new.buffers in
    let o = c.over_tree in
    let e = o.ensures in
    let long = ap (work_short ix q) p.ensures.same_buffers.lengths ∙ c.requires.asks.1 in
    let placed = placed-whole ix q b.ranges.now b.states.now p.result p.ensures.placed in
    let size = stands-size ix q b.ranges.now b.states.now 0 (placed-stands ix q b.ranges.now b.states.now 0 p.result p.ensures.placed) in
    let gives : CollectGives e.2.now e.3.now e.1.now a.collector a.heap.now o.result _ e.4.now = search rules in
    let stands = collect-stands a.lent.now q (lengths_of b) c.requires.asks.0 long e.0 e.6 b.ranges.now b.states.now _ size e.7 placed a.collector a.heap.now gives in
    record {
      collected = collect-gives a.lent.now q (lengths_of b) c.requires.asks.0 long e.0 e.6 b.ranges.now b.states.now _ size e.7 placed a.collector a.heap.now gives;
      standing = standing-in ix q no_more_docs e.8.ranges_stay e.8.states_after stands;
      same_buffers = moved-on a.buffers.now b _ p.ensures.same_buffers e.8.same_buffers;
    }
