-- The tree that stands there is lent to the walk, which lists the page of the full list and stands at the next match.
use Rattle.std.proofs.Common.{rules}
use Rattle.index.specs.IndexOf.{index_of}
use Rattle.searcher.specs.WorkBuffers.{lengths_of}
use Rattle.searcher.proofs.Preparing.{has-tree, stands-size, standing-in, list-asks, list-gives}
use Rattle.searcher.proofs.page.list_page.Goals as goal

pub over_tree-requires-clause-tree : goal.over_tree-requires-clause-tree
over_tree-requires-clause-tree c =
    let ix = index_of c.args.lent.now in
    let q = c.args.query.now in
    let b = c.args.buffers.now in
    let stands = c.requires.standing in
    has-tree ix q b c.args.target stands

pub over_tree-requires-clause-callable : goal.over_tree-requires-clause-callable
over_tree-requires-clause-callable c = λ table t r bs tables lent.
    let a = c.args in
    let b = a.buffers.now in
    let size = stands-size (index_of a.lent.now) a.query.now b.ranges.now b.states.now a.target c.requires.standing in
    let pre = list-asks a.lent.now a.query.now (lengths_of b) c.requires.asks.0 c.requires.asks.1 table tables b.ranges.now b.states.now _ size lent a.target c.requires.standing a.documents.now a.scores.now c.requires.target_le_max_doc.0 c.requires.target_le_max_doc.1 in
    search rules

pub returns : goal.returns
returns c =
    let a = c.args in
    let ix = index_of a.lent.now in
    let q = a.query.now in
    let b = a.buffers.now in
    let o = c.over_tree in
    let e = o.ensures in
    let size = stands-size ix q b.ranges.now b.states.now a.target c.requires.standing in
    let p = list-gives a.lent.now q (lengths_of b) c.requires.asks.0 c.requires.asks.1 e.0 e.6 b.ranges.now b.states.now _ size e.7 a.target c.requires.standing a.documents.now a.scores.now (search rules) in
    record {
      page = p.0;
      standing = standing-in ix q o.result.next e.8.ranges_stay e.8.states_after p.1;
      same_buffers = e.8.same_buffers;
    }
