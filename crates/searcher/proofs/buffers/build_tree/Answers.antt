-- Buffers that are not too short have room for the tree and the documents of the ranges.
use Rattle.index.specs.IndexOf.{index_of}
use Rattle.check_order.proofs.Rooms.{states-room, ranges-room}
use Rattle.searcher.specs.WorkBuffers.{lengths_of}
use Rattle.searcher.proofs.buffers.build_tree.Goals as goal

pub build-requires : goal.build-requires
build-requires c =
    let a = c.args in
    let ix = index_of a.lent.now in
    let q = a.query.now in
    let w = lengths_of a.buffers.now in
    record { asks = c.requires.0; room = (states-room ix q w c.requires.1, ranges-room ix q w c.requires.1) }
