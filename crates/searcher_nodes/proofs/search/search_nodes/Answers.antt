-- The records that the call used were read from the words.
use Rattle.std.proofs.Common.{rules, arith}
use Rattle.index.specs.IndexOf.{index_of}
use Rattle.searcher_nodes.proofs.SearchOnRecords.{on-records}
use Rattle.searcher_nodes.proofs.search.search_nodes.Goals as goal

pub returns : goal.returns
returns c =
    let a = c.args in
    let e = c.over_records.ensures.called in
    on-records (index_of a.lent.now) a.query.now a.k a.t c.zeros-words.result a.buffers.now _ e.0.now e.1.now a.hits.now _ _ (omega arith) e.2 (search rules) e.4 c.over_records.ensures.same_buffers
