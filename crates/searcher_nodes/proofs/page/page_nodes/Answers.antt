-- The records that the call used were read from the words.
use Rattle.std.proofs.Common.{rules, arith}
use Rattle.index.specs.IndexOf.{index_of}
use Rattle.searcher_nodes.proofs.PageOnRecords.{on-records}
use Rattle.searcher_nodes.proofs.page.page_nodes.Goals as goal

pub returns : goal.returns
returns c =
    let a = c.args in
    let e = c.over_records.ensures.called in
    on-records (index_of a.lent.now) a.query.now a.target c.words_of-record_words.result a.buffers.now e.0.now a.documents.now a.scores.now (omega arith) e.2 _ e.1.now _ _ _ (search rules) e.4 c.over_records.ensures.same_buffers
