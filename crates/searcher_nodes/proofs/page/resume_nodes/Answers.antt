-- The records that the call used were read from the words, which hold the tree that stood in the records.
use Rattle.std.proofs.Common.{rules, arith}
use Rattle.index.specs.IndexOf.{index_of}
use Rattle.searcher_nodes.proofs.PageOnRecords.{on-records, copied-out}
use Rattle.searcher_nodes.proofs.page.resume_nodes.Goals as goal

pub over_records-requires-clause-callable : goal.over_records-requires-clause-callable
over_records-requires-clause-callable c = λ b lent.
    let a = c.args in
    let h = copied-out (index_of a.lent.now) a.query.now a.target c.words_of-words.result a.buffers.now b.now a.documents.now a.scores.now (omega arith) lent c.words_of-words.ensures c.requires in
    search rules

pub returns : goal.returns
returns c =
    let a = c.args in
    let e = c.over_records.ensures.called in
    on-records (index_of a.lent.now) a.query.now a.target c.words_of-words.result a.buffers.now e.0.now a.documents.now a.scores.now (omega arith) e.2 _ e.1.now _ _ _ (search rules) e.4 c.over_records.ensures.same_buffers
