-- Refused, or the page of the full list from the tree that stands there.
use Rattle.std.proofs.Common.{sym, rules}
use Rattle.index.specs.IndexOf.{index_of}
use Rattle.searcher.proofs.Answering.{page-refused, page-accepted, page-known, page-given}
use Rattle.searcher.proofs.resume.resume.Goals as goal

pub returns-in_err-page_refusal : goal.returns-in_err-page_refusal
returns-in_err-page_refusal c =
    let a = c.args in
    page-refused (index_of a.lent.now) a.query.now a.target a.buffers.now a.documents.now a.scores.now _ c.lengths-work.ensures _ c.in_err-page_refusal.ensures _ (search rules)

pub list_page-requires : goal.list_page-requires
list_page-requires c =
    let a = c.args in
    let ix = index_of a.lent.now in
    let l = page-known ix a.query.now a.target a.buffers.now a.documents.now a.scores.now _ c.lengths-work.ensures c.in_ok-page_refusal.ensures in
    record { target_le_max_doc = (l.target-within, l.same); asks = (l.asks, l.long); standing = c.requires (sym (page-accepted ix a.query.now a.target a.buffers.now a.documents.now a.scores.now _ c.lengths-work.ensures c.in_ok-page_refusal.ensures)) }

pub returns : goal.returns
returns c =
    let a = c.args in
    let f = c.list_page in
    page-given (index_of a.lent.now) a.query.now a.target a.buffers.now a.documents.now a.scores.now _ c.lengths-work.ensures c.in_ok-page_refusal.ensures f.new.buffers f.ensures.same_buffers f.result f.ensures.standing f.new.documents f.new.scores f.ensures.page
