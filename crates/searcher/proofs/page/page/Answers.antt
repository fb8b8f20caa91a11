-- Refused, or the page of the full list from the tree that was built.
use Rattle.std.proofs.Common.{◌∙◌, ap, rules}
use Rattle.meaning.specs.CallRefusals.{work_short}
use Rattle.index.specs.IndexOf.{index_of}
use Rattle.searcher.proofs.Preparing.{moved-on, placed-stands}
use Rattle.searcher.proofs.Answering.{page-refused, page-known, page-given}
use Rattle.searcher.proofs.page.page.Goals as goal

pub returns-in_err-page_refusal : goal.returns-in_err-page_refusal
returns-in_err-page_refusal c =
    let a = c.args in
    page-refused (index_of a.lent.now) a.query.now a.target a.buffers.now a.documents.now a.scores.now _ c.lengths-work.ensures _ c.in_err-page_refusal.ensures _ (search rules)

pub build_tree-requires : goal.build_tree-requires
build_tree-requires c =
    let a = c.args in
    let l = page-known (index_of a.lent.now) a.query.now a.target a.buffers.now a.documents.now a.scores.now _ c.lengths-work.ensures c.in_ok-page_refusal.ensures in
    (l.asks, l.long)

pub list_page-requires : goal.list_page-requires
list_page-requires c =
    let a = c.args in
    let ix = index_of a.lent.now in
    let l = page-known ix a.query.now a.target a.buffers.now a.documents.now a.scores.now _ c.lengths-work.ensures c.in_ok-page_refusal.ensures in
    let t = c.build_tree in
    record { target_le_max_doc = (l.target-within, l.same); asks = (l.asks, ap (work_short ix a.query.now) t.ensures.same_buffers.lengths ∙ l.long); standing = placed-stands ix a.query.now t.new.buffers.ranges.now t.new.buffers.states.now a.target t.result t.ensures.placed }

pub returns : goal.returns
returns c =
    let a = c.args in
    let t = c.build_tree in
    let f = c.list_page in
    page-given (index_of a.lent.now) a.query.now a.target a.buffers.now a.documents.now a.scores.now _ c.lengths-work.ensures c.in_ok-page_refusal.ensures f.new.buffers (moved-on _ t.new.buffers _ t.ensures.same_buffers f.ensures.same_buffers) f.result f.ensures.standing f.new.documents f.new.scores f.ensures.page
