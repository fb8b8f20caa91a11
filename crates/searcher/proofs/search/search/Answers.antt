-- Refused, or with a place for each of k hits.
use Rattle.std.proofs.Common.{arith, take, rules}
use Rattle.meaning.specs.Limits.{no_more_docs}
use Rattle.meaning.specs.Query.{query_tree}
use Rattle.meaning.specs.FullList.{full_list}
use Rattle.index.specs.IndexOf.{index_of}
use Rattle.bulk_scorer.proofs.Begins.{begin-ready, end-ready, end-answer}
use Rattle.check_order.proofs.CallConditions.{hits-front}
use Rattle.searcher.specs.WorkBuffers.{lengths_of}
use Rattle.searcher.proofs.Answering.{search-refused, search-known, search-found}
use Rattle.searcher.proofs.search.search.Goals as goal

pub returns-in_err-search_refusal : goal.returns-in_err-search_refusal
returns-in_err-search_refusal c =
    let a = c.args in
    search-refused (index_of a.lent.now) a.query.now a.k a.t a.buffers.now a.hits.now _ c.lengths-work.ensures _ c.in_err-search_refusal.ensures _ (search rules)

pub slice_bounds-heap-end : goal.slice_bounds-heap-end
slice_bounds-heap-end c =
    let a = c.args in
    (search-known (index_of a.lent.now) a.query.now a.k a.t a.buffers.now a.hits.now _ c.lengths-work.ensures c.in_ok-search_refusal.ensures).room

pub slice_bounds-heap-end-2 : goal.slice_bounds-heap-end-2
slice_bounds-heap-end-2 c =
    let a = c.args in
    let ix = index_of a.lent.now in
    let l = search-known ix a.query.now a.k a.t a.buffers.now a.hits.now _ c.lengths-work.ensures c.in_ok-search_refusal.ensures in
    (hits-front ix a.query.now a.k (lengths_of a.buffers.now) a.hits.now l).0

pub collect-collector-requires : goal.collect-collector-requires
collect-collector-requires c =
    let a = c.args in
    let ix = index_of a.lent.now in
    let l = search-known ix a.query.now a.k a.t a.buffers.now a.hits.now _ c.lengths-work.ensures c.in_ok-search_refusal.ensures in
    let front = hits-front ix a.query.now a.k (lengths_of a.buffers.now) a.hits.now l in
    record { asks = (l.asks, l.long); ready = begin-ready a.t c.new.result (take a.k a.hits.now) c.new.ensures front.1 front.2 }

pub top_docs-requires : goal.top_docs-requires
top_docs-requires c =
    let a = c.args in
    let ix = index_of a.lent.now in
    let l = search-known ix a.query.now a.k a.t a.buffers.now a.hits.now _ c.lengths-work.ensures c.in_ok-search_refusal.ensures in
    let front = hits-front ix a.query.now a.k (lengths_of a.buffers.now) a.hits.now l in
    let f = c.collect-collector in
    end-ready a.t c.new.result (take a.k a.hits.now) c.new.ensures front.1 front.2 a.lent.now.max_doc (full_list ix (query_tree a.query.now)) f.result f.new.heap f.ensures.collected no_more_docs (omega (arith, l.asks.accepted.documents))

pub returns : goal.returns
returns c =
    let a = c.args in
    let ix = index_of a.lent.now in
    let l = search-known ix a.query.now a.k a.t a.buffers.now a.hits.now _ c.lengths-work.ensures c.in_ok-search_refusal.ensures in
    let front = hits-front ix a.query.now a.k (lengths_of a.buffers.now) a.hits.now l in
    let f = c.collect-collector in
    let d = c.top_docs in
    let drawn = end-answer a.t c.new.result (take a.k a.hits.now) c.new.ensures front.1 front.2 a.lent.now.max_doc (full_list ix (query_tree a.query.now)) f.result f.new.heap f.ensures.collected d.result d.new.heap d.ensures in
    search-found ix a.query.now a.k a.t a.buffers.now a.hits.now _ c.lengths-work.ensures c.in_ok-search_refusal.ensures f.new.buffers f.ensures.same_buffers f.ensures.standing d.result d.new.heap drawn.0 drawn.1
