-- The text of what Search answers with the program's buffers.
use Rattle.std.proofs.Common.{refl, sym, ◌∙◌}
use lib.Seq.{length-take-le}
use Rattle.index.specs.IndexOf.{index_of}
use Rattle.hits.proofs.Answering.{refused-text, found-text}
use Rattle.hits.proofs.report.answer.Goals as goal

pub slice_bounds-hits-end : goal.slice_bounds-hits-end
slice_bounds-hits-end c =
    let index = index_of c.args.index in
    (found-text index c.args.query.now c.args.k c.args.t _ _ refl refl _ c.in-Ok.top _ _ refl c.in-Ok.is c.search-found_hits.ensures.numbers c.search-found_hits.ensures.hits_after).few

pub slice_bounds-found-end : goal.slice_bounds-found-end
slice_bounds-found-end c =
    let index = index_of c.args.index in
    let shown = found-text index c.args.query.now c.args.k c.args.t _ _ refl refl _ c.in-Ok.top _ _ refl c.in-Ok.is c.search-found_hits.ensures.numbers c.search-found_hits.ensures.hits_after in
    sym (length-take-le _ _ shown.few)

pub returns-in-Err : goal.returns-in-Err
returns-in-Err c =
    let index = index_of c.args.index in
    c.refused.ensures ∙ refused-text index c.args.query.now c.args.k c.args.t _ _ refl refl _ c.in-Err.refusal _ c.in-Err.is c.number.ensures c.search-found_hits.ensures.numbers

pub returns-in-Ok : goal.returns-in-Ok
returns-in-Ok c =
    let index = index_of c.args.index in
    let shown = found-text index c.args.query.now c.args.k c.args.t _ _ refl refl _ c.in-Ok.top _ _ refl c.in-Ok.is c.search-found_hits.ensures.numbers c.search-found_hits.ensures.hits_after in
    c.found.ensures ∙ shown.text
