-- Once accepted, every output has room for what is written, and the norms are made from the postings just written.
use Rattle.std.proofs.Common.{sym, arith}
use Rattle.std.proofs.lemmas.List.{length-take-le}
use Rattle.token_writer.proofs.Entry.{accepted-call, entry-handed-on, entry_done, postings-room, postings-inside, runs-inside, parts-ok}
use Rattle.token_writer.proofs.write_index.Goals as goal

pub returns-in_err-numbers : goal.returns-in_err-numbers
returns-in_err-numbers c = entry-handed-on _ _ _ _ _ _ _ _ c.from_residual.result c.in_err-numbers.field-0.0 c.from_residual.ensures.1 c.in_err-numbers.ensures

pub write_runs-requires : goal.write_runs-requires
write_runs-requires c = (_, (accepted-call _ _ _ _ _ _ _ _ c.in_ok-numbers.numbers c.in_ok-numbers.ensures).runs_pre)

pub overflow_mul-numbers : goal.overflow_mul-numbers
overflow_mul-numbers c =
    let known = accepted-call _ _ _ _ _ _ _ _ c.in_ok-numbers.numbers c.in_ok-numbers.ensures in
    record { fits = omega (arith, postings-room _ _ _ _ _ _ _ _ _ known, c.well_formed) }

pub slice_bounds-write_norms-end : goal.slice_bounds-write_norms-end
slice_bounds-write_norms-end c =
    let known = accepted-call _ _ _ _ _ _ _ _ c.in_ok-numbers.numbers c.in_ok-numbers.ensures in
    postings-inside _ _ _ _ _ _ _ _ _ known _ _ _ (c.write_runs.ensures _ known.runs_pre)

pub slice_bounds-write_norms-end-2 : goal.slice_bounds-write_norms-end-2
slice_bounds-write_norms-end-2 c =
    let known = accepted-call _ _ _ _ _ _ _ _ c.in_ok-numbers.numbers c.in_ok-numbers.ensures in
    sym (length-take-le _ _ (postings-inside _ _ _ _ _ _ _ _ _ known _ _ _ (c.write_runs.ensures _ known.runs_pre)))

pub slice_bounds-write_norms-end-3 : goal.slice_bounds-write_norms-end-3
slice_bounds-write_norms-end-3 c =
    let known = accepted-call _ _ _ _ _ _ _ _ c.in_ok-numbers.numbers c.in_ok-numbers.ensures in
    runs-inside _ _ _ _ _ _ _ _ _ known _ _ _ (c.write_runs.ensures _ known.runs_pre)

pub slice_bounds-write_norms-end-4 : goal.slice_bounds-write_norms-end-4
slice_bounds-write_norms-end-4 c =
    let known = accepted-call _ _ _ _ _ _ _ _ c.in_ok-numbers.numbers c.in_ok-numbers.ensures in
    sym (length-take-le _ _ (runs-inside _ _ _ _ _ _ _ _ _ known _ _ _ (c.write_runs.ensures _ known.runs_pre)))

pub write_norms-requires-clause-runs_ok : goal.write_norms-requires-clause-runs_ok
write_norms-requires-clause-runs_ok c =
    let known = accepted-call _ _ _ _ _ _ _ _ c.in_ok-numbers.numbers c.in_ok-numbers.ensures in
    (parts-ok _ _ _ _ _ _ _ _ _ known _ _ _ (c.write_runs.ensures _ known.runs_pre), known.few_documents, known.few_fields)

pub write_norms-requires-clause-max_doc_in_bounds :
    goal.write_norms-requires-clause-max_doc_in_bounds
write_norms-requires-clause-max_doc_in_bounds c =
    (accepted-call _ _ _ _ _ _ _ _ c.in_ok-numbers.numbers c.in_ok-numbers.ensures).norms_fit

pub returns : goal.returns
returns c =
    let known = accepted-call _ _ _ _ _ _ _ _ c.in_ok-numbers.numbers c.in_ok-numbers.ensures in
    entry_done _ _ _ _ _ _ _ _ _ known _ _ _ (c.write_runs.ensures _ known.runs_pre) _ c.write_norms.ensures
