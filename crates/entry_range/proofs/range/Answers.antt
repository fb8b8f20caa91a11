-- Refused, with the output left as it was; or the range's documents at its front.
use Rattle.std.proofs.Common.{◌≡◌, Result, Err, rules, ℕ}
use Rattle.refusal.specs.declared.Refusal.{Refusal}
use Rattle.index.specs.Ranges.{asked}
use Rattle.doc_values.specs.ColumnsOf.{columns_of}
use Rattle.entry_range.proofs.RangeEntry.{range-allowed, refused-answer, refused-output, done-answer, done-output}
use Rattle.entry_range.proofs.range.Goals as goal

pub returns-in_err-range_refusal-clause-result_value : goal.returns-in_err-range_refusal-clause-result_value
returns-in_err-range_refusal-clause-result_value c =
    let r : Result ℕ Refusal = Err c.in_err-range_refusal.field-0.0 in
    let e : c.from_residual.result ≡ r = search rules in
    rw e (refused-answer _ _ _ _ _ c.in_err-range_refusal.ensures)

pub returns-in_err-range_refusal-clause-output_after : goal.returns-in_err-range_refusal-clause-output_after
returns-in_err-range_refusal-clause-output_after c = refused-output _ _ _ _ _ c.in_err-range_refusal.ensures

pub range-requires-clause-right : goal.range-requires-clause-right
range-requires-clause-right c = (range-allowed _ _ _ _ c.in_ok-range_refusal.ensures).0

pub range-requires-clause-max_doc_in_bounds : goal.range-requires-clause-max_doc_in_bounds
range-requires-clause-max_doc_in_bounds c = (range-allowed _ _ _ _ c.in_ok-range_refusal.ensures).1

pub returns-clause-result_value : goal.returns-clause-result_value
returns-clause-result_value c = done-answer (columns_of c.args.lent.now) (asked c.args.range) c.args.work.now c.args.output.now c.in_ok-range_refusal.ensures _ c.range.ensures.value

pub returns-clause-output_after : goal.returns-clause-output_after
returns-clause-output_after c = done-output (columns_of c.args.lent.now) (asked c.args.range) c.args.work.now _ c.in_ok-range_refusal.ensures _ c.range.ensures.output_after
