-- A short `answer` gives 16 or a lower number and changes nothing; with a longer one all is as the writer leaves it.
use Rattle.border.proofs.Told.{two-written}
use Rattle.border.proofs.WriteTold.{write-told-short, write-told-refused, write-told-done}
use Rattle.border.proofs.write_index.lot_write_index.Goals as goal

pub returns-then-answer-lt2 : goal.returns-then-answer-lt2
returns-then-answer-lt2 c =
    let a = c.args in
    write-told-short a.max_doc a.fields.now a.leaf_fields.now a.tokens.now a.norms.now a.postings.now a.positions.now a.runs.now a.answer.now _ _ c.if-answer-lt2.true c.short_answer.ensures c.accept-accepted.ensures

pub returns-in-Ok : goal.returns-in-Ok
returns-in-Ok c =
    let a = c.args in
    write-told-done a.max_doc a.fields.now a.leaf_fields.now a.tokens.now a.norms.now a.postings.now a.positions.now a.runs.now a.answer.now _ _ _ _ _ c.if-answer-lt2.false c.write_index.ensures _ _ c.in-Ok.is (two-written _ _ a.answer.now c.if-answer-lt2.false)

pub returns-in-Err : goal.returns-in-Err
returns-in-Err c =
    let a = c.args in
    rw c.number.ensures (write-told-refused a.max_doc a.fields.now a.leaf_fields.now a.tokens.now a.norms.now a.postings.now a.positions.now a.runs.now a.answer.now _ _ _ _ _ c.if-answer-lt2.false c.write_index.ensures _ c.in-Err.is)
