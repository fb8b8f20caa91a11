-- A short `answer` gives 12 or a lower number and changes nothing; with a longer one all is as Pick leaves it.
use Rattle.std.proofs.Common.{◌∙◌}
use Rattle.border.proofs.Short.{short-of}
use Rattle.border.proofs.Told.{pick-told-short, pick-told}
use Rattle.border.proofs.lot_pick.Goals as goal

pub returns-then-answer-lt3 : goal.returns-then-answer-lt3
returns-then-answer-lt3 c =
    let a = c.args in
    pick-told-short a.documents.now a.scores.now a.k a.t a.hits.now a.answer.now _ _ c.if-answer-lt3.true c.pick_refusal-refused.ensures (c.short_answer.ensures ∙ short-of _)

pub returns : goal.returns
returns c =
    let a = c.args in
    let p = c.pick-found in
    let u = c.answer_top_docs.ensures in
    pick-told a.documents.now a.scores.now a.k a.t a.hits.now a.answer.now _ _ _ _ c.if-answer-lt3.false u.number u.answer_after p.ensures.result_value p.ensures.hits_after
