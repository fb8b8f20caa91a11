-- A short `answer` gives 12 or a lower number and changes nothing; with a longer one all is as Page leaves it.
use Rattle.std.proofs.Common.{◌∙◌, sym, ap, rules}
use Rattle.refusal.specs.Numbers.{refusal_of}
use Rattle.border.proofs.Short.{short-of}
use Rattle.border.proofs.Told.{unmoved, page-told-short, page-told-refused, page-told-given, page-kept}
use Rattle.border.proofs.lot_page.Goals as goal

pub returns-then-answer-lt2 : goal.returns-then-answer-lt2
returns-then-answer-lt2 c =
    let a = c.args in
    record {
      pages = page-told-short _ a.query.now a.target _ a.documents.now a.scores.now a.answer.now _ _ _ c.if-answer-lt2.true c.page_refusal-refused.ensures c.lengths-work.ensures (c.short_answer.ensures ∙ short-of _);
      kept = unmoved _ a.states.now a.starts.now a.other_starts.now a.ranges.now;
    }

pub returns-in-Err : goal.returns-in-Err
returns-in-Err c =
    let a = c.args in
    let p = c.page.ensures in
    let k = page-kept _ a.query.now a.target _ a.documents.now a.scores.now a.answer.now _ _ (c.number.ensures ∙ sym (ap refusal_of c.in-Err.is)) p in
    record {
      pages = page-told-refused _ a.query.now a.target _ a.documents.now a.scores.now a.answer.now _ _ _ c.if-answer-lt2.false p.numbers p.documents_after p.scores_after c.in-Err.refusal _ c.in-Err.is c.number.ensures;
      kept = record { states_kept = λ h. let e = k.states_kept h in search (rules, e); starts_kept = λ h. let e = k.starts_kept h in search (rules, e); other_starts_kept = λ h. let e = k.other_starts_kept h in search (rules, e); ranges_kept = λ h. let e = k.ranges_kept h in search (rules, e) };
    }

pub returns-in-Ok : goal.returns-in-Ok
returns-in-Ok c =
    let a = c.args in
    let p = c.page.ensures in
    let k = page-kept _ a.query.now a.target _ a.documents.now a.scores.now a.answer.now _ _ (sym (ap refusal_of c.in-Ok.is)) p in
    record {
      pages = page-told-given _ a.query.now a.target _ a.documents.now a.scores.now a.answer.now _ _ _ c.if-answer-lt2.false p.numbers p.documents_after p.scores_after _ c.in-Ok.is;
      kept = record { states_kept = λ h. let e = k.states_kept h in search (rules, e); starts_kept = λ h. let e = k.starts_kept h in search (rules, e); other_starts_kept = λ h. let e = k.other_starts_kept h in search (rules, e); ranges_kept = λ h. let e = k.ranges_kept h in search (rules, e) };
    }
