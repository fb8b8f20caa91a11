-- A short `answer` gives 12 or a lower number and changes nothing; with a longer one all is as Search leaves it.
use Rattle.std.proofs.Common.{◌∙◌, rules}
use Rattle.border.proofs.Short.{short-of}
use Rattle.border.proofs.Told.{unmoved, search-told-short, search-told, search-kept}
use Rattle.border.proofs.lot_search.Goals as goal

pub returns-then-answer-lt3 : goal.returns-then-answer-lt3
returns-then-answer-lt3 c =
    let a = c.args in
    record {
      searches = search-told-short _ a.query.now a.k a.t _ a.hits.now a.answer.now _ _ _ c.if-answer-lt3.true c.search_refusal-refused.ensures c.lengths-work.ensures (c.short_answer.ensures ∙ short-of _);
      kept = unmoved _ a.states.now a.starts.now a.other_starts.now a.ranges.now;
    }

pub returns : goal.returns
returns c =
    let a = c.args in
    let s = c.search-found.ensures in
    let u = c.answer_top_docs.ensures in
    let k = search-kept _ a.query.now a.k a.t _ a.hits.now a.answer.now _ _ u.number s in
    record {
      searches = search-told _ a.query.now a.k a.t _ a.hits.now a.answer.now _ _ _ _ c.if-answer-lt3.false u.number u.answer_after s.numbers s.hits_after;
      kept = record { states_kept = λ h. let e = k.states_kept h in search (rules, e); starts_kept = λ h. let e = k.starts_kept h in search (rules, e); other_starts_kept = λ h. let e = k.other_starts_kept h in search (rules, e); ranges_kept = λ h. let e = k.ranges_kept h in search (rules, e) };
    }
