-- A phrase ends behind its terms, where each is a PhraseTerm; else decoding it fails too.
use Rattle.std.proofs.Common.{◌≡◌, ◌+◌, ◌∙◌, ap, not, rules, arith, tests}
use Rattle.std.specs.List.{list_all, range_with_len}
use Rattle.meaning.specs.Below.{any_below}
use Rattle.std.proofs.lemmas.Iterator.{YieldsList-from_range}
use Rattle.std.proofs.lemmas.Iterator.Search.{all_from_yields_List}
use Rattle.meaning.specs.Query.{a_phrase, is_phrase_term, record_children}
use Rattle.query.proofs.Chains.{range-all}
use Rattle.query.proofs.Steps.{fit-no, fit-none, fit-yes, no-terms, many-terms, terms-fit, phrase-shallow, phrase-missing, phrase-terms}
use Rattle.query.proofs.shape.phrase_end.Goals.{then-terms-eq0-via-then-terms-eq0, then-terms-eq0-via-else-terms-eq0+then-terms-gt-MAX_PHRASE_TERMS, then-terms-eq0-via-else-terms-eq0+else-terms-gt-MAX_PHRASE_TERMS+then-depth-eq0}
use Rattle.query.proofs.shape.phrase_end.Goals as goal

pub returns-then-terms-eq0 : goal.returns-then-terms-eq0
returns-then-terms-eq0 c =
    let q = c.args.query.now in let at = c.args.at in
    elim c.then-terms-eq0.branch [
      | then-terms-eq0-via-then-terms-eq0 w ↦ fit-no a_phrase q at _ (no-terms (record_children q at) (omega arith))
      | then-terms-eq0-via-else-terms-eq0+then-terms-gt-MAX_PHRASE_TERMS w ↦ fit-no a_phrase q at _ (many-terms (record_children q at) (omega arith))
      | then-terms-eq0-via-else-terms-eq0+else-terms-gt-MAX_PHRASE_TERMS+then-depth-eq0 w ↦ fit-none a_phrase q at _ (phrase-shallow q at c.args.depth w.if-depth-eq0.true)
    ]

pub returns-then-record_count-end : goal.returns-then-record_count-end
returns-then-record_count-end c =
    fit-none a_phrase c.args.query.now c.args.at _ (phrase-missing c.args.query.now c.args.at c.args.depth (omega arith))

pub returns : goal.returns
returns c =
    let q = c.args.query.now in let at = c.args.at in let n = c.children-terms.result in
    let same : n ≡ record_children q at = omega arith in
    let all : c.all.result ≡ list_all (is_phrase_term q) (range_with_len (at + 1) n) = all_from_yields_List (is_phrase_term q) _ _ _ c.all.ensures.ran (YieldsList-from_range (at + 1) (at + 1 + n) n (cc) (omega arith)) (λ x b p k. search (rules, tests)) in
    c.then_some.ensures ∙ rw same (fit-yes a_phrase q at _ _ (terms-fit (record_children q at) (omega arith) (omega arith)) (phrase-terms q at c.args.depth (omega arith) (omega arith) c.all.result (all ∙ range-all (is_phrase_term q) (at + 1) n ∙ ap (λ m. not (any_below m (λ j. not (is_phrase_term q (at + 1 + j))))) same)))
