-- The terms are the records behind the phrase's own: to look among them is to look among their numbers.
use Rattle.std.proofs.Common.{◌≡◌, ◌+◌, ◌*◌, not, eqb, get_or, rules, arith, tests, ◌∙◌}
use Rattle.std.proofs.lemmas.Iterator.{YieldsList-from_range}
use Rattle.std.proofs.lemmas.Iterator.Search.{any_from_yields_List}
use Rattle.meaning.specs.Query.{record_value, record_children}
use Rattle.meaning.specs.QueryRefusals as meant
use Rattle.query.proofs.Chains.{range-any}
use Rattle.check_query.proofs.values.other_field.Goals as goal

pub returns : goal.returns
unfolding meant.other_field
returns c =
    let q = c.args.query.now in let leaves = c.args.lent.now.leaves.now in let at = c.args.at in let n = c.children.result in
    let same : n ≡ record_children q at = omega arith in
    let any = any_from_yields_List (λ term. not (eqb (get_or leaves (4 * record_value q term 0) 0) (record_value q at 0))) _ _ c.any.result c.any.ensures.ran (YieldsList-from_range (at + 1) (at + 1 + n) n (cc) (omega arith)) (λ x b p k. search (rules, tests)) in
    any ∙ rw same (range-any (λ term. not (eqb (get_or leaves (4 * record_value q term 0) 0) (record_value q at 0))) (at + 1) (record_children q at))
