-- To look among the values v to 5 for one that is not 0 is what the definition says from the v-th on.
use Rattle.std.proofs.Common.{◌-◌, not, eqb, rules, arith, tests, ◌∙◌}
use Rattle.std.proofs.lemmas.Iterator.{YieldsList-from_range}
use Rattle.std.proofs.lemmas.Iterator.Search.{any_from_yields_List}
use Rattle.meaning.specs.Query.{record_value}
use Rattle.query.proofs.Chains.{range-any}
use Rattle.check_query.proofs.Chains.{any-from}
use Rattle.check_query.proofs.Records.{unused-any}
use Rattle.check_query.proofs.values.unused_from.Goals as goal

pub returns : goal.returns
returns c =
    let q = c.args.query.now in let at = c.args.at in let v = c.args.v in
    let any = any_from_yields_List (λ j. not (eqb (record_value q at j) 0)) _ _ c.any.result c.any.ensures.ran (YieldsList-from_range v 6 (6 - v) (cc) (omega arith)) (λ x b p k. search (rules, tests)) in
    any ∙ range-any (λ j. not (eqb (record_value q at j) 0)) v (6 - v) ∙ any-from 6 v (λ j. not (eqb (record_value q at j) 0)) ∙ unused-any q at v
