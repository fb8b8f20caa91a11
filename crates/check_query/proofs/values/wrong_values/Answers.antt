-- To look for a wrong record among all is what 8 says; 7 has let through only phrases whose terms are all there.
use Rattle.std.proofs.Common.{rules, arith, tests, ◌∙◌}
use Rattle.std.proofs.iter.Serving.{serving}
use Rattle.std.proofs.lemmas.Iterator.{YieldsList-from_range}
use Rattle.std.proofs.lemmas.Iterator.Search.{any_from_yields_List}
use Rattle.meaning.specs.Query.{record_count, record_kind, kind_of}
use Rattle.meaning.specs.QueryRefusals.{wrong_values}
use Rattle.index.specs.IndexOf.{index_of}
use Rattle.query.proofs.Whole.{terms-here}
use Rattle.check_query.proofs.Chains.{below-any}
use Rattle.check_query.proofs.Records.{values-any}
use Rattle.check_query.proofs.values.wrong_values.Goals as goal

pub any-requires-clause-callable : goal.any-requires-clause-callable
any-requires-clause-callable c =
    let here = terms-here c.args.query.now c.requires in
    grind (serving, here)

pub returns : goal.returns
returns c =
    let q = c.args.query.now in let ix = index_of c.args.lent.now in let n = c.record_count.result in
    let any = any_from_yields_List (λ at. wrong_values ix q at (kind_of (record_kind q at))) _ _ c.any.result c.any.ensures.ran (YieldsList-from_range 0 n n (cc) (omega arith)) (λ x b p k. search (rules, tests)) in
    below-any (λ at. wrong_values ix q at (kind_of (record_kind q at))) n (record_count q) _ any c.record_count.ensures ∙ values-any ix q
