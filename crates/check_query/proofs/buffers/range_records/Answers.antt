-- The iterator counts by kinds and the definition by the kind's number, which is 4 for a Range.
use Rattle.std.proofs.Common.{eqb, rules, arith, tests, ◌∙◌}
use Rattle.std.proofs.lemmas.Iterator.{YieldsList-from_range}
use Rattle.std.proofs.lemmas.Iterator.Consumers.{YieldsList-at, YieldsList-from_filter, count_from_yields_List}
use Rattle.meaning.specs.Query.{record_count, record_kind}
use Rattle.check_query.proofs.Chains.{below-count}
use Rattle.check_query.proofs.Needs.{ranges-counted}
use Rattle.check_query.proofs.buffers.range_records.Goals as goal

pub returns : goal.returns
returns c =
    let q = c.args.query.now in let n = c.record_count.result in
    let found = count_from_yields_List _ c.count.result c.count.ensures.ran (YieldsList-from_filter _ (λ at. eqb (record_kind q at) 4) (YieldsList-at c.filter.ensures.source (YieldsList-from_range 0 n n (cc) (omega arith))) c.filter.ensures.closure (λ x b p k. search (rules, tests))) in
    found ∙ below-count (λ at. eqb (record_kind q at) 4) n (record_count q) c.record_count.ensures ∙ ranges-counted q
