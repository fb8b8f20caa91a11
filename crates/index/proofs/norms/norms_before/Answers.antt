-- The iterator counts by the fields' records and the definition by their numbers.
use Rattle.std.proofs.Common.{rules, arith, tests, ◌∙◌}
use Rattle.std.proofs.lemmas.Iterator.{YieldsList-from_range}
use Rattle.std.proofs.lemmas.Iterator.Consumers.{YieldsList-at, YieldsList-from_filter, count_from_yields_List}
use Rattle.meaning.specs.Lent.{has_norms}
use Rattle.index.specs.Slices.{fields_only}
use Rattle.index.proofs.Chains.{count-range}
use Rattle.index.proofs.norms.norms_before.Goals as goal

pub returns : goal.returns
returns c =
    let n = c.args.f in let p = has_norms (fields_only c.args.fields.now) in
    let found = count_from_yields_List _ c.count.result c.count.ensures.ran (YieldsList-from_filter _ p (YieldsList-at c.filter.ensures.source (YieldsList-from_range 0 n n (cc) (omega arith))) c.filter.ensures.closure (λ x b p k. search (rules, tests))) in
    found ∙ count-range p n
