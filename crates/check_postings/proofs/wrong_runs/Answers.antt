-- To look among the leaves from `l` to `end` is to look among the numbers from 0, each with `l` added.
use Rattle.std.proofs.Common.{◌≡◌, ◌-◌, refl, ◌∙◌, rules, tests}
use Rattle.std.specs.List.{list_any, range_with_len}
use Rattle.std.proofs.lemmas.Iterator.{YieldsList-from_range}
use Rattle.std.proofs.lemmas.Iterator.Search.{any_from_yields_List}
use Rattle.index.specs.IndexOf.{index_of}
use Rattle.check_postings.proofs.From.{wrong_leaf_run, any-range}
use Rattle.check_postings.proofs.wrong_runs.Goals as goal

pub returns : goal.returns
returns c =
    let test = wrong_leaf_run (index_of c.args.lent.now) in
    let found : c.any.result ≡ list_any test (range_with_len c.args.l (c.args.end - c.args.l)) = any_from_yields_List test _ _ c.any.result c.any.ensures.ran (YieldsList-from_range c.args.l c.args.end (c.args.end - c.args.l) refl refl) (λ x b q k. search (rules, tests)) in
    found ∙ any-range test c.args.l (c.args.end - c.args.l)
