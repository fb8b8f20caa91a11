-- To look for a wrong record among the chunks of three words is to look among the record numbers.
use Rattle.std.proofs.Common.{◌≡◌, ◌/◌, ℕ, List, length, ap, ◌∙◌, rules, tests}
use Rattle.std.specs.List.{list_any}
use Rattle.std.proofs.lemmas.Iterator.{YieldsList-from_slice}
use Rattle.std.proofs.lemmas.Iterator.Search.{any_from_yields_List}
use Rattle.index.proofs.Chains.{any-records}
use Rattle.check_positions.specs.Places.{wrong_places}
use Rattle.check_positions.proofs.Parts.{record_places}
use Rattle.check_positions.proofs.wrong_run_places.Goals as goal

pub returns : goal.returns
returns c =
    let run = c.args.run.now in
    let positions = c.args.positions.now in
    let n = length c.args.run.now / 3 in
    let test = λ (r : List ℕ). wrong_places r c.args.positions.now 0 in
    let found : c.any.result ≡ list_any test c.as_chunks.result.0.now = any_from_yields_List test _ _ c.any.result c.any.ensures.ran (YieldsList-from_slice c.as_chunks.result.0.now cc) (λ x b q k. search (rules, tests)) in
    found ∙ ap (list_any test) c.as_chunks.ensures.front ∙ any-records test (wrong_places run positions) 3 n run (record_places run positions n)
