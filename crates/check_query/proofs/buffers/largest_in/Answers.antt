-- The largest of the frequencies that the iterator gives is the largest by record numbers; of no records it is 0.
use Rattle.std.proofs.Common.{◌+◌, ◌*◌, ◌/◌, map, max, length, refl, get_or, rules, sym, ◌∙◌, ap, unwrap_or}
use Rattle.std.specs.List.{reduce}
use Rattle.std.proofs.lemmas.Iterator.{YieldsList-from_slice, YieldsList-from_map}
use Rattle.std.proofs.lemmas.Iterator.Consumers.{YieldsList-at, max_from_yields_List}
use Rattle.std.proofs.lemmas.Iterator.Adapters.{option_map_id}
use Rattle.check_query.proofs.Chains.{below-largest, second_words}
use Rattle.check_query.proofs.buffers.largest_in.Goals as goal

pub returns : goal.returns
returns c =
    let run = c.args.run.now in let n = length run / 3 in
    let most = max_from_yields_List _ c.max.result c.max.ensures.ran (YieldsList-from_map _ (λ r. get_or r 1 0) (YieldsList-at c.map.ensures.source (YieldsList-from_slice c.as_chunks.result.0.now cc)) c.map.ensures.closure (λ x y p k. search rules)) in
    let words = ap (λ records. map (λ r. get_or r 1 0) records) c.as_chunks.ensures.front ∙ second_words n 0 run in
    c.unwrap_or.ensures ∙ ap (λ o. unwrap_or o 0) (sym (option_map_id c.max.result) ∙ most ∙ ap (reduce max) words) ∙ below-largest (λ posting. get_or run (3 * posting + 1) 0) n n refl
