-- The largest that the iterator gives over the records is the definition's largest; of no records it is 0.
use Rattle.std.proofs.Common.{unwrap_or, refl, sym, ◌∙◌, ap, rules, arith}
use Rattle.std.proofs.lemmas.Iterator.{YieldsList-from_range, YieldsList-from_map}
use Rattle.std.proofs.lemmas.Iterator.Consumers.{YieldsList-at, max_from_yields_List}
use Rattle.std.proofs.lemmas.Iterator.Adapters.{option_map_id}
use Rattle.index.specs.IndexOf.{index_of}
use Rattle.check_query.proofs.Chains.{below-largest}
use Rattle.check_query.proofs.Needs.{starts_at, starts-all}
use Rattle.check_query.proofs.buffers.starts_needed.Goals as goal

pub returns : goal.returns
returns c =
    let q = c.args.query.now in let ix = index_of c.args.lent.now in let n = c.record_count.result in
    let most = max_from_yields_List _ c.max.result c.max.ensures.ran (YieldsList-from_map _ (starts_at ix q) (YieldsList-at c.map.ensures.source (YieldsList-from_range 0 n n (cc) (omega arith))) c.map.ensures.closure (λ x r p k. search rules)) in
    c.unwrap_or.ensures ∙ ap (λ o. unwrap_or o 0) (sym (option_map_id c.max.result) ∙ most) ∙ below-largest (starts_at ix q) n n refl ∙ starts-all ix q n c.record_count.ensures
