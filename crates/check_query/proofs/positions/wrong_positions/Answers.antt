-- To look for a phrase without positions among the records is what 10 says of the record numbers.
use Rattle.std.proofs.Common.{ℕ, Bool, ◌&&◌, not, eqb, rules, arith, tests, ◌∙◌}
use Rattle.std.proofs.lemmas.Iterator.{YieldsList-from_range}
use Rattle.std.proofs.lemmas.Iterator.Search.{any_from_yields_List}
use Rattle.meaning.specs.Lent.{has_positions}
use Rattle.meaning.specs.Query.{record_count, record_kind, record_value}
use Rattle.index.specs.IndexOf.{index_of}
use Rattle.check_query.proofs.Chains.{below-any}
use Rattle.check_query.proofs.Records.{positions-any}
use Rattle.check_query.proofs.positions.wrong_positions.Goals as goal

pub returns : goal.returns
returns c =
    let q = c.args.query.now in let ix = index_of c.args.lent.now in let n = c.record_count.result in
    let wrong : ℕ → Bool = λ at. eqb (record_kind q at) 2 && not (has_positions ix (record_value q at 0)) in
    let any = any_from_yields_List wrong _ _ c.any.result c.any.ensures.ran (YieldsList-from_range 0 n n (cc) (omega arith)) (λ x b p k. search (rules, tests)) in
    below-any wrong n (record_count q) _ any c.record_count.ensures ∙ positions-any ix q
