-- The index's refusal first, else the query's.
use Rattle.std.proofs.Common.{refl, rules}
use Rattle.index.specs.IndexOf.{index_of}
use Rattle.check_order.proofs.Answered.{passed_on}
use Rattle.check_order.proofs.Refusing.{order-index, order-query}
use Rattle.check_order.proofs.check_order.Goals as goal

pub returns-in_err-check_index : goal.returns-in_err-check_index
returns-in_err-check_index c =
    passed_on _ _ c.in_err-check_index.field-0.0 _ (search rules) (search rules) (order-index (index_of c.args.lent.now) c.args.query.now _ c.check_index.ensures)

pub returns : goal.returns
returns c =
    let a = c.args in
    order-query (index_of a.lent.now) a.query.now 0 c.in_ok-check_index.ensures refl _ c.check_query.ensures
