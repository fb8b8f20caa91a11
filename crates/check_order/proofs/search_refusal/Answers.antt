-- The order's refusal first, then 11, then 12.
use Rattle.std.proofs.Common.{sym, ◌∙◌, refl, rules}
use Rattle.index.specs.IndexOf.{index_of}
use Rattle.check_order.specs.WorkOf.{work_of}
use Rattle.check_order.proofs.Answered.{passed_on}
use Rattle.check_order.proofs.Refusing.{order-checked}
use Rattle.check_order.proofs.CallConditions.{search-order, search-wrong-hits, search-short, search-few-places, search-accepted}
use Rattle.check_order.proofs.search_refusal.Goals.{then-work_short-via-then-work_short, then-work_short-via-else-work_short+then-places-k}
use Rattle.check_order.proofs.search_refusal.Goals as goal

pub returns-in_err-check_order : goal.returns-in_err-check_order
returns-in_err-check_order c =
    let a = c.args in
    passed_on _ _ c.in_err-check_order.field-0.0 _ (search rules) (search rules) (search-order (index_of a.lent.now) a.query.now a.k (work_of a.work) a.places _ c.check_order.ensures)

pub returns-then-wrong_hits : goal.returns-then-wrong_hits
returns-then-wrong_hits c =
    let a = c.args in
    let ix = index_of a.lent.now in
    search-wrong-hits ix a.query.now a.k (work_of a.work) a.places 0 c.in_ok-check_order.ensures refl (sym c.wrong_hits.ensures ∙ c.if-wrong_hits.true)

pub work_short-requires : goal.work_short-requires
work_short-requires c =
    order-checked (index_of c.args.lent.now) c.args.query.now 0 c.in_ok-check_order.ensures refl

pub returns-then-work_short : goal.returns-then-work_short
returns-then-work_short c =
    let a = c.args in
    let ix = index_of a.lent.now in
    let right = sym c.wrong_hits.ensures ∙ c.if-wrong_hits.false in
    elim c.then-work_short.branch [
      | then-work_short-via-then-work_short w ↦ search-short ix a.query.now a.k (work_of a.work) a.places 0 c.in_ok-check_order.ensures refl right _ c.work_short.ensures w.if-work_short.true
      | then-work_short-via-else-work_short+then-places-k w ↦ search-few-places ix a.query.now a.k (work_of a.work) a.places 0 c.in_ok-check_order.ensures refl right _ c.work_short.ensures w.if-work_short.false w.if-places-k.true
    ]

pub returns : goal.returns
returns c =
    let a = c.args in
    let ix = index_of a.lent.now in
    search-accepted ix a.query.now a.k (work_of a.work) a.places 0 c.in_ok-check_order.ensures refl (sym c.wrong_hits.ensures ∙ c.if-wrong_hits.false) _ c.work_short.ensures c.if-work_short.false c.if-places-k.false
