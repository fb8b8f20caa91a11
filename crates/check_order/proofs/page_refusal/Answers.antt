-- The order's refusal first, then 12, then 13.
use Rattle.std.proofs.Common.{refl, rules, arith}
use Rattle.index.specs.IndexOf.{index_of}
use Rattle.check_order.specs.WorkOf.{work_of}
use Rattle.check_order.proofs.Answered.{passed_on}
use Rattle.check_order.proofs.Refusing.{order-checked}
use Rattle.check_order.proofs.CallConditions.{page-order, page-short, page-unequal, page-above, page-accepted}
use Rattle.check_order.proofs.page_refusal.Goals.{then-work_short-via-then-work_short, then-work_short-via-else-work_short+then-documents-scores}
use Rattle.check_order.proofs.page_refusal.Goals as goal

pub returns-in_err-check_order : goal.returns-in_err-check_order
returns-in_err-check_order c =
    let a = c.args in
    passed_on _ _ c.in_err-check_order.field-0.0 _ (search rules) (search rules) (page-order (index_of a.lent.now) a.query.now a.target (work_of a.work) a.documents a.scores _ c.check_order.ensures)

pub work_short-requires : goal.work_short-requires
work_short-requires c =
    order-checked (index_of c.args.lent.now) c.args.query.now 0 c.in_ok-check_order.ensures refl

pub returns-then-work_short : goal.returns-then-work_short
returns-then-work_short c =
    let a = c.args in
    let ix = index_of a.lent.now in
    elim c.then-work_short.branch [
      | then-work_short-via-then-work_short w ↦ page-short ix a.query.now a.target (work_of a.work) a.documents a.scores 0 c.in_ok-check_order.ensures refl _ c.work_short.ensures w.if-work_short.true
      | then-work_short-via-else-work_short+then-documents-scores w ↦ page-unequal ix a.query.now a.target (work_of a.work) a.documents a.scores 0 c.in_ok-check_order.ensures refl _ c.work_short.ensures w.if-work_short.false w.if-documents-scores.true
    ]

pub returns-then-lent-target : goal.returns-then-lent-target
returns-then-lent-target c =
    let a = c.args in
    let ix = index_of a.lent.now in
    page-above ix a.query.now a.target (work_of a.work) a.documents a.scores 0 c.in_ok-check_order.ensures refl _ c.work_short.ensures c.if-work_short.false c.if-documents-scores.false (omega (arith, c.if-lent-target.true))

pub returns : goal.returns
returns c =
    let a = c.args in
    let ix = index_of a.lent.now in
    page-accepted ix a.query.now a.target (work_of a.work) a.documents a.scores 0 c.in_ok-check_order.ensures refl _ c.work_short.ensures c.if-work_short.false c.if-documents-scores.false (omega (arith, c.if-lent-target.false))
