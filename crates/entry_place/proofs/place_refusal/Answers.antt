-- The order's refusal first, then 12, then 13.
use Rattle.std.proofs.Common.{refl, rules}
use Rattle.index.specs.IndexOf.{index_of}
use Rattle.check_order.specs.WorkOf.{place_work}
use Rattle.check_order.proofs.Answered.{passed_on}
use Rattle.check_order.proofs.Refusing.{order-checked}
use Rattle.entry_place.proofs.PlaceEntry.{place-order, place_short, place-outside, place-accepted}
use Rattle.entry_place.proofs.place_refusal.Goals as goal

pub returns-in_err-check_order : goal.returns-in_err-check_order
returns-in_err-check_order c =
    let a = c.args in
    passed_on _ _ c.in_err-check_order.field-0.0 _ (search rules) (search rules) (place-order (index_of a.lent.now) a.query.now a.record_number a.document (place_work a.starts a.other_starts) _ c.check_order.ensures)

pub starts_short-requires : goal.starts_short-requires
starts_short-requires c =
    order-checked (index_of c.args.lent.now) c.args.query.now 0 c.in_ok-check_order.ensures refl

pub returns-then-starts_short : goal.returns-then-starts_short
returns-then-starts_short c =
    let a = c.args in
    place_short (index_of a.lent.now) a.query.now a.record_number a.document (place_work a.starts a.other_starts) 0 c.in_ok-check_order.ensures refl _ c.starts_short.ensures c.if-starts_short.true

pub returns-then-wrong_place : goal.returns-then-wrong_place
returns-then-wrong_place c =
    let a = c.args in
    place-outside (index_of a.lent.now) a.query.now a.record_number a.document (place_work a.starts a.other_starts) 0 c.in_ok-check_order.ensures refl _ c.starts_short.ensures c.if-starts_short.false _ c.wrong_place.ensures c.if-wrong_place.true

pub returns : goal.returns
returns c =
    let a = c.args in
    place-accepted (index_of a.lent.now) a.query.now a.record_number a.document (place_work a.starts a.other_starts) 0 c.in_ok-check_order.ensures refl _ c.starts_short.ensures c.if-starts_short.false _ c.wrong_place.ensures c.if-wrong_place.false
