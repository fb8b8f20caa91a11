-- Refused, or what the work finds.
use Rattle.std.proofs.Common.{◌≡◌, refl, Err, rules}
use Rattle.index.specs.IndexOf.{index_of}
use Rattle.check_order.proofs.Answered.{number-told}
use Rattle.entry_place.proofs.PlaceEntry.{place-refused, place-lends, place-given}
use Rattle.entry_place.proofs.place.Goals as goal

pub returns-in_err-place_refusal-clause-place_answer : goal.returns-in_err-place_refusal-clause-place_answer
returns-in_err-place_refusal-clause-place_answer c =
    let a = c.args in
    let s = c.in_err-place_refusal.field-0.0 in
    let e : c.place_refusal.result ≡ Err s = search rules in
    let f : c.from_residual.result ≡ Err s = search rules in
    place-refused (index_of a.lent.now) a.query.now a.record_number a.document _ _ s _ f (number-told _ s _ e c.place_refusal.ensures)

pub locate-start-requires : goal.locate-start-requires
locate-start-requires c =
    let a = c.args in
    place-lends (index_of a.lent.now) a.query.now a.record_number a.document _ _ 0 c.in_ok-place_refusal.ensures refl _ (search rules)

pub returns-clause-place_answer : goal.returns-clause-place_answer
returns-clause-place_answer c =
    let a = c.args in
    place-given (index_of a.lent.now) a.query.now a.record_number a.document _ _ 0 c.in_ok-place_refusal.ensures refl c.locate-start.result c.locate-start.ensures
