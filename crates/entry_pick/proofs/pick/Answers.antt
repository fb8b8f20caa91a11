-- Refused, with the hits left as they were; or the best k of the lists in the first k places.
use Rattle.std.proofs.Common.{◌≡◌, Result, Err, rules, sym, arith, length, take}
use lib.Seq.{length-take-le}
use Rattle.refusal.specs.declared.Refusal.{Refusal}
use Rattle.collector.specs.declared.TopDocs.{TopDocs}
use Rattle.entry_pick.proofs.PickEntry.{pick-right, refused-answer, refused-hits, done-answer, done-hits}
use Rattle.entry_pick.proofs.pick.Goals as goal

pub returns-in_err-pick_refusal-clause-result_value : goal.returns-in_err-pick_refusal-clause-result_value
returns-in_err-pick_refusal-clause-result_value c =
    let r : Result TopDocs Refusal = Err c.in_err-pick_refusal.field-0.0 in
    let e : c.from_residual.result ≡ r = search rules in
    rw e (refused-answer _ _ _ _ _ _ c.in_err-pick_refusal.ensures)

pub returns-in_err-pick_refusal-clause-hits_after : goal.returns-in_err-pick_refusal-clause-hits_after
returns-in_err-pick_refusal-clause-hits_after c = refused-hits _ _ _ 0 _ _ c.in_err-pick_refusal.ensures

pub slice_bounds-pick-end : goal.slice_bounds-pick-end
slice_bounds-pick-end c = (pick-right _ _ _ _ c.in_ok-pick_refusal.ensures).room

pub slice_bounds-pick-end-2 : goal.slice_bounds-pick-end-2
slice_bounds-pick-end-2 c = sym (length-take-le _ _ (pick-right _ _ _ _ c.in_ok-pick_refusal.ensures).room)

pub pick-requires-clause-scores_value : goal.pick-requires-clause-scores_value
pick-requires-clause-scores_value c = (pick-right _ _ _ _ c.in_ok-pick_refusal.ensures).lists

pub pick-requires-clause-heap_nonzero : goal.pick-requires-clause-heap_nonzero
pick-requires-clause-heap_nonzero c =
    let r = pick-right _ _ _ _ c.in_ok-pick_refusal.ensures in
    let n : length (take c.args.k c.args.hits.now) ≡ c.args.k = length-take-le _ _ r.room in
    (omega (arith, n, r.low), omega (arith, n, r.high))

pub returns-clause-result_value : goal.returns-clause-result_value
returns-clause-result_value c =
    let is = c.in_ok-pick_refusal.ensures in
    done-answer _ _ _ _ _ is _ _ (length-take-le _ _ (pick-right _ _ _ _ is).room) c.pick.ensures.value

pub returns-clause-hits_after : goal.returns-clause-hits_after
returns-clause-hits_after c =
    let is = c.in_ok-pick_refusal.ensures in
    let room = (pick-right _ _ _ _ is).room in
    done-hits _ _ _ 0 _ is room _ _ (length-take-le _ _ room) c.pick.ensures.heap_after
