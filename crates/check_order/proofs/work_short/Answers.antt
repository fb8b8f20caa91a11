-- The states, the phrase buffers, the ranges, in this order.
use Rattle.std.proofs.Common.{sym, ◌∙◌, true≢false}
use borrow.Author.Tests.{lt-ltb}
use Rattle.index.specs.IndexOf.{index_of}
use Rattle.check_order.specs.WorkOf.{work_of}
use Rattle.check_order.proofs.Refusing.{query-few}
use Rattle.check_order.proofs.Rooms.{starts-alone, states-short, starts-short, ranges-short}
use Rattle.check_order.proofs.work_short.Goals.{then-work-states_needed, else-work-states_needed}
use Rattle.check_order.proofs.work_short.Goals as goal

pub starts_short-requires : goal.starts_short-requires
starts_short-requires c = c.requires

pub returns-then-starts_short : goal.returns-then-starts_short
returns-then-starts_short c =
    let a = c.args in
    let ix = index_of a.lent.now in
    let n = c.states_needed in
    let alone = starts-alone ix a.query.now a.work.states a.work.starts a.work.other_starts a.work.ranges in
    c.if-starts_short.true ∙ elim c.if-work-states_needed.branch [
      | then-work-states_needed w ↦ states-short ix a.query.now (work_of a.work) n.result n.ensures w.if-work-states_needed.true
      | else-work-states_needed w ↦ starts-short ix a.query.now (work_of a.work) n.result n.ensures w.if-work-states_needed.false _ (w.starts_short.ensures ∙ alone) (sym w.value-is ∙ c.if-starts_short.true)
    ]

pub ranges_needed-requires : goal.ranges_needed-requires
ranges_needed-requires c = query-few c.requires

pub returns-else-starts_short : goal.returns-else-starts_short
returns-else-starts_short c =
    let a = c.args in
    let ix = index_of a.lent.now in
    let n = c.states_needed in
    let alone = starts-alone ix a.query.now a.work.states a.work.starts a.work.other_starts a.work.ranges in
    elim c.if-work-states_needed.branch [
      | then-work-states_needed w ↦ absurd (true≢false (sym (lt-ltb _ _ w.if-work-states_needed.true) ∙ sym w.value-is ∙ c.if-starts_short.false))
      | else-work-states_needed w ↦ ranges-short ix a.query.now (work_of a.work) n.result _ n.ensures w.if-work-states_needed.false _ (w.starts_short.ensures ∙ alone) (sym w.value-is ∙ c.if-starts_short.false) c.ranges_needed.ensures
    ]
