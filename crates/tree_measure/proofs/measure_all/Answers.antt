-- From the last record back, so a tree's children are measured before it.
use Rattle.std.proofs.Common.{◌-◌, arith}
use Rattle.index.specs.IndexOf.{index_of}
use Rattle.tree_measure.proofs.Arrays.{all-none, all-more, all-down}
use Rattle.tree_measure.proofs.measure_all.Goals as goal

pub loop-at-init : goal.loop-at-init
loop-at-init c = all-none (index_of c.args.lent.now) c.args.query.now c.args.measures.now _ (omega arith)

pub measure_record-requires-clause-measured : goal.measure_record-requires-clause-measured
measure_record-requires-clause-measured c =
    all-down (index_of c.args.lent.now) c.args.query.now c.loop-at.measures c.loop-at.at c.loop-at-test.true c.loop-at.invariant

pub loop-at-preserved : goal.loop-at-preserved
loop-at-preserved c =
    let l = c.loop-at in
    let ix = index_of c.args.lent.now in
    let below = all-down ix c.args.query.now l.measures l.at c.loop-at-test.true l.invariant in
    all-more ix c.args.query.now l.measures (l.at - 1) c.measure_record.result (omega arith) below c.measure_record.ensures

pub returns-clause-measured : goal.returns-clause-measured
returns-clause-measured c = λ k r D h e. c.loop-at.invariant k r D (omega arith) e
