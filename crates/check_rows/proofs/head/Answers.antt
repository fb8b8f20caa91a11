-- Each turn gathers one record more, beside the one before it.
use Rattle.std.proofs.Common.{arith}
use Rattle.check_rows.proofs.Over.{over-one, over-next, over-few}
use Rattle.check_rows.proofs.head.Goals as goal

pub loop-i-init : goal.loop-i-init
loop-i-init c = over-one _

pub overflow_add-t : goal.overflow_add-t
overflow_add-t c = omega (arith, (over-few c.args.run.now c.loop-i.i (omega arith) c.loop-i.t c.loop-i.invariant).0, c.requires, c.loop-i-test.true)

pub overflow_add-t-in-loop-i : goal.overflow_add-t-in-loop-i
overflow_add-t-in-loop-i c = omega (arith, (over-few c.args.run.now c.loop-i.i (omega arith) c.loop-i.t c.loop-i.invariant).1, c.requires, c.loop-i-test.true)

pub loop-i-preserved : goal.loop-i-preserved
loop-i-preserved c = over-next c.args.run.now c.loop-i.i (omega arith) c.loop-i.t c.loop-i.invariant (λ k. omega (arith, c.type_inv.run k))
