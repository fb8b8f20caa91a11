-- The first document beyond the window ends the loop, and all behind it are beyond it too.
use Rattle.std.proofs.Common.{arith}
use Rattle.window.proofs.Gathering.{gathering-start, gathering-more, gathering-stops}
use Rattle.window.proofs.gathered.Goals as goal

pub loop-i-init : goal.loop-i-init
loop-i-init c = gathering-start c.args.postings.run c.requires

pub returns-then-place-ge64 : goal.returns-then-place-ge64
returns-then-place-ge64 c = gathering-stops c.args.postings.run c.requires c.loop-i.i c.loop-i.w c.loop-i.invariant c.loop-i-test.true c.document.result c.document.ensures c.if-place-ge64.true

pub loop-i-preserved : goal.loop-i-preserved
loop-i-preserved c = gathering-more c.args.postings.run c.requires c.loop-i.i c.loop-i.w c.loop-i.invariant c.loop-i-test.true c.document.result c.document.ensures c.set_bit-w.result (omega (arith, c.if-place-ge64.false)) c.set_bit-w.ensures
