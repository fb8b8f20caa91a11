-- Number and counts are compared bit by bit, from the highest plane down.
use Rattle.std.proofs.Common.{◌-◌, arith, rules}
use Rattle.window_planes.proofs.Planes.{compare-start, compare-at, compare-odd, compare-even}
use Rattle.window_planes.proofs.above.Goals as goal

pub loop-j-init : goal.loop-j-init
loop-j-init c = compare-start c.args.planes.now c.args.least c.args.want c.requires.within

pub loop-j-preserved-then-least-j-eq1 : goal.loop-j-preserved-then-least-j-eq1
loop-j-preserved-then-least-j-eq1 c =
    let l = c.loop-j in
    compare-odd c.args.planes.now c.args.least c.args.want l.more l.equal (l.j - 1)
    (compare-at c.args.planes.now c.args.least c.args.want l.more l.equal l.j l.invariant c.loop-j-test.true)
    c.if-least-j-eq1.true

pub loop-j-preserved : goal.loop-j-preserved
loop-j-preserved c =
    let l = c.loop-j in
    compare-even c.args.planes.now c.args.least c.args.want l.more l.equal (l.j - 1)
    (compare-at c.args.planes.now c.args.least c.args.want l.more l.equal l.j l.invariant c.loop-j-test.true)
    (search rules)
    (omega (arith, c.if-least-j-eq1.false))
