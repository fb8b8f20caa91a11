-- Binary addition of one at each place: a plane and the carry give the sum bit and the next carry.
use Rattle.std.proofs.Common.{arith}
use Rattle.window_planes.proofs.Planes.{carry-more, carry-end}
use Rattle.window_planes.proofs.counted.Goals as goal

pub loop-plane-preserved : goal.loop-plane-preserved
loop-plane-preserved c =
    let l = c.loop-plane in
    carry-more c.args.planes.now c.args.x l.planes l.carry l.plane-index l.invariant (omega arith)

pub returns : goal.returns
returns c =
    let l = c.loop-plane in
    carry-end c.args.planes.now c.args.x l.planes l.carry l.plane-index l.invariant (omega arith)
