-- The cached document if it is beyond the target, else the next bit of the bitmap, which is cached.
use Rattle.std.proofs.Common.{arith}
use Rattle.scorer.proofs.Nodes.{node-long, node-cached}
use Rattle.scorer.proofs.Terms.{range-asks, range-sought}
use Rattle.scorer.proofs.advance_range.Goals as goal

pub bounds-states-2 : goal.bounds-states-2
bounds-states-2 c = omega (arith, node-long c.requires.2.7)

pub returns-then-target-cached : goal.returns-then-target-cached
returns-then-target-cached c = λ E k same ix p T o z. (node-cached z c.if-target-cached.true, z.ok)

pub seek_range-d-requires : goal.seek_range-d-requires
seek_range-d-requires c = let P = c.requires.2 in range-asks c.requires.1 c.if-target-cached.false P.1 P.7

pub overflow_add-states : goal.overflow_add-states
overflow_add-states c =
    let P = c.requires.2 in
    let y = c.seek_range-d in
    let d = range-sought c.requires.1 c.if-target-cached.false P.1 P.7 c.requires.0 y.result y.ensures in
    omega (arith, d.0.top)

pub bounds-states-2-2 : goal.bounds-states-2-2
bounds-states-2-2 c = omega (arith, node-long c.requires.2.7)

pub returns : goal.returns
returns c = let y = c.seek_range-d in λ E k same ix p T o z. range-sought c.requires.1 c.if-target-cached.false same z c.requires.0 y.result y.ensures
