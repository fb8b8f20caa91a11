-- A word with no bit left is passed, of any other the lowest bit is the next; only the first word loses bits.
use Rattle.std.proofs.Common.{arith, refl}
use Rattle.scorer_leaf.proofs.Bitmaps.{none-left, lowest-first, none-first}
use Rattle.scorer_leaf.proofs.next_set.Goals as goal

pub returns-then-w-ne0 : goal.returns-then-w-ne0
returns-then-w-ne0 c =
    let a = c.args in
    let l = c.loop-at in
    lowest-first a.bitmap.now a.target l.at l.skip c.first_bits-below.result c.without-w.result (c.type_inv.bitmap l.at).fits l.invariant.0 c.loop-at-test.true l.invariant.1 c.first_bits-below.ensures (rw c.from.ensures at c.without-w.ensures) l.invariant.2 c.requires c.lowest.result _ c.lowest.ensures refl

pub loop-at-preserved : goal.loop-at-preserved
loop-at-preserved c =
    let a = c.args in
    let l = c.loop-at in (
      omega arith,
      omega (arith, l.invariant.0, l.invariant.1),
      none-left a.bitmap.now a.target l.at l.skip c.first_bits-below.result c.without-w.result (c.type_inv.bitmap l.at).fits l.invariant.0 c.loop-at-test.true l.invariant.1 c.first_bits-below.ensures (rw c.from.ensures at c.without-w.ensures) l.invariant.2 c.if-w-ne0.false,
    )

pub returns : goal.returns
returns c = none-first c.args.bitmap.now c.args.target c.loop-at.at c.loop-at.skip (omega (arith, c.loop-at-test.false)) c.loop-at.invariant.2
