-- Each turn counts one record more, if its first position is below the one before it.
use Rattle.std.proofs.Common.{refl, sym, ◌∙◌, arith, lt-ltb, le-ltb}
use Rattle.meaning.proofs.Below.{count-one, count_same, count-le}
use Rattle.check_positions.specs.Places.{seam_at}
use Rattle.check_positions.proofs.Joined.{seam-first, seam-turn}
use Rattle.check_positions.proofs.seams.Goals.{then-positions-index, else-positions-index}
use Rattle.check_positions.proofs.seams.Goals as goal

pub loop-i-init : goal.loop-i-init
loop-i-init c = seam-first _ _

pub overflow_add-falls : goal.overflow_add-falls
overflow_add-falls c = omega (arith, c.loop-i.invariant, c.loop-i-test.true, count-le c.loop-i.i (seam_at c.args.run.now c.args.positions.now), c.well_formed)

pub loop-i-preserved : goal.loop-i-preserved
loop-i-preserved c =
    let turn = seam-turn c.args.run.now c.args.positions.now c.loop-i.i _ (omega arith) refl in
    elim c.if-positions-index.branch [
      | then-positions-index w ↦ w.falls-is ∙ count-one _ _ _ c.loop-i.invariant (sym turn ∙ lt-ltb _ _ w.if-positions-index.true)
      | else-positions-index w ↦ w.falls-is ∙ count_same _ _ _ c.loop-i.invariant (sym turn ∙ le-ltb _ _ w.if-positions-index.false)
    ]
