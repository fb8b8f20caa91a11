-- A position above NO_MORE_DOCS has its high bit set, and a falling one its difference's: the or keeps both.
use Rattle.std.proofs.Common.{◌+◌, ◌-◌, ◌%◌, ◌<◌, get_or, arith}
use Rattle.check_positions.proofs.Places.{places-none, places-more}
use Rattle.check_positions.proofs.Gaps.{wraps}
use Rattle.check_positions.proofs.wrong_places.Goals as goal

pub loop-place-init : goal.loop-place-init
loop-place-init c = places-none _

pub loop-place-preserved : goal.loop-place-preserved
loop-place-preserved c =
    let k = c.loop-place.place-index in
    let place : get_or c.args.part.now k 0 < 4294967296 = omega (arith, c.type_inv.part k) in
    let before : c.loop-place.previous < 4294967296 = omega (arith, c.loop-place.auto.previous-fits) in
    let fits : (get_or c.args.part.now k 0 + (4294967296 - c.loop-place.previous)) % 4294967296 < 4294967296 = omega arith in
    places-more c.args.part.now k c.loop-place.steps c.loop-place.previous _ c.loop-place.invariant (wraps _ _ place before) fits
