-- The high bit of `steps` is set just where a position so far is wrong; `previous` is the last one.
use Rattle.check_positions.proofs.Places.{Places}
use Rattle.check_positions.proofs.wrong_places.Given as goal

abbrev pub invariant-loop-place : goal.invariant-loop-place
invariant-loop-place l = Places l.part l.place-index l.steps l.previous
