-- The j planes done, with the carry added to those left, make the counts with one more.
use Rattle.window_planes.proofs.Planes.{Carrying}
use Rattle.window_planes.proofs.counted.Given as goal

abbrev pub invariant-loop-plane : goal.invariant-loop-plane
invariant-loop-plane l = Carrying l.initial.planes l.x l.planes l.carry l.plane-index
