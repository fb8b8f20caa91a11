-- By the planes from j on, the places in `more` count above the number's digits, those in `equal` the same.
use Rattle.window_planes.proofs.Planes.{Comparing}
use Rattle.window_planes.proofs.above.Given as goal

abbrev pub invariant-loop-j : goal.invariant-loop-j
invariant-loop-j l = Comparing l.planes l.least l.want l.more l.equal l.j
