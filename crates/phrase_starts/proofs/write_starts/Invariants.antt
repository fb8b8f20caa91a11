-- The first j starts of the term stand at the front.
use Rattle.std.proofs.Common.{◌≡◌, take}
use Rattle.phrase_starts.specs.Terms.{starts_of}
use Rattle.phrase_starts.proofs.write_starts.Given as goal

abbrev pub invariant-loop-j : goal.invariant-loop-j
invariant-loop-j l = take l.j l.out ≡ take l.j (starts_of l.positions l.t)
