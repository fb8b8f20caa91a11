-- The matches counted, and what is left of both lists, make the common part; each turn passes a head.
use Rattle.std.proofs.Common.{◌+◌, ◌-◌}
use Rattle.phrase_starts.proofs.Paired.{Paired}
use Rattle.phrase_starts.proofs.pair.Given as goal

abbrev pub invariant-loop-i : goal.invariant-loop-i
invariant-loop-i l = Paired l.positions (record { first = l.first; freq = l.freq; offset = l.offset }) (record { first = l.other_first; freq = l.other_freq; offset = l.other_offset }) l.i l.j l.n

abbrev pub decreases-loop-i : goal.decreases-loop-i
decreases-loop-i l = (l.freq - l.i) + (l.other_freq - l.j)
