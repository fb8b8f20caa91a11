-- The matches written, and what is left of both lists, make the common part; each turn passes a head.
use Rattle.std.proofs.Common.{◌+◌, ◌-◌, length}
use Rattle.phrase_starts.proofs.Merged.{Merged}
use Rattle.phrase_starts.proofs.intersect.Given as goal

abbrev pub invariant-loop-i : goal.invariant-loop-i
invariant-loop-i l = Merged l.positions (record { first = l.first; freq = l.freq; offset = l.offset }) l.cands (length l.initial.out) l.out l.i l.c l.n

abbrev pub decreases-loop-i : goal.decreases-loop-i
decreases-loop-i l = (l.freq - l.i) + (length l.cands - l.c)
