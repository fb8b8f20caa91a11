-- The places in `left` still have their sums, the other wanted ones what the function answered.
use Rattle.window_score.proofs.Adding.{Changing}
use Rattle.window_score.specs.Sums.{Reached, Answered}
use Rattle.window_score.proofs.sums.change_sums.Given as goal

abbrev pub invariant-loop-place : goal.invariant-loop-place
invariant-loop-place g l =
    record {
      reached : Reached (goal.F-step g) l.want l.initial.sums l.initial.changed l.changed;
      changing : Changing (Answered (goal.F-step g) l.want l.initial.sums l.initial.changed) l.want l.place-iterator.left l.initial.sums l.sums;
    }
