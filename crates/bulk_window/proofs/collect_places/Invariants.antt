-- The places done are collected, the others are those of `left`; the sums of those done are 0.
use Rattle.std.proofs.Common.{◌≡◌, length, get_or}
use Rattle.std.specs.Float.{nan}
use Rattle.meaning.specs.Ieee754.{zero_float, narrow}
use Rattle.window_score.proofs.Adding.{Adding}
use Rattle.bulk_window.proofs.Places.{PlacesAt}
use Rattle.bulk_window.proofs.collect_places.Given as goal

abbrev pub invariant-loop-place : goal.invariant-loop-place
invariant-loop-place l =
    record {
      long : length l.heap ≡ length l.fn.heap;
      sums : Adding (λ p x. zero_float) l.places l.place-iterator.left l.fn.sums l.sums;
      at : PlacesAt l.first (λ p. narrow (get_or l.fn.sums p nan)) l.places l.fn.c l.fn.heap l.place-iterator.left l.c l.heap;
    }
