-- The live matches before the window are collected, and the sums are 0.
use Rattle.std.proofs.Common.{◌≡◌, ◌-◌, ◌%◌, ◌≤◌}
use Rattle.meaning.specs.Limits.{no_more_docs}
use Rattle.scorer_leaf.specs.Buffers.{places_in, SameBuffers}
use Rattle.window_score.specs.Sums.{Zeros}
use Rattle.bulk_window.proofs.Loop.{AllAt}
use Rattle.bulk_window.proofs.collect_windows.Given as goal

abbrev pub invariant-loop-base : goal.invariant-loop-base
invariant-loop-base l =
    record {
      whole : l.base % 64 ≡ 0;
      zeros : Zeros l.sums;
      buffers : SameBuffers l.fn.buffers l.buffers;
      top : l.base ≤ no_more_docs;
      at : AllAt l.reader (places_in l.fn.buffers) l.fn.states l.depth l.doc_base l.fn.c l.fn.heap l.states l.c l.heap l.base;
    }

abbrev pub decreases-loop-base : goal.decreases-loop-base
decreases-loop-base l = l.reader.max_doc - l.base
