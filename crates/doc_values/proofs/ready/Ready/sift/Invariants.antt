-- The words before this one are written, and their bits counted.
use Rattle.std.proofs.Common.{◌*◌, ◌≡◌}
use Rattle.meaning.specs.Below.{count_below}
use Rattle.bits.specs.Bit.{Bitmap}
use Rattle.doc_values.specs.Listed.{listed}
use Rattle.doc_values.proofs.Bitmaps.{cut_at}
use Rattle.doc_values.proofs.ready.Ready.sift.Given as goal

abbrev pub invariant-loop-word : goal.invariant-loop-word
invariant-loop-word l =
    (l.held ≡ count_below (32 * l.word) (cut_at l.self.max_doc (listed l.self))) × Bitmap (cut_at l.self.max_doc (listed l.self)) l.output 0 l.word
