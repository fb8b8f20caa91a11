-- The lengths of the work buffers, as the definitions have them. Assumes nothing: these are definitions.
use Rattle.std.specs.Prelude.{ℕ}
use Rattle.meaning.specs.CallRefusals.{Work}
use Rattle.check_order.specs.declared.Work as Lengths

-- node states, two phrase buffers, the range buffer
abbrev pub work : ℕ → ℕ → ℕ → ℕ → Work
work states starts other_starts ranges =
    record { states = states; starts = starts; other_starts = other_starts; ranges = ranges }

-- those of Place: the two phrase buffers alone
abbrev pub place_work : ℕ → ℕ → Work
place_work starts other_starts = work 0 starts other_starts 0

-- those of the struct
abbrev pub work_of : Lengths.Work → Work
work_of w = work w.states w.starts w.other_starts w.ranges
