-- What the passes over positions look for in a posting's part of the positions, and in a run of posting records.
-- Assumes nothing: these are definitions.
use Rattle.std.specs.Prelude.{ℕ, ◌+◌, ◌-◌, ◌%◌, Bool, not, ◌&&◌, ◌||◌, List, length, drop, ◌==◌, nat_le, nat_lt, slice_index}
use Rattle.meaning.specs.Below.{any_below}
use Rattle.meaning.specs.Limits.{no_more_docs}
use Rattle.index.specs.Runs.{run_frequency, run_index}

-- a position falling, or above 2147483647
unfoldable pub wrong_place : List ℕ → ℕ → Bool
wrong_place part j =
    nat_lt no_more_docs (slice_index part j)
    || (nat_lt 0 j && nat_lt (slice_index part j) (slice_index part (j - 1)))

-- positions of the i-th record past the slice, or one of them wrong
unfoldable pub wrong_places : List ℕ → List ℕ → ℕ → Bool
wrong_places run positions i =
    nat_lt (length positions) (run_index run i + run_frequency run i)
    || any_below (run_frequency run i) (wrong_place (drop (run_index run i) positions))

-- the positions of the i-th record do not begin where those of the one before end
unfoldable pub apart_at : List ℕ → ℕ → Bool
apart_at run i = nat_lt 0 i && not (run_index run i == run_index run (i - 1) + run_frequency run (i - 1))

-- a fall where the positions of the i-th record begin
unfoldable pub seam_at : List ℕ → List ℕ → ℕ → Bool
seam_at run positions i =
    nat_lt 0 i && nat_lt (slice_index positions (run_index run i)) (slice_index positions (run_index run i - 1))

-- a - b where a word wraps
unfoldable pub gap : ℕ → ℕ → ℕ
gap a b = (a + 4294967296 - b) % 4294967296

-- a position is below the one before: so where neither has its high bit set
unfoldable pub drop_at : List ℕ → ℕ → Bool
drop_at part k = nat_lt 0 k && nat_le 2147483648 (gap (slice_index part k) (slice_index part (k - 1)))
