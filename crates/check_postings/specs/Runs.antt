-- What the pass over a leaf's run of posting records looks for. Assumes nothing: these are definitions.
use Rattle.std.specs.Prelude.{ℕ, ◌-◌, Bool, not, ◌&&◌, ◌||◌, List, ◌==◌, nat_le, nat_lt}
use Rattle.meaning.specs.Limits.{largest_frequency}
use Rattle.index.specs.Runs.{run_document, run_frequency, run_index}

-- a document not below N or not above the one before, a frequency outside,
-- or in a field without positions an index not 0
unfoldable pub wrong_record : ℕ → Bool → List ℕ → ℕ → Bool
wrong_record n positions run i =
    (nat_le n (run_document run i) || (nat_lt 0 i && nat_le (run_document run i) (run_document run (i - 1))))
    || (run_frequency run i == 0 || nat_lt largest_frequency (run_frequency run i))
    || (nat_lt 0 (run_index run i) && not positions)
