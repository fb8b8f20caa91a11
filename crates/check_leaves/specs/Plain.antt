-- A run of posting records that is plainly right but for its documents. Assumes nothing: these are definitions.
use Rattle.std.specs.Prelude.{◌≡◌, Bool, false, ◌&&◌, List, ℕ, ◌-◌, ◌≤◌, ◌<◌, leb, ltb}
use Rattle.meaning.specs.Below.{any_below, count_below}
use Rattle.meaning.specs.Limits.{largest_frequency}
use Rattle.index.specs.Runs.{run_document, run_frequency}
use Rattle.check_positions.specs.Places.{apart_at}

-- the document of record i is not above that of the record before
abbrev pub document_fall : List ℕ → ℕ → Bool
document_fall run i = ltb 0 i && leb (run_document run i) (run_document run (i - 1))

-- n records whose positions follow one another and whose frequencies are right;
-- so many documents are not above the one before
pub record Plain (run : List ℕ) (n falls : ℕ) : Type 0 where
  pub joined : any_below n (apart_at run) ≡ false
  pub some : (i : ℕ) → i < n → 0 < run_frequency run i
  pub most : (i : ℕ) → i < n → run_frequency run i ≤ largest_frequency
  pub falling : count_below n (document_fall run) ≡ falls
