-- A run of documents in lent words, and what a search in it answers. Assumes nothing: these are definitions.
use Rattle.std.specs.Prelude.{ℕ, ◌+◌, ◌*◌, ◌≤◌, ◌<◌, List, length, get_or}

-- the i-th document of a run of records of so many words, the run's first record at a place
abbrev pub document_at : List ℕ → ℕ → ℕ → ℕ → ℕ
document_at words stride first i = get_or words (stride * (first + i)) 0

-- the run lies within the words, and its documents ascend
pub record Run (words : List ℕ) (stride first count : ℕ) : Type 0 where
  pub step : 0 < stride
  pub few : count < 9223372036854775808
  pub within : (i : ℕ) → i < count → stride * (first + i) < length words
  pub ascending : (i j : ℕ) → i < j → j < count → document_at words stride first i < document_at words stride first j

-- r is the first place from a place on whose document is at least the target, or the count
pub record Lower (words : List ℕ) (stride first count from target r : ℕ) : Type 0 where
  pub within : r ≤ count
  pub passed : (i : ℕ) → from ≤ i → i < r → document_at words stride first i < target
  pub stops : r < count → target ≤ document_at words stride first r

-- what a search between two places asks: beyond the second, the documents are at least the target
pub record Between (words : List ℕ) (stride first count low high target : ℕ) : Type 0 where
  pub run : Run words stride first count
  pub low-high : low ≤ high
  pub high-within : high ≤ count
  pub stops : high < count → target ≤ document_at words stride first high
