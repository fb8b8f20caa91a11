-- What the functions over columns ask. Assumes nothing: these are definitions.
use Rattle.std.specs.Prelude.{◌≡◌, false, List, ℕ, ◌≤◌, ◌<◌, length}
use Rattle.meaning.specs.IndexRefusals.{wrong1, wrong6}
use Rattle.meaning.specs.Entries.{columns_only}

-- the columns of so few documents are not refused, and this one is among them
pub record Columns (n : ℕ) (columns values : List ℕ) (column : ℕ) : Type 0 where
  pub documents : wrong1 (columns_only n columns values) ≡ false
  pub records : wrong6 (columns_only n columns values) ≡ false
  pub there : column < length columns
  pub few : n ≤ 18
