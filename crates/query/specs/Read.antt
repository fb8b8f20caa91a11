-- What the checks of a query find of it and hand on to what runs after them. Assumes nothing: these are definitions.
use Rattle.std.specs.Prelude.{List, ◌≡◌, ℕ, ◌+◌, ◌≤◌, ◌<◌}
use Rattle.meaning.specs.Limits.{largest_boost}
use Rattle.meaning.specs.Lent.{Index, field_count, leaf_count, leaf_first, leaf_number, posting_count}
use Rattle.meaning.specs.Query.{record_count, record_kind, record_value}

-- each boost is at most 65,536, and so no NaN
pub record Boosts (q : List ℕ) : Type 0 where
  pub fit : (r : ℕ) → r < record_count q → record_kind q r ≡ 7 → record_value q r 0 ≤ largest_boost

-- each Phrase's field is there
pub record PhraseFields (ix : Index) (q : List ℕ) : Type 0 where
  pub present : (r : ℕ) → r < record_count q → record_kind q r ≡ 2 → record_value q r 0 < field_count ix

-- each PhraseTerm's leaf is there, and its run lies within the postings
pub record PhraseRuns (ix : Index) (q : List ℕ) : Type 0 where
  pub present : (r : ℕ) → r < record_count q → record_kind q r ≡ 9 → record_value q r 0 < leaf_count ix
  pub within : (r : ℕ) → r < record_count q → record_kind q r ≡ 9
      → leaf_first ix (record_value q r 0) + leaf_number ix (record_value q r 0) ≤ posting_count ix
