-- What `advance` of src/search/scorer.rs answers. Assumes nothing: these are definitions.
use Rattle.std.specs.Prelude.{◌≡◌, Bool, true, false, ℕ, ◌≤◌, ◌<◌}
use Rattle.meaning.specs.Limits.{no_more_docs}

-- r is the first document at or after the target that P takes, or NO_MORE_DOCS where P takes none: "here the end stays the end"
pub record First (P : ℕ → Bool) (target r : ℕ) : Type 0 where
  pub from : target ≤ r
  pub top : r ≤ no_more_docs
  pub before : (d : ℕ) → target ≤ d → d < r → P d ≡ false
  pub hit : r < no_more_docs → P r ≡ true
