-- Each number looks only at the slices that its function is lent. Assumes nothing.
use mathlib.Core.Path.{◌≡◌, refl}
use mathlib.Core.List.{[]}
use Rattle.meaning.specs.Lent.{Index}
use Rattle.meaning.specs.Live.{is_live}
use Rattle.meaning.specs.Range.{NumericRange}
use Rattle.meaning.specs.IndexRefusals.{wrong1, wrong2, wrong3, wrong4, wrong5, wrong6, wrong_field, wrong_leaf, wrong_posting, wrong_positions, wrong_position, wrong_column}
use Rattle.meaning.specs.QueryRefusals.{wrong_range}
use Rattle.meaning.specs.Entries.{columns_only}
use Rattle.index.specs.Slices.{lent, fields_only, live_only, lengths_only, leaves_only, runs_only}
use Prim.Native.Nat.{ℕ}

module _ (ix : Index) where
  pub wrong1-of : wrong1 ix ≡ wrong1 (lent ix.max_doc [] [] [] [] [] [] [] [])
  unfolding wrong1
  wrong1-of = refl

  pub wrong2-of : wrong2 ix ≡ wrong2 (fields_only ix.fields)
  unfolding wrong2 wrong_field
  wrong2-of = refl

  pub wrong3-of : wrong3 ix ≡ wrong3 (lengths_only ix.max_doc ix.fields ix.norms ix.live)
  unfolding wrong3
  wrong3-of = refl

  pub wrong4-of : wrong4 ix ≡ wrong4 (leaves_only ix.fields ix.leaves ix.postings)
  unfolding wrong4 wrong_leaf
  wrong4-of = refl

  pub wrong5-of : wrong5 ix ≡ wrong5 (runs_only ix.max_doc ix.fields ix.leaves ix.postings ix.positions)
  unfolding wrong5 wrong_posting wrong_positions wrong_position
  wrong5-of = refl

  pub wrong6-of : wrong6 ix ≡ wrong6 (columns_only ix.max_doc ix.columns ix.values)
  unfolding wrong6 wrong_column
  wrong6-of = refl

  -- N and the columns alone decide 1 too
  pub wrong1-columns : wrong1 ix ≡ wrong1 (columns_only ix.max_doc ix.columns ix.values)
  unfolding wrong1
  wrong1-columns = refl

  -- and the Range entry's 8 needs the columns' number only
  pub wrong_range-of : (r : NumericRange) → wrong_range ix r ≡ wrong_range (columns_only 0 ix.columns []) r
  unfolding wrong_range
  wrong_range-of r = refl

  pub wrong_range-columns : (r : NumericRange) → wrong_range ix r ≡ wrong_range (columns_only ix.max_doc ix.columns ix.values) r
  unfolding wrong_range
  wrong_range-columns r = refl

  pub is_live-of : (d : ℕ) → is_live ix d ≡ is_live (live_only ix.live) d
  unfolding is_live
  is_live-of d = refl
