-- Leaves whose runs follow one another. Assumes nothing: these are definitions.
use Rattle.std.specs.Prelude.{◌≡◌, Bool, true, false, ◌&&◌, ℕ, suc, ◌+◌, ◌-◌, ◌<◌, leb, ltb}
use Rattle.meaning.specs.Below.{count_below}
use Rattle.meaning.specs.Lent.{Index, has_positions, leaf_field, leaf_first, leaf_number, leaf_document}
use Rattle.index.specs.Runs.{run_document}

-- the first document of the i-th leaf from l on is not above the last of the leaf before
abbrev pub border_fall : Index → ℕ → ℕ → Bool
border_fall ix l i =
    ltb 0 i
    && leb (run_document ix.postings (leaf_first ix (l + i))) (run_document ix.postings (leaf_first ix (l + i) - 1))

-- m leaves from l on, none of them empty, and all but the first known to have positions: where the last run ends, how
-- many first documents are not above the one before, and whether a last document is not below N
pub record Together (ix : Index) (l m last falls : ℕ) (high : Bool) : Type 0 where
  pub some : (i : ℕ) → i < m → 0 < leaf_number ix (l + i)
  pub next : (i : ℕ) → suc i < m → leaf_first ix (l + suc i) ≡ leaf_first ix (l + i) + leaf_number ix (l + i)
  pub with : (i : ℕ) → suc i < m → has_positions ix (leaf_field ix (l + suc i)) ≡ true
  pub ends : last ≡ leaf_first ix (l + (m - 1)) + leaf_number ix (l + (m - 1))
  pub fallen : falls ≡ count_below m (border_fall ix l)
  pub low : high ≡ false → (i : ℕ) → i < m → leaf_document ix (l + i) (leaf_number ix (l + i) - 1) < ix.max_doc
