-- What `range` requires can be met: a column of three i64 values, −1, absent and 5, asked from −1, excluded, up to 5,
-- included. Assumes nothing.
use mathlib.Core.Path.{◌≡◌, refl}
use mathlib.Core.Bool.{false}
use mathlib.Core.List.{[], ◌∷◌}
use Rattle.meaning.specs.Below.{any_below, list_below}
use Rattle.meaning.specs.Lent.{Index}
use Rattle.meaning.specs.Range.{NumericRange, i64_of, value_below, at_lower, at_upper, in_range, range_documents}
use Rattle.meaning.specs.IndexRefusals.{wrong1, wrong_column, wrong6}
use Rattle.meaning.specs.QueryRefusals.{wrong_range}
use Rattle.meaning.specs.Entries.{columns_only}

abbrev lent : Index
lent = columns_only 3 (0 ∷ []) (1 ∷ 0xffff_ffff ∷ 0xffff_ffff ∷ 0 ∷ 5 ∷ 0 ∷ 1 ∷ 5 ∷ 0 ∷ [])

abbrev asked : NumericRange
asked = record { column = 0; kinds = 5; lower = 0xffff_ffff_ffff_ffff; upper = 5 }

pub met : (wrong1 lent ≡ false) × (wrong6 lent ≡ false) × (wrong_range lent asked ≡ false) × (range_documents lent asked ≡ 2 ∷ [])
unfolding wrong1 wrong6 wrong_column wrong_range any_below list_below range_documents in_range at_lower at_upper value_below i64_of
met = (refl, refl, refl, refl)
