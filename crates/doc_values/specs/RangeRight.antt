-- What a scan asks of its columns and its range: none is refused. Assumes nothing: this is a definition.
use Rattle.std.specs.Prelude.{◌≡◌, false}
use Rattle.meaning.specs.Lent.{Index}
use Rattle.meaning.specs.Range.{NumericRange}
use Rattle.meaning.specs.IndexRefusals.{wrong1, wrong6}
use Rattle.meaning.specs.QueryRefusals.{wrong_range}

pub record RangeRight (ix : Index) (r : NumericRange) : Type 0 where
  pub documents : wrong1 ix ≡ false
  pub columns : wrong6 ix ≡ false
  pub range : wrong_range ix r ≡ false
