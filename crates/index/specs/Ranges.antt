-- A range of a column as document 01 has it. Assumes nothing: these are definitions.
use Rattle.meaning.specs.Range.{NumericRange}
use Rattle.index.specs.declared.columns.NumericRange.{NumericRange as Given}

abbrev pub asked : Given → NumericRange
asked r = record { column = r.column; kinds = r.kinds; lower = r.lower; upper = r.upper }
