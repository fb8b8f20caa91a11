use Rattle.index.proofs.Values.{columns-many, columns-length, columns-some, any-listed}
use Rattle.index.proofs.columns.wrong_columns.Goals as goal

pub returns-then-columns-gt-MAX_COLUMNS : goal.returns-then-columns-gt-MAX_COLUMNS
returns-then-columns-gt-MAX_COLUMNS c = columns-many _ c.if-columns-gt-MAX_COLUMNS.true

pub returns-then-values-columns : goal.returns-then-values-columns
returns-then-values-columns c = columns-length _ c.if-columns-gt-MAX_COLUMNS.false c.if-values-columns.true

pub returns : goal.returns
returns c = rw (c.wrong_types.ensures, any-listed, c.wrong_presence.ensures) (columns-some _ c.if-columns-gt-MAX_COLUMNS.false c.if-values-columns.false)
