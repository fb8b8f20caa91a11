-- The index that a struct of lent columns stands for. Assumes nothing: this is a definition.
use Rattle.meaning.specs.Lent.{Index}
use Rattle.meaning.specs.Entries.{columns_only}
use Rattle.doc_values.specs.declared.Columns.{Columns}

abbrev pub columns_of : Columns → Index
columns_of c = columns_only c.max_doc c.columns.now c.values.now
