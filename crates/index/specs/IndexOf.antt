-- The index that a struct of lent slices stands for. Assumes nothing: this is a definition.
use Rattle.meaning.specs.Lent.{Index}
use Rattle.index.specs.Slices.{lent}
use Rattle.index.specs.declared.lent.Lent.{Lent}

abbrev pub index_of : Lent → Index
index_of l =
    lent l.max_doc l.fields.now l.leaves.now l.postings.now l.positions.now l.norms.now l.live.now
    l.columns.now l.values.now
