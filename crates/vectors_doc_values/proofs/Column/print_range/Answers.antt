-- An unbounded end is lent as 0, so the range is not refused.
use Rattle.doc_values.specs.ColumnsOf.{columns_of}
use Rattle.vectors_doc_values.proofs.Asked.{range-right}
use Rattle.vectors_doc_values.proofs.Column.print_range.Goals as goal

pub range-n-requires-clause-right : goal.range-n-requires-clause-right
range-n-requires-clause-right g c =
    let column = c.args.self in
    record {
      documents = column.right.documents;
      columns = column.right.records;
      range = range-right (columns_of column.lent) column.column c.args.kinds c.end_of.result c.end_of-2.result column.right.there c.requires c.end_of.ensures c.end_of-2.ensures;
    }
