-- The scan sets the bits of the documents that are let in, and these are the range's.
use Rattle.std.proofs.Common.{ap, ◌∙◌, ℕ, length}
use Rattle.meaning.specs.Below.{list_below}
use Rattle.index.specs.Ranges.{asked}
use Rattle.doc_values.specs.Listed.{listed}
use Rattle.doc_values.specs.ColumnsOf.{columns_of}
use Rattle.doc_values.proofs.Ranges.{list-in-range}
use Rattle.doc_values.proofs.range_bitmap.Goals as goal

pub returns-clause-value : goal.returns-clause-value
returns-clause-value c =
    let a = c.args in
    c.sift.ensures.value
    ∙ ap (λ (n : ℕ). length (list_below n (listed c.new.result))) c.new.ensures.all
    ∙ ap length (list-in-range (columns_of a.lent.now) (asked a.range) _ c.new.ensures.takes)
