-- The scan lists the documents that are let in, and these are the range's.
use Rattle.std.proofs.Common.{◌≡◌, refl, sym, ap, ◌∙◌, List, ℕ, length}
use Rattle.meaning.specs.Below.{list_below}
use Rattle.meaning.specs.Entries.{written}
use Rattle.meaning.specs.Lent.{Index}
use Rattle.meaning.specs.Range.{NumericRange, in_range, range_documents}
use Rattle.index.specs.Ranges.{asked}
use Rattle.doc_values.specs.declared.ready.Ready.{Ready}
use Rattle.doc_values.specs.Listed.{listed}
use Rattle.doc_values.specs.ColumnsOf.{columns_of}
use Rattle.doc_values.proofs.Ranges.{list-in-range}
use Rattle.doc_values.proofs.range.Goals as goal

-- what is let in of all documents is the range's list
same : (n : ℕ) (ready : Ready) (ix : Index) (r : NumericRange) → ready.max_doc ≡ n → ix.max_doc ≡ n → ((d : ℕ) → listed ready d ≡ in_range ix r d) → list_below ready.max_doc (listed ready) ≡ range_documents ix r
same n ready ix r e f takes = ap (λ (k : ℕ). list_below k (listed ready)) (e ∙ sym f) ∙ list-in-range ix r (listed ready) takes

pub returns-clause-value : goal.returns-clause-value
returns-clause-value c =
    let a = c.args in
    c.scan.ensures.value ∙ ap length (same a.lent.now.max_doc c.new.result (columns_of a.lent.now) (asked a.range) c.new.ensures.all refl c.new.ensures.takes)

pub returns-clause-output_after : goal.returns-clause-output_after
returns-clause-output_after c =
    let a = c.args in
    c.scan.ensures.output_after
    ∙ ap (λ (x : List ℕ). written x a.output.now) (same a.lent.now.max_doc c.new.result (columns_of a.lent.now) (asked a.range) c.new.ensures.all refl c.new.ensures.takes)
