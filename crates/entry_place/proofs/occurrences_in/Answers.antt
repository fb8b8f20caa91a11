-- The posting that the search finds, and its words.
use Rattle.std.proofs.Common.{sym, ◌∙◌}
use Rattle.index.specs.IndexOf.{index_of}
use Rattle.entry_place.proofs.TermWords.{posting-hit, posting-over, posting-missed}
use Rattle.entry_place.proofs.occurrences_in.Goals as goal

pub returns-then-posting_document-document : goal.returns-then-posting_document-document
returns-then-posting_document-document c =
    let w = posting-hit (index_of c.args.lent.now) _ c.args.document c.requires _ c.leaf_at-leaf.ensures _ _ _ c.if-i-number.true (sym c.posting_document.ensures ∙ c.if-posting_document-document.true) c.posting_index.ensures c.posting_frequency.ensures in
    record { first = w.0; frequency = w.1 }

pub returns-else-posting_document-document : goal.returns-else-posting_document-document
returns-else-posting_document-document c =
    let w = posting-missed (index_of c.args.lent.now) _ c.args.document c.requires _ c.leaf_at-leaf.ensures _ c.lower-i.ensures c.if-i-number.true (λ e. c.if-posting_document-document.false (c.posting_document.ensures ∙ e)) in
    record { first = w.0; frequency = w.1 }

pub returns-else-i-number : goal.returns-else-i-number
returns-else-i-number c =
    let w = posting-over (index_of c.args.lent.now) _ c.args.document c.requires _ c.leaf_at-leaf.ensures _ c.lower-i.ensures c.if-i-number.false in
    record { first = w.0; frequency = w.1 }
