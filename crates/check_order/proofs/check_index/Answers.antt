-- The tests go by the numbers 1 to 6, so the first that holds is the lowest; a test may ask for what those before it
-- let through.
use Rattle.std.proofs.Common.{sym, ◌∙◌}
use Rattle.index.specs.IndexOf.{index_of}
use Rattle.index.proofs.Known.{documents-few}
use Rattle.index.proofs.Parts.{wrong1-of, wrong2-of, wrong3-of, wrong4-of, wrong6-of, wrong1-columns}
use Rattle.index.proofs.Refused.{refused-1, refused-2, refused-3, refused-4, refused-5, refused-6, not-refused}
use Rattle.check_order.proofs.check_index.Goals as goal

pub returns-then-wrong_max_doc : goal.returns-then-wrong_max_doc
returns-then-wrong_max_doc c =
    let ix = index_of c.args.lent.now in
    refused-1 ix (wrong1-of ix ∙ sym c.wrong_max_doc.ensures ∙ c.if-wrong_max_doc.true)

pub returns-then-wrong_fields : goal.returns-then-wrong_fields
returns-then-wrong_fields c =
    let ix = index_of c.args.lent.now in
    refused-2 ix (wrong1-of ix ∙ sym c.wrong_max_doc.ensures ∙ c.if-wrong_max_doc.false) (wrong2-of ix ∙ sym c.wrong_fields.ensures ∙ c.if-wrong_fields.true)

pub returns-then-wrong_lengths : goal.returns-then-wrong_lengths
returns-then-wrong_lengths c =
    let ix = index_of c.args.lent.now in
    refused-3 ix (wrong1-of ix ∙ sym c.wrong_max_doc.ensures ∙ c.if-wrong_max_doc.false) (wrong2-of ix ∙ sym c.wrong_fields.ensures ∙ c.if-wrong_fields.false) (wrong3-of ix ∙ sym c.wrong_lengths.ensures ∙ c.if-wrong_lengths.true)

pub returns-then-wrong_leaves : goal.returns-then-wrong_leaves
returns-then-wrong_leaves c =
    let ix = index_of c.args.lent.now in
    refused-4 ix (wrong1-of ix ∙ sym c.wrong_max_doc.ensures ∙ c.if-wrong_max_doc.false) (wrong2-of ix ∙ sym c.wrong_fields.ensures ∙ c.if-wrong_fields.false) (wrong3-of ix ∙ sym c.wrong_lengths.ensures ∙ c.if-wrong_lengths.false) (wrong4-of ix ∙ sym c.wrong_leaves.ensures ∙ c.if-wrong_leaves.true)

pub wrong_postings-requires : goal.wrong_postings-requires
wrong_postings-requires c =
    let ix = index_of c.args.lent.now in
    record { max_doc_bound = documents-few ix (wrong1-of ix ∙ sym c.wrong_max_doc.ensures ∙ c.if-wrong_max_doc.false); leaves_right = wrong4-of ix ∙ sym c.wrong_leaves.ensures ∙ c.if-wrong_leaves.false }

pub returns-then-wrong_postings : goal.returns-then-wrong_postings
returns-then-wrong_postings c =
    let ix = index_of c.args.lent.now in
    refused-5 ix (wrong1-of ix ∙ sym c.wrong_max_doc.ensures ∙ c.if-wrong_max_doc.false) (wrong2-of ix ∙ sym c.wrong_fields.ensures ∙ c.if-wrong_fields.false) (wrong3-of ix ∙ sym c.wrong_lengths.ensures ∙ c.if-wrong_lengths.false) (wrong4-of ix ∙ sym c.wrong_leaves.ensures ∙ c.if-wrong_leaves.false) (sym c.wrong_postings.ensures ∙ c.if-wrong_postings.true)

pub wrong_columns-requires : goal.wrong_columns-requires
wrong_columns-requires c =
    let ix = index_of c.args.lent.now in
    sym (wrong1-columns ix) ∙ wrong1-of ix ∙ sym c.wrong_max_doc.ensures ∙ c.if-wrong_max_doc.false

pub returns-then-wrong_columns : goal.returns-then-wrong_columns
returns-then-wrong_columns c =
    let ix = index_of c.args.lent.now in
    refused-6 ix (wrong1-of ix ∙ sym c.wrong_max_doc.ensures ∙ c.if-wrong_max_doc.false) (wrong2-of ix ∙ sym c.wrong_fields.ensures ∙ c.if-wrong_fields.false) (wrong3-of ix ∙ sym c.wrong_lengths.ensures ∙ c.if-wrong_lengths.false) (wrong4-of ix ∙ sym c.wrong_leaves.ensures ∙ c.if-wrong_leaves.false) (sym c.wrong_postings.ensures ∙ c.if-wrong_postings.false) (wrong6-of ix ∙ sym c.wrong_columns.ensures ∙ c.if-wrong_columns.true)

pub returns : goal.returns
returns c =
    let ix = index_of c.args.lent.now in
    not-refused ix (wrong1-of ix ∙ sym c.wrong_max_doc.ensures ∙ c.if-wrong_max_doc.false) (wrong2-of ix ∙ sym c.wrong_fields.ensures ∙ c.if-wrong_fields.false) (wrong3-of ix ∙ sym c.wrong_lengths.ensures ∙ c.if-wrong_lengths.false) (wrong4-of ix ∙ sym c.wrong_leaves.ensures ∙ c.if-wrong_leaves.false) (sym c.wrong_postings.ensures ∙ c.if-wrong_postings.false) (wrong6-of ix ∙ sym c.wrong_columns.ensures ∙ c.if-wrong_columns.false)
