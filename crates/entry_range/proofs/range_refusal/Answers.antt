-- The tests go by the numbers 1, 6, 8 and 12, so the first that holds is the lowest.
use Rattle.std.proofs.Common.{sym, ◌∙◌}
use Rattle.entry_range.proofs.RangeEntry.{limit-alone, wrong-by-columns, range-1, range-6, range-8, range-work, range-output, range-0}
use Rattle.entry_range.proofs.range_refusal.Goals as goal

pub returns-then-wrong_max_doc : goal.returns-then-wrong_max_doc
returns-then-wrong_max_doc c = range-1 _ _ _ _ (sym (c.wrong_max_doc.ensures ∙ limit-alone _ _ _) ∙ c.if-wrong_max_doc.true)

pub wrong_columns-requires : goal.wrong_columns-requires
wrong_columns-requires c = sym (c.wrong_max_doc.ensures ∙ limit-alone _ _ _) ∙ c.if-wrong_max_doc.false

pub returns-then-wrong_columns : goal.returns-then-wrong_columns
returns-then-wrong_columns c =
    range-6 _ _ _ _ (sym (c.wrong_max_doc.ensures ∙ limit-alone _ _ _) ∙ c.if-wrong_max_doc.false) (sym c.wrong_columns.ensures ∙ c.if-wrong_columns.true)

pub returns-then-wrong_range : goal.returns-then-wrong_range
returns-then-wrong_range c =
    range-8 _ _ _ _ (sym (c.wrong_max_doc.ensures ∙ limit-alone _ _ _) ∙ c.if-wrong_max_doc.false) (sym c.wrong_columns.ensures ∙ c.if-wrong_columns.false) (sym (c.wrong_range.ensures ∙ wrong-by-columns _ _ _ _) ∙ c.if-wrong_range.true)

pub returns-then-work-needed : goal.returns-then-work-needed
returns-then-work-needed c =
    range-work _ _ _ _ (sym (c.wrong_max_doc.ensures ∙ limit-alone _ _ _) ∙ c.if-wrong_max_doc.false) (sym c.wrong_columns.ensures ∙ c.if-wrong_columns.false) (sym (c.wrong_range.ensures ∙ wrong-by-columns _ _ _ _) ∙ c.if-wrong_range.false) c.if-work-needed.true

pub returns-then-output-needed : goal.returns-then-output-needed
returns-then-output-needed c =
    range-output _ _ _ _ (sym (c.wrong_max_doc.ensures ∙ limit-alone _ _ _) ∙ c.if-wrong_max_doc.false) (sym c.wrong_columns.ensures ∙ c.if-wrong_columns.false) (sym (c.wrong_range.ensures ∙ wrong-by-columns _ _ _ _) ∙ c.if-wrong_range.false) c.if-output-needed.true

pub returns : goal.returns
returns c =
    range-0 _ _ _ _ (sym (c.wrong_max_doc.ensures ∙ limit-alone _ _ _) ∙ c.if-wrong_max_doc.false) (sym c.wrong_columns.ensures ∙ c.if-wrong_columns.false) (sym (c.wrong_range.ensures ∙ wrong-by-columns _ _ _ _) ∙ c.if-wrong_range.false) c.if-work-needed.false c.if-output-needed.false
