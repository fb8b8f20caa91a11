-- The tests go by the numbers 1, 2, 15 and 16, so the first that holds is the lowest.
use Rattle.std.proofs.Common.{sym, ◌∙◌}
use Rattle.token_writer.proofs.Ways.{one-is, two_is, refused-1, refused-2, handed-on, refused-16, accepted}
use Rattle.token_writer.proofs.accept.Goals as goal

pub returns-then-wrong_max_doc : goal.returns-then-wrong_max_doc
returns-then-wrong_max_doc c = refused-1 _ _ _ _ _ _ _ _ (sym (c.wrong_max_doc.ensures ∙ one-is _ _) ∙ c.if-wrong_max_doc.true)

pub returns-then-wrong_fields : goal.returns-then-wrong_fields
returns-then-wrong_fields c =
    refused-2 _ _ _ _ _ _ _ _ (sym (c.wrong_max_doc.ensures ∙ one-is _ _) ∙ c.if-wrong_max_doc.false)
    (sym (c.wrong_fields.ensures ∙ two_is _ _) ∙ c.if-wrong_fields.true)

pub returns-in_err-numbers : goal.returns-in_err-numbers
returns-in_err-numbers c =
    handed-on _ _ _ _ _ _ _ _ (sym (c.wrong_max_doc.ensures ∙ one-is _ _) ∙ c.if-wrong_max_doc.false)
    (sym (c.wrong_fields.ensures ∙ two_is _ _) ∙ c.if-wrong_fields.false) c.from_residual.result c.in_err-numbers.field-0.0 c.from_residual.ensures.1 c.in_err-numbers.ensures.refusal (sym c.in_err-numbers.ensures.wrong)

pub outputs_short-requires-clause-fields_value : goal.outputs_short-requires-clause-fields_value
outputs_short-requires-clause-fields_value c = (
  sym (c.wrong_max_doc.ensures ∙ one-is _ _) ∙ c.if-wrong_max_doc.false,
  sym (c.wrong_fields.ensures ∙ two_is _ _) ∙ c.if-wrong_fields.false,
  sym c.in_ok-numbers.ensures.wrong,
)

pub returns-then-outputs_short : goal.returns-then-outputs_short
returns-then-outputs_short c =
    refused-16 _ _ _ _ _ _ _ _ (sym (c.wrong_max_doc.ensures ∙ one-is _ _) ∙ c.if-wrong_max_doc.false)
    (sym (c.wrong_fields.ensures ∙ two_is _ _) ∙ c.if-wrong_fields.false) (sym c.in_ok-numbers.ensures.wrong) _ c.outputs_short.ensures c.if-outputs_short.true

pub returns : goal.returns
returns c =
    accepted _ _ _ _ _ _ _ _ (sym (c.wrong_max_doc.ensures ∙ one-is _ _) ∙ c.if-wrong_max_doc.false)
    (sym (c.wrong_fields.ensures ∙ two_is _ _) ∙ c.if-wrong_fields.false) (sym c.in_ok-numbers.ensures.wrong) _ c.outputs_short.ensures c.if-outputs_short.false _ c.in_ok-numbers.ensures.counts
