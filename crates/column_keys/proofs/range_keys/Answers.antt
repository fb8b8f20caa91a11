-- A range lets in the keys of numbers that both its ends let in; where an end is no number, none.
use Rattle.std.proofs.Common.{ap₂, ◌∙◌, ◌%◌, ◌/◌, ◌&&◌}
use Rattle.column_keys.specs.Keys.{type_number}
use Rattle.column_keys.proofs.KeyOrder.{good-of, lower-of, upper-of, range-common}
use Rattle.column_keys.proofs.range_keys.Goals as goal

pub returns-then-takes : goal.returns-then-takes
returns-then-takes c = λ k h.
    let a = c.args in
    let type = type_number a.column_type in
    c.in_common-then-takes.ensures k
    ∙ range-common type a.kinds a.lower a.upper k _ _
    (c.takes.ensures ∙ good-of type (a.kinds % 3) a.lower k _ c.end_of-from.ensures)
    (c.takes-2.ensures ∙ good-of type (a.kinds / 3) a.upper k _ c.end_of-to.ensures)
    c.if-takes.true _ _ (c.number_keys.ensures k h)
    (c.in_common.ensures k
    ∙ ap₂ ◌&&◌
    (c.lower_keys-above.ensures k h ∙ lower-of type (a.kinds % 3) a.lower k _ _ c.end_of-from.ensures c.end_key.ensures)
    (c.upper_keys-below.ensures k h ∙ upper-of type (a.kinds / 3) a.upper k _ _ c.end_of-to.ensures c.end_key-then-takes.ensures))
