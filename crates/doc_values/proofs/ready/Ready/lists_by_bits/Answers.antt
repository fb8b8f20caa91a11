-- The interval has just the bits whose keys are let in, so no key has to be made.
use Rattle.std.proofs.Common.{ap, ◌∙◌, Bool, ◌&&◌, ◌*◌, eqb, get_or, arith}
use Rattle.column_keys.specs.Keys.{value_key, type_number}
use Rattle.column_keys.proofs.KeyOrder.{value-tested}
use Rattle.doc_values.proofs.ready.Ready.lists_by_bits.Goals as goal

pub returns : goal.returns
returns c =
    let r = c.args.self in
    let at = 3 * c.args.document in
    let type = type_number r.column_type in
    ap (λ (b : Bool). eqb (get_or r.values.now at 0) 1 && b) (c.contains.ensures ∙ r.same c.args.interval c.requires.given c.joined-bits.result (omega arith))
    ∙ value-tested r.values.now at type r.keys.from r.keys.to (value_key type c.joined-bits.result) (ap (value_key type) c.joined-bits.ensures)
