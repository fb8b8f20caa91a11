use Rattle.std.proofs.Common.{ap, ◌∙◌, ℕ, Bool, eqb, ◌&&◌, get_or}
use Rattle.column_keys.specs.Keys.{value_key, type_number}
use Rattle.column_keys.proofs.KeyOrder.{value-tested}
use Rattle.column_keys.proofs.value_in.Goals as goal

pub returns : goal.returns
returns c =
    let a = c.args in
    ap (λ (b : Bool). eqb (get_or a.values.now a.at 0) 1 && b) c.contains.ensures
    ∙ value-tested a.values.now a.at (type_number a.column_type) a.keys.from a.keys.to c.value_key-key.result
    (c.value_key-key.ensures ∙ ap (λ (b : ℕ). value_key (type_number a.column_type) b) c.joined.ensures)
