use Rattle.std.proofs.Common.{refl, arith}
use Rattle.doc_values.proofs.KeysAsBits.{keys-as-bits}
use Rattle.doc_values.proofs.interval.BitInterval.of_keys.Goals as goal

pub returns : goal.returns
returns c = λ x h.
    let a = c.args in
    keys-as-bits a.keys.from a.keys.to _ x c.if-keys.false (omega arith) refl h a.column_type c.eq.result c.eq.ensures c.else-eq.either
