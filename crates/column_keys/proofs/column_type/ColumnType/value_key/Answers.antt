use Rattle.std.proofs.Common.{refl, sym, ◌∙◌, arith}
use Rattle.column_keys.proofs.KeyOrder.{value_key-i64, value_key-f64}
use Rattle.column_keys.proofs.column_type.ColumnType.value_key.Goals as goal

pub returns-in-I64 : goal.returns-in-I64
returns-in-I64 c = rw c.in-I64.is (c.i64_key.ensures ∙ sym (value_key-i64 0 refl c.args.bits))

pub returns-in-F64 : goal.returns-in-F64
returns-in-F64 c = rw c.in-F64.is (c.total_key.ensures ∙ sym (value_key-f64 1 (λ e. omega arith) c.args.bits))
