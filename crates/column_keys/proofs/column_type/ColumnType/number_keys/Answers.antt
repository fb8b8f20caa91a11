use Rattle.std.proofs.Common.{refl, arith}
use Rattle.column_keys.proofs.KeyOrder.{numbers-f64, numbers-i64}
use Rattle.column_keys.proofs.column_type.ColumnType.number_keys.Goals as goal

pub returns-in-I64 : goal.returns-in-I64
returns-in-I64 c = λ k h. rw c.in-I64.is (numbers-i64 0 k h refl)

pub returns-in-F64 : goal.returns-in-F64
returns-in-F64 c = λ k h. rw c.in-F64.is (numbers-f64 1 k h (λ e. omega arith))
