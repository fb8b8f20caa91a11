use Rattle.std.proofs.Common.{sym}
use Rattle.column_keys.proofs.KeyOrder.{nan-above}
use Rattle.column_keys.proofs.column_type.ColumnType.failed.Goals as goal

pub returns-in-F64 : goal.returns-in-F64
returns-in-F64 c = rw c.in-F64.is (sym (nan-above c.args.bits))
