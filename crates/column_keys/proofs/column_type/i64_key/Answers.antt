use Rattle.column_keys.proofs.KeyOrder.{xor-sign}
use Rattle.column_keys.proofs.column_type.i64_key.Goals as goal

pub returns : goal.returns
returns c = xor-sign c.args.bits c.ranges.bits.fits
