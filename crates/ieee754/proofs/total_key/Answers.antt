-- A pattern with a clear sign bit gets it set, any other is inverted: `TotalOrder` has a law for each.
use Rattle.ieee754.proofs.TotalOrder.{key-clear, key_set}
use Rattle.ieee754.proofs.total_key.Goals as goal

pub returns-then-bits-lt9223372036854775808 : goal.returns-then-bits-lt9223372036854775808
returns-then-bits-lt9223372036854775808 c = key-clear c.before.args.bits c.if-bits-lt9223372036854775808.true

pub returns-else-bits-lt9223372036854775808 : goal.returns-else-bits-lt9223372036854775808
returns-else-bits-lt9223372036854775808 c = key_set c.before.args.bits c.if-bits-lt9223372036854775808.false
