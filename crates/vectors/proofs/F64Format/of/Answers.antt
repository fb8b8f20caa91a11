-- The pattern that it reads is a number's.
use lib.Ieee.{binary64}
use Rattle.vectors.proofs.Patterns.{number}
use Rattle.vectors.proofs.F64Format.of.Goals as goal

pub float_from_bits-result : goal.float_from_bits-result
float_from_bits-result c = number binary64 c.args.bits c.if-bits-le9218868437227405312.true
