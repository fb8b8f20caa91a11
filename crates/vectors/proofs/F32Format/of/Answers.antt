-- The pattern that it reads is a number's.
use lib.Ieee.{binary32}
use Rattle.vectors.proofs.Patterns.{number}
use Rattle.vectors.proofs.F32Format.of.Goals as goal

pub float_from_bits-result : goal.float_from_bits-result
float_from_bits-result c = number binary32 c.args.bits c.if-bits-le2139095040.true
