use Rattle.std.proofs.Common.{length-take, arith}
use Rattle.ieee754.proofs.Patterns.{pattern_number}
use Rattle.score_inverses.proofs.fill_field.Goals as goal

pub float_from_bits-average : goal.float_from_bits-average
float_from_bits-average c = pattern_number c.args.average (omega (arith, c.requires.2))

pub copy_from_slice-requires : goal.copy_from_slice-requires
copy_from_slice-requires c = rw length-take (omega arith)
