-- Inverting the same bits again gives the pattern back.
use Rattle.std.proofs.Common.{ap, ◌∙◌, w32}
use mir.Val.{of_z}
use mir.ValLaws.{to_z-of_z}
use Rattle.collector.specs.Flipped.{flipped}
use Rattle.collector.proofs.Halves.{flipped-bits}
use Rattle.collector.proofs.codes.sortable_bits.Goals as goal

pub returns : goal.returns
returns c = c.cast_unsigned.ensures ∙ ap (of_z w32) (to_z-of_z w32 c.flipped.result (record { sfits = c.flipped.type_inv }) ∙ c.flipped.ensures ∙ ap flipped (to_z-of_z w32 c.args.i c.ranges.i)) ∙ flipped-bits c.args.i c.ranges.i
