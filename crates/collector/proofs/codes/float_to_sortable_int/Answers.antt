-- The lower bits of a negative pattern are inverted.
use Rattle.std.proofs.Common.{sym, ap, ◌∙◌, subst, T, w32}
use mir.ValLaws.{to_z-of_z}
use lib.Ieee.{binary32, to_bits}
use lib.Ieee.Bits.{to_bits-lt}
use Rattle.collector.specs.Flipped.{flipped}
use Rattle.collector.proofs.Halves.{flipped-int}
use Rattle.collector.proofs.codes.float_to_sortable_int.Goals as goal

pub returns : goal.returns
returns c =
    to_z-of_z w32 c.flipped.result (record { sfits = c.flipped.type_inv }) ∙ c.flipped.ensures ∙ ap flipped (to_z-of_z w32 c.cast_signed.result (record { sfits = c.cast_signed.type_inv }) ∙ c.cast_signed.ensures)
    ∙ flipped-int (to_bits binary32 c.args.f) (to_bits-lt binary32 c.args.f (subst T (sym c.well_formed.0.1) tt))
