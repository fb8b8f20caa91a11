-- The two halves share no bit, so the or is the sum, of a negative upper half too.
use Rattle.std.proofs.Common.{ap, ◌∙◌, ◌-◌, ◌*◌, ◌%◌, ◌^◌, arith, ℤ, pos, bit_or, w32, w64}
use mir.Val.{of_z, to_z}
use mir.ValLaws.{to_z-of_z}
use lib.IntN.{◌+ℤ◌, ◌*ℤ◌}
use Rattle.meaning.specs.Hits.{code}
use Rattle.collector.proofs.Halves.{joined}
use Rattle.collector.proofs.codes.encode.Goals as goal

pub returns : goal.returns
unfolding code
returns c =
    let a = c.args in
    ap (λ (z : ℤ). to_z w64 (bit_or (of_z w64 z * 4294967296 % 18446744073709551616) (of_z w64 c.from-2.result)))
    (c.from.ensures ∙ to_z-of_z w32 c.float_to_sortable_int.result (record { sfits = c.float_to_sortable_int.type_inv }))
    ∙ ap (λ (z : ℤ). to_z w64 (bit_or (of_z w64 c.float_to_sortable_int.result * 4294967296 % 18446744073709551616) (of_z w64 z))) c.from-2.ensures
    ∙ joined c.float_to_sortable_int.result (2147483647 - a.doc) (record { sfits = c.float_to_sortable_int.type_inv }) (omega arith)
    ∙ ap (λ (z : ℤ). z *ℤ pos (2 ^ 32) +ℤ pos (2147483647 - a.doc)) c.float_to_sortable_int.ensures
