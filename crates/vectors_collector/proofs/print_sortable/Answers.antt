-- A score's sortable int gives the score back.
use Rattle.std.proofs.Common.{◌≡◌, ℕ, Bool, not, T, sym, ap, ◌∙◌, subst, w32, to_z, of_z}
use mir.ValLaws.{to_z-of_z}
use lib.Ieee.{binary32, is_nan, nan_bits, to_bits}
use lib.Ieee.Bits.{nan_bits_is, of_bits-to_bits, to_bits-lt}
use Rattle.meaning.specs.Ieee754.{sortable_bits}
use Rattle.collector.proofs.Ranked.{sortable-back}
use Rattle.vectors_collector.proofs.print_sortable.Goals as goal

pub sortable_int_to_float-back-requires : goal.sortable_int_to_float-back-requires
sortable_int_to_float-back-requires g c =
    let int = c.float_to_sortable_int-int in
    let fits-score = subst T (sym c.well_formed.1.0.1) tt in
    let bits = to_bits binary32 c.args.score in
    let number : T (not (nan_bits binary32 bits)) =
    subst (λ (b : Bool). T (not b)) (sym (nan_bits_is binary32 bits ∙ ap is_nan (of_bits-to_bits binary32 c.args.score fits-score))) c.requires in
    let back : sortable_bits (to_z w32 (of_z w32 int.result)) ≡ bits =
    ap sortable_bits (to_z-of_z w32 int.result (record { sfits = int.type_inv }) ∙ int.ensures) ∙ sortable-back bits (to_bits-lt binary32 c.args.score fits-score) in
    subst (λ (n : ℕ). T (not (nan_bits binary32 n))) (sym back) number
