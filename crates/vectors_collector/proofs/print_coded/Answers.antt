-- A code of a document and a score gives both back.
use Rattle.std.proofs.Common.{◌^◌, not, T, ℤ, sym, ◌∙◌, subst, w64}
use lib.Signed.{shr_z}
use lib.Ieee.{binary32, nan_bits}
use mir.ValLaws.{to_z-of_z}
use Rattle.meaning.specs.Ieee754.{sortable_bits}
use Rattle.collector.proofs.Ranked.{code-number}
use Rattle.vectors_collector.proofs.print_coded.Goals as goal

pub to_score-back-requires : goal.to_score-back-requires
to_score-back-requires g c =
    let encoded = to_z-of_z w64 c.encode-code.result (record { sfits = c.encode-code.type_inv }) ∙ c.encode-code.ensures in
    let fits-score = subst T (sym c.well_formed.1.0.1) tt in
    subst (λ (z : ℤ). T (not (nan_bits binary32 (sortable_bits (shr_z z (2 ^ 32)))))) (sym encoded)
    (code-number (record { doc = c.args.document; score = c.args.score }) fits-score c.requires.t)
