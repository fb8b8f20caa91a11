-- An f32 is an f64 as it is, so the two narrowed sums are added in binary64.
use Rattle.std.proofs.Common.{sym, ap₂, ◌∙◌, subst, not}
use lib.Dec.{T}
use lib.Ieee.{Float, binary32, binary64, fits, is_nan, add}
use lib.Ieee.Fits.{and_i, fits_widens}
use Rattle.ieee754.proofs.Narrowing.{narrow-fits}
use Rattle.window_score.proofs.sums.both.Goals as goal

pub float_to_float-narrow : goal.float_to_float-narrow
float_to_float-narrow c =
    let x = c.narrow in
    and_i (fits binary64 x.result) (not (is_nan x.result)) (fits_widens x.result (subst (λ (z : Float). T (fits binary32 z)) (sym x.ensures) (narrow-fits c.args.required)))
    (subst (λ (z : Float). T (not (is_nan z))) (sym x.ensures) c.requires.0)

pub add_score-requires : goal.add_score-requires
add_score-requires c = subst (λ (z : Float). T (not (is_nan z))) (sym c.narrow-2.ensures) c.requires.1

pub returns : goal.returns
returns c = c.add_score.ensures ∙ ap₂ (add binary64) c.narrow.ensures c.narrow-2.ensures
