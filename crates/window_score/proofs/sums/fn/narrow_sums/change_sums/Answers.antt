-- A narrowed number is an f32, which is an f64 as it is.
use Rattle.std.proofs.Common.{sym, subst, not}
use lib.Dec.{T}
use lib.Ieee.{Float, binary32, binary64, fits, is_nan}
use lib.Ieee.Fits.{and_i, fits_widens}
use Rattle.ieee754.proofs.Narrowing.{narrow-fits}
use Rattle.window_score.proofs.sums.fn.narrow_sums.change_sums.Goals as goal

pub float_to_float-result : goal.float_to_float-result
float_to_float-result c =
    let x = c.narrow in
    and_i (fits binary64 x.result) (not (is_nan x.result)) (fits_widens x.result (subst (λ (z : Float). T (fits binary32 z)) (sym x.ensures) (narrow-fits c.args.sum)))
    (subst (λ (z : Float). T (not (is_nan z))) (sym x.ensures) c.requires)
