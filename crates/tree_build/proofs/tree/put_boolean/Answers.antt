-- The words are those of the Boolean's state; a score that is kept is a number that fits an f32.
use lib.Dec.{T}
use lib.Ieee.{Float, is_nan, fits, binary32}
use Rattle.std.proofs.Common.{◌≡◌, cond, not, sym, ◌∙◌, subst, rules}
use Rattle.std.specs.Prelude.{is_some}
use Rattle.ieee754.proofs.Bounds.{atmost-number}
use Rattle.tree_words.proofs.Kept.{unwrap-zero}
use Rattle.tree_words.proofs.Zeros.{zeros-are}
use Rattle.tree_build.proofs.tree.put_boolean.Goals as goal

pub float_to_bits-unwrap_or : goal.float_to_bits-unwrap_or
float_to_bits-unwrap_or c =
    subst (λ (z : Float). T (not (is_nan z))) (sym (c.unwrap_or.ensures ∙ unwrap-zero c.args.passed.kept)) (atmost-number c.requires.5)

pub returns-clause-written : goal.returns-clause-written
returns-clause-written c =
    let constant : c.from.result ≡ cond (is_some c.args.passed.kept) 1 0 = search rules in
    let after : c.from-2.result ≡ cond c.args.boolean.afterwards 1 0 = search rules in
    rw (c.word.ensures, constant, after, c.unwrap_or.ensures, unwrap-zero c.args.passed.kept, zeros-are c.default.result c.default.ensures) at c.put.ensures

pub returns-clause-score_fits : goal.returns-clause-score_fits
returns-clause-score_fits c =
    subst (λ (z : Float). T (fits binary32 z)) (c.unwrap_or.ensures ∙ unwrap-zero c.args.passed.kept) (subst T (sym c.unwrap_or.type_inv) tt)
