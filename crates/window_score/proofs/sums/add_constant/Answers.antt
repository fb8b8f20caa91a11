-- Each wanted sum grows by the same score, and its bound with it.
use Rattle.std.proofs.Common.{ℕ, rules}
use Rattle.ieee754.proofs.Bounds.{atmost-number}
use Rattle.window_score.specs.Sums.{Added}
use Rattle.window_score.proofs.Adding.{steady-pre, steady-step, added-small}
use Rattle.window_score.proofs.sums.add_constant.Goals as goal

pub change_sums-requires : goal.change_sums-requires
change_sums-requires c = (c.requires.2.1.long, steady-pre (λ f f' x p r s. search rules) _ (λ p l e. let n = atmost-number c.requires.3 in search rules))

pub returns : goal.returns
returns c = λ q r R h.
    let s = c.change_sums.ensures.changed in
    let A : Added (λ p. c.args.score) c.args.want c.args.sums.now c.change_sums.new.sums = record { wanted = λ p l e. let k = steady-step (λ f f' x p r s. search rules) (s.wanted p l e) in search rules; others = s.others } in
    (A, added-small (λ (p : ℕ). c.args.score) c.args.want c.args.sums.now c.change_sums.new.sums A q r R.0 R.1 s.long (λ p i e. h))
