-- Each wanted sum grows by the Boolean's own sum there, narrowed, and its bound with it.
use Rattle.std.proofs.Common.{ℕ, get_or, rules, arith}
use lib.Ieee.{nan}
use Rattle.meaning.specs.Ieee754.{narrow}
use Rattle.window_score.specs.Sums.{Added}
use Rattle.window_score.proofs.Adding.{steady-pre, steady-step, added-small, narrowed-small, narrowed-number}
use Rattle.window_score.proofs.sums.add_narrowed.Goals as goal

pub change_sums-requires : goal.change_sums-requires
change_sums-requires c = (c.requires.2.1.long, steady-pre (λ f f' x p r s. search rules) _ (λ p l e. let q = c.requires in let n = narrowed-number q.1 c.args.own.now p (omega (arith, q.2.0)) q.3 l in let m = q.3.long in search rules))

pub returns : goal.returns
returns c = λ q r R F.
    let own = c.args.own.now in
    let s = c.change_sums.ensures.changed in
    let A : Added (λ p. narrow (get_or own p nan)) c.args.want c.args.sums.now c.change_sums.new.sums = record { wanted = λ p l e. let k = steady-step (λ f f' x p r s. search rules) (s.wanted p l e) in search rules; others = s.others } in
    (A, added-small (λ (p : ℕ). narrow (get_or own p nan)) c.args.want c.args.sums.now c.change_sums.new.sums A q r R.0 R.1 s.long (λ p i e. narrowed-small r own p (omega (arith, R.0)) F i))
