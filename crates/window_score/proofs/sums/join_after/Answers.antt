-- Each wanted sum becomes the two narrowed sums, added.
use Rattle.std.proofs.Common.{get_or, rules, arith}
use lib.Ieee.{nan, binary64, add}
use Rattle.meaning.specs.Ieee754.{narrow}
use Rattle.window_score.specs.Sums.{At}
use Rattle.window_score.proofs.Adding.{steady-pre, steady-step, narrowed-number, after-small}
use Rattle.window_score.proofs.sums.join_after.Goals as goal

pub change_sums-requires : goal.change_sums-requires
change_sums-requires c = (
  c.requires.2.1.long,
  steady-pre (λ f f' x p r s. search rules) _ (λ p l e.
      let q = c.requires in
      let n = narrowed-number q.0 c.args.sums.now p (omega (arith, q.2.0)) q.2.1 l in
      let o = narrowed-number q.1 c.args.group.now p (omega (arith, q.2.0)) q.3 l in
      let m = q.3.long in
      search rules),
)

pub returns : goal.returns
returns c =
    let s = c.change_sums.ensures.changed in
    let group = c.args.group.now in
    let A : At (λ p x. add binary64 (narrow x) (narrow (get_or group p nan))) c.args.want c.args.sums.now c.change_sums.new.sums = record { wanted = λ p l e. let k = steady-step (λ f f' x p r s. search rules) (s.wanted p l e) in search rules; others = s.others } in
    (A, s.long, λ r t R G. after-small c.args.want r t c.args.sums.now c.change_sums.new.sums group A s.long R.0 R.1 G)
