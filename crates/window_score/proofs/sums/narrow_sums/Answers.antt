-- Each wanted sum is narrowed; an only child's is an f32 already and stays.
use Rattle.std.proofs.Common.{refl, cond, rules, arith}
use Rattle.meaning.specs.Ieee754.{narrow}
use Rattle.window_score.specs.Sums.{At}
use Rattle.window_score.proofs.Adding.{steady-pre, steady-step, narrowed-number, narrow-small}
use Rattle.window_score.proofs.sums.narrow_sums.Goals as goal

pub returns-then-only_child : goal.returns-then-only_child
returns-then-only_child c =
    let e = c.if-only_child.true in
    (record { wanted = λ p l i. rw e refl; others = λ p l i. refl }, λ q R. R.1)

pub change_sums-requires : goal.change_sums-requires
change_sums-requires c = (c.requires.1.1.long, steady-pre (λ f f' x p r s. search rules) _ (λ p l e. let q = c.requires in let n = narrowed-number q.0 c.args.sums.now p (omega (arith, q.1.0)) q.1.1 l in search rules))

pub returns : goal.returns
returns c =
    let s = c.change_sums.ensures.changed in
    let e = c.if-only_child.false in
    let A : At (λ p x. cond c.args.only_child x (narrow x)) c.args.want c.args.sums.now c.change_sums.new.sums = record { wanted = λ p l i. let k = steady-step (λ f f' x p r s. search rules) (s.wanted p l i) in rw e (search rules); others = s.others } in
    (A, λ q R. narrow-small c.args.only_child c.args.want q c.args.sums.now c.change_sums.new.sums A s.long R.0 R.1)
