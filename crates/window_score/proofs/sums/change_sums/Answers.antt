-- Each turn changes the sum at the lowest place that is left, and at no other.
use Rattle.std.proofs.Common.{sym, subst}
use lib.Ieee.{Float}
use Rattle.window_score.specs.Sums.{uncalled, called}
use Rattle.window_score.proofs.Adding.{changing-start, changing-step, changing-done, change-wanted, change-waits}
use Rattle.window_score.proofs.sums.change_sums.Goals as goal

pub loop-place-init : goal.loop-place-init
loop-place-init g c = record { reached = uncalled; changing = rw c.into_iter-place-iterator.ensures.into_iter_gives (changing-start _ c.args.want c.args.sums.now c.requires.0) }

pub changed-requires : goal.changed-requires
changed-requires g c =
    let l = c.loop-place in
    let n = c.in-Some.ensures.steps in
    let t = c.in-Some.place in
    subst (λ (x : Float). goal.F-pre g l.changed x t) (sym (change-waits _ c.args.want c.args.sums.now l.place-iterator.left l.sums l.invariant.changing t n.0)) (c.requires.1 l.changed l.invariant.reached t n.0.within (change-wanted _ c.args.want c.args.sums.now l.place-iterator.left l.sums l.invariant.changing t n.0))

pub loop-place-preserved : goal.loop-place-preserved
loop-place-preserved g c =
    let l = c.loop-place in
    let n = c.in-Some.ensures.steps in
    let t = c.in-Some.place in
    record {
      reached = called l.invariant.reached n.0.within (change-wanted _ c.args.want c.args.sums.now l.place-iterator.left l.sums l.invariant.changing t n.0) (subst (λ (x : Float). goal.F-step g l.changed x t c.changed.result c.changed.new.self) (change-waits _ c.args.want c.args.sums.now l.place-iterator.left l.sums l.invariant.changing t n.0) c.changed.ensures);
      changing = changing-step _ c.args.want c.args.sums.now l.place-iterator.left l.sums l.invariant.changing t n.0 c.next.new.self.left n.1 c.changed.result (l.changed, c.changed.new.self, l.invariant.reached, c.changed.ensures);
    }

pub returns-clause-reached : goal.returns-clause-reached
returns-clause-reached g c = c.loop-place.invariant.reached

pub returns-clause-changed : goal.returns-clause-changed
returns-clause-changed g c = let l = c.loop-place in changing-done _ c.args.want c.args.sums.now l.place-iterator.left l.sums l.invariant.changing c.in-None.ensures.steps.0
