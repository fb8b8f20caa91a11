-- Each turn notes one candidate's frequency, the lowest place first.
use Rattle.std.proofs.Common.{rules}
use Rattle.window_words.specs.Windowed.{places_of}
use Rattle.window_leaf.proofs.PlaneLaws.{noting-start, noting-next, noting-end, left-among}
use Rattle.window_leaf.proofs.phrases.planes_of.Goals as goal

pub loop-place-init : goal.loop-place-init
loop-place-init c = rw c.into_iter-place-iterator.ensures.into_iter_gives (search rules, (λ p e. e), (λ ix places f ts h. noting-start))

pub returns-clause-planes_post : goal.returns-clause-planes_post
returns-clause-planes_post c = λ ix places f ts h. noting-end c.in-None.ensures.steps.0 (c.loop-place.invariant.2 ix places f ts h)

pub loop-place-preserved : goal.loop-place-preserved
loop-place-preserved c =
    let l = c.loop-place in
    let t = c.in-Some.place in
    let w = c.in-Some.ensures.steps in
    let f = c.frequency_at-f in
    let n = c.noted-planes in
    let others = w.1 in
    let on = l.invariant.1 t w.0.set in (
      search rules,
      left-among c.args.candidates l.place-iterator.left c.next.new.self.left t others l.invariant.1,
      λ ix places k ts h. noting-next (l.invariant.2 ix places k ts h) t w.0 f.result (f.ensures.frequency_post ix places k ts (places_of c.args.candidates) on h) on c.next.new.self.left n.result.ones n.result.twos others n.ensures,
    )
