-- Each turn collects the document at the lowest place that is left, with its sum narrowed, and sets the sum to 0.
use Rattle.std.proofs.Common.{◌≡◌, refl, ap, subst, ◌∙◌, ◌+◌, ℕ, get_or}
use Rattle.std.specs.Prelude.{Float}
use Rattle.std.specs.Float.{nan, binary64}
use Rattle.std.specs.Float.Ieee.{of_bits}
use Rattle.meaning.specs.Ieee754.{zero_float, narrow}
use Rattle.collector.specs.Collected.{Extended}
use Rattle.score_leaf.proofs.Bounds.{zero-64}
use Rattle.window_score.proofs.Adding.{adding-start, adding-step, adding-done, sum-waits}
use Rattle.bulk_window.proofs.Places.{places-start, places-ready, places-take, places-done}
use Rattle.bulk_window.proofs.collect_places.Goals as goal

pub loop-place-init : goal.loop-place-init
loop-place-init c = let a = c.args in let e = c.into_iter-place-iterator.ensures.into_iter_gives in rw e (record { long = refl; sums = adding-start (λ p x. zero_float) a.places a.sums.now c.requires.1; at = places-start a.first (λ p. narrow (get_or a.sums.now p nan)) a.places a.c a.heap.now })

pub stepped-c-requires-clause-ready : goal.stepped-c-requires-clause-ready
stepped-c-requires-clause-ready c =
    let a = c.args in
    let l = c.loop-place in
    places-ready a.first (λ p. narrow (get_or a.sums.now p nan)) a.places a.c a.heap.now l.place-iterator.left l.c l.heap l.invariant.at c.requires.2 c.in-Some.place c.in-Some.ensures.steps.0.within c.in-Some.ensures.steps.0.set

pub loop-place-preserved : goal.loop-place-preserved
loop-place-preserved c =
    let a = c.args in
    let l = c.loop-place in
    let p = c.in-Some.place in
    let n = c.in-Some.ensures.steps in
    let f : ℕ → Float → Float = λ p x. zero_float in
    let score-is : c.narrow.result ≡ narrow (get_or a.sums.now p nan) = c.narrow.ensures ∙ ap narrow (sum-waits f a.places a.sums.now l.place-iterator.left l.sums l.invariant.sums p n.0) in
    record {
      long = c.stepped-c.auto.heap ∙ l.invariant.long;
      sums = adding-step f a.places a.sums.now l.place-iterator.left l.sums l.invariant.sums p n.0 c.next.new.self.left n.1 c.in-Some.place (of_bits binary64 0) refl zero-64;
      at = places-take a.first (λ p. narrow (get_or a.sums.now p nan)) a.places a.c a.heap.now l.place-iterator.left l.c l.heap l.invariant.at p c.next.new.self.left n.0 n.2 n.1 c.stepped-c.result c.stepped-c.new.heap (subst (λ (z : Float). Extended (record { doc = a.first + p; score = z }) l.c l.heap c.stepped-c.result c.stepped-c.new.heap) score-is c.stepped-c.ensures);
    }

pub returns-clause-collected : goal.returns-clause-collected
returns-clause-collected c =
    let a = c.args in
    let l = c.loop-place in
    λ n h. places-done a.first (λ p. narrow (get_or a.sums.now p nan)) a.places a.c a.heap.now l.place-iterator.left l.c l.heap l.invariant.at c.in-None.ensures.steps.0 n h

pub returns-clause-cleared : goal.returns-clause-cleared
returns-clause-cleared c =
    let l = c.loop-place in
    record { long = l.invariant.sums.long; at = adding-done (λ p x. zero_float) c.args.places c.args.sums.now l.place-iterator.left l.sums l.invariant.sums c.in-None.ensures.steps.0 }
