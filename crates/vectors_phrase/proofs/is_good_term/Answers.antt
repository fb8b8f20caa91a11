-- Positions that are there, sorted and below the limit are what a good term asks for.
use Rattle.std.proofs.Common.{◌≤◌, ◌<◌, ◌+◌, ◌-◌, take, drop, refl, rules, arith, tests}
use Rattle.std.proofs.lemmas.Iterator.{cases_from_all, YieldsList-from_slice}
use Rattle.std.proofs.lemmas.List.Sorted.{non_decreasing_from_is_sorted}
use Rattle.vectors_phrase.proofs.Checks.{good-term}
use Rattle.vectors_phrase.proofs.is_good_term.Goals as goal

pub returns-then-is_sorted : goal.returns-then-is_sorted
returns-then-is_sorted c = λ yes.
    let t = c.args.t in
    let ps = c.args.positions.now in
    let own = take (t.first + t.freq - t.first) (drop t.first ps) in
    let sorted = non_decreasing_from_is_sorted own c.is_sorted.result c.is_sorted.ensures.cases in
    let small = cases_from_all _ _ c.all.result (λ x. x ≤ 2147483647) (λ x. 2147483647 < x) c.all.ensures.ran (YieldsList-from_slice own cc) (λ x q k. search (rules, tests)) (λ x q k. search (rules, tests)) in
    good-term ps t own refl (omega arith) (omega arith) (rw c.if-is_sorted.true at sorted) (rw yes at small)
