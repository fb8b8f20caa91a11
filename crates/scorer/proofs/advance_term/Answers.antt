-- The cached document if it is beyond the target, else the posting that a search finds, which is cached.
use Rattle.std.proofs.Common.{◌+◌, arith}
use lib.Seq.{get_or-set_same}
use Rattle.scorer.proofs.Nodes.{node-long, node-cached}
use Rattle.scorer.proofs.Terms.{term_asks, term-sought}
use Rattle.scorer.proofs.advance_term.Goals as goal

pub bounds-states-2 : goal.bounds-states-2
bounds-states-2 c = omega (arith, node-long c.requires.2.7)

pub returns-then-target-cached-clause-term_post : goal.returns-then-target-cached-clause-term_post
returns-then-target-cached-clause-term_post c = λ E k same ix p T o z. (node-cached z c.if-target-cached.true, z.ok)

pub search_postings-d-requires : goal.search_postings-d-requires
search_postings-d-requires c = let P = c.requires.2 in term_asks c.requires.1 c.if-target-cached.false P.1 P.7

pub overflow_add-states : goal.overflow_add-states
overflow_add-states c =
    let P = c.requires.2 in
    let y = c.search_postings-d in
    let d = term-sought c.requires.1 c.if-target-cached.false P.1 P.7 c.requires.0 y.result y.new.states y.ensures in
    omega (arith, d.0.top)

pub bounds-states-2-2 : goal.bounds-states-2-2
bounds-states-2-2 c = omega (arith, node-long c.requires.2.7, c.search_postings-d.auto.states)

pub returns-clause-term_post : goal.returns-clause-term_post
returns-clause-term_post c =
    let y = c.search_postings-d in
    λ E k same ix p T o z. term-sought c.requires.1 c.if-target-cached.false same z c.requires.0 y.result y.new.states y.ensures

pub returns-clause-cached_after : goal.returns-clause-cached_after
returns-clause-cached_after c = let y = c.search_postings-d in get_or-set_same y.new.states 2 (y.result + 1) 0 (omega (arith, node-long c.requires.2.7, y.auto.states))
