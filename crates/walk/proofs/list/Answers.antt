-- Each turn writes the live match at hand with its score and goes to the next one.
use mathlib.Core.Path.{◌≡◌}
use lib.ListN.{length}
use native.Mathlib.Omega.{arith}
use Rattle.scorer_leaf.proofs.Loops.{same_then}
use Rattle.score.proofs.Loops.{places_same}
use Rattle.walk.proofs.Walking.{page-start, page-score-asks, page-number, page-next-asks, page-more, page-none, page-full}
use Rattle.walk.proofs.list.Goals as goal

pub loop-given-init : goal.loop-given-init
loop-given-init c = let f = c.next_match-next in record { same_buffers = f.ensures.same_buffers; page = page-start _ _ _ _ _ _ _ _ _ f.ensures.next_post }

pub returns-then-next-eq-NO_MORE_DOCS-clause-list_post : goal.returns-then-next-eq-NO_MORE_DOCS-clause-list_post
returns-then-next-eq-NO_MORE_DOCS-clause-list_post c = page-none c.loop-given.invariant.page c.if-next-eq-NO_MORE_DOCS.true (omega arith)

pub score-s-requires : goal.score-s-requires
score-s-requires c =
    let i = c.loop-given.invariant in
    page-score-asks i.page c.if-next-eq-NO_MORE_DOCS.false (places_same i.same_buffers) c.requires

pub float_to_bits-bits : goal.float_to_bits-bits
float_to_bits-bits c =
    let i = c.loop-given.invariant in
    page-number i.page c.if-next-eq-NO_MORE_DOCS.false (places_same i.same_buffers) _ c.score-s.ensures.score_post c.requires

pub next_match-next-requires-in-loop-given : goal.next_match-next-requires-in-loop-given
next_match-next-requires-in-loop-given c =
    let i = c.loop-given.invariant in
    page-next-asks i.page c.if-next-eq-NO_MORE_DOCS.false (places_same i.same_buffers) _ c.score-s.ensures.score_post _ _ (places_same (same_then i.same_buffers c.score-s.ensures.same_buffers)) c.requires

pub loop-given-preserved : goal.loop-given-preserved
loop-given-preserved c =
    let i = c.loop-given.invariant in
    let n = c.next_match-next-in-loop-given.ensures in
    record {
      same_buffers = same_then (same_then i.same_buffers c.score-s.ensures.same_buffers) n.same_buffers;
      page = page-more i.page c.if-next-eq-NO_MORE_DOCS.false (places_same i.same_buffers) _ c.score-s.ensures.score_post _ _ n.next_post c.loop-given-test.true (omega (arith, c.requires.1));
    }

pub returns-clause-list_post : goal.returns-clause-list_post
returns-clause-list_post c =
    let l = c.loop-given in
    let e : length l.docs ≡ l.given = omega arith in
    rw e (page-full l.invariant.page (omega arith))
