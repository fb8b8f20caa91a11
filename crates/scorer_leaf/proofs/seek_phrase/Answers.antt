-- The terms meet at a document: where the phrase stands it is found, else the search goes on behind it.
use Rattle.scorer_leaf.proofs.PhraseLaws.{moved-long, leapt-behind, moved-terms, moved-leapt, moved_later, moved-worked, stored_at, held-there, held-frequency, phrase-top, phrase-hit, phrase-more}
use Rattle.scorer_leaf.proofs.Loops.{same_then, back-length}
use Rattle.meaning.specs.Limits.{no_more_docs, node_state_words}
use lib.ListN.{length, take, drop}
use native.Mathlib.Omega.{arith}
use mathlib.Core.List.{◌++◌}
use mathlib.Core.Path.{refl, ◌∙◌}
use Prim.Native.Nat.{◌+◌, ◌-◌, ◌<◌}
use Rattle.scorer_leaf.proofs.seek_phrase.Goals as goal

pub leapfrog-d-requires : goal.leapfrog-d-requires
leapfrog-d-requires c = let s = c in let P = s.requires.1 in let a = c.loop-target in let i = a.invariant.2 P.0 P.1 P.2 P.3 P.4 P.5 P.8 in (a.invariant.1, (P.0, P.3, moved-terms i.held P.8.accepted P.8.postings-are (held-there P.8)))

pub returns-then-d-eq-NO_MORE_DOCS-clause-phrase_post : goal.returns-then-d-eq-NO_MORE_DOCS-clause-phrase_post
returns-then-d-eq-NO_MORE_DOCS-clause-phrase_post c = let a = c.loop-target in let g = c.leapfrog-d in λ ix p f ts v w h. let i = a.invariant.2 ix p f ts v w h in let q = g.ensures ix ts (moved-terms i.held h.accepted h.postings-are (held-there h)) in (phrase-top i.lo i.before q c.if-d-eq-NO_MORE_DOCS.true, moved-leapt i.held g.result g.new.terms q.are, λ k. absurd (omega (arith, c.if-d-eq-NO_MORE_DOCS.true)))

pub frequency-n-requires : goal.frequency-n-requires
frequency-n-requires c = let s = c in let P = s.requires.1 in let a = c.loop-target in let i = a.invariant.2 P.0 P.1 P.2 P.3 P.4 P.5 P.8 in let g = c.leapfrog-d in let q = g.ensures P.0 P.3 (moved-terms i.held P.8.accepted P.8.postings-are (held-there P.8)) in let m = moved-leapt i.held g.result g.new.terms q.are in let d : g.result < no_more_docs = omega (arith, q.top, c.if-d-eq-NO_MORE_DOCS.false) in (P.0, P.1, P.2, P.3, g.result, omega (arith, P.6, a.invariant.0), omega (arith, P.7, a.invariant.0), held-frequency P.8 g.result _ (rw (leapt-behind i.held g.new.terms _ refl) (q.stand d)))

pub overflow_add-t : goal.overflow_add-t
overflow_add-t c = let s = c in let P = s.requires.1 in let a = c.loop-target in let i = a.invariant.2 P.0 P.1 P.2 P.3 P.4 P.5 P.8 in let g = c.leapfrog-d in let q = g.ensures P.0 P.3 (moved-terms i.held P.8.accepted P.8.postings-are (held-there P.8)) in omega (arith, q.top)

pub loop-target-smaller : goal.loop-target-smaller
loop-target-smaller c = let s = c in let P = s.requires.1 in let a = c.loop-target in let i = a.invariant.2 P.0 P.1 P.2 P.3 P.4 P.5 P.8 in let g = c.leapfrog-d in let q = g.ensures P.0 P.3 (moved-terms i.held P.8.accepted P.8.postings-are (held-there P.8)) in let d : g.result < no_more_docs = omega (arith, q.top, c.if-d-eq-NO_MORE_DOCS.false) in omega (arith, q.from)

pub loop-target-preserved : goal.loop-target-preserved
loop-target-preserved c = let s = c in let P = s.requires.1 in let a = c.loop-target in let i = a.invariant.2 P.0 P.1 P.2 P.3 P.4 P.5 P.8 in let g = c.leapfrog-d in let x = c.frequency-n in let q = g.ensures P.0 P.3 (moved-terms i.held P.8.accepted P.8.postings-are (held-there P.8)) in let d : g.result < no_more_docs = omega (arith, q.top, c.if-d-eq-NO_MORE_DOCS.false) in (record { kids-same = back-length a.states g.new.terms node_state_words (length a.states) g.auto.terms ∙ a.invariant.0.kids-same; buffers-same = same_then a.invariant.0.buffers-same x.ensures.same_buffers }, omega arith, λ ix p f ts v w h. let i = a.invariant.2 ix p f ts v w h in let q = g.ensures ix ts (moved-terms i.held h.accepted h.postings-are (held-there h)) in let m = moved-leapt i.held g.result g.new.terms q.are in let e = x.ensures.frequency_post ix p f ts g.result (held-frequency h g.result _ (rw (leapt-behind i.held g.new.terms _ refl) (q.stand d))) in record { lo = omega (arith, i.lo, q.from); before = phrase-more i.lo i.before q x.result e c.if-n-ne0.false; held = moved_later m (g.result + 1) (omega arith) })

pub overflow_add-states : goal.overflow_add-states
overflow_add-states c = let s = c in let P = s.requires.1 in let a = c.loop-target in let i = a.invariant.2 P.0 P.1 P.2 P.3 P.4 P.5 P.8 in let g = c.leapfrog-d in let q = g.ensures P.0 P.3 (moved-terms i.held P.8.accepted P.8.postings-are (held-there P.8)) in omega (arith, q.top)

pub returns-then-n-ne0-clause-phrase_post : goal.returns-then-n-ne0-clause-phrase_post
returns-then-n-ne0-clause-phrase_post c = let s = c in let P = s.requires.1 in let a = c.loop-target in let i = a.invariant.2 P.0 P.1 P.2 P.3 P.4 P.5 P.8 in let g = c.leapfrog-d in let x = c.frequency-n in let q = g.ensures P.0 P.3 (moved-terms i.held P.8.accepted P.8.postings-are (held-there P.8)) in let d : g.result < no_more_docs = omega (arith, q.top, c.if-d-eq-NO_MORE_DOCS.false) in λ ix p f ts v w h. let i = a.invariant.2 ix p f ts v w h in let q = g.ensures ix ts (moved-terms i.held h.accepted h.postings-are (held-there h)) in let m = moved-leapt i.held g.result g.new.terms q.are in let e = x.ensures.frequency_post ix p f ts g.result (held-frequency h g.result _ (rw (leapt-behind i.held g.new.terms _ refl) (q.stand d))) in (phrase-hit i.lo i.before q x.result e c.if-n-ne0.true, moved-worked m x.result e, λ k. stored_at (take node_state_words a.states ++ (g.new.terms ++ drop (length a.states - node_state_words) (drop node_state_words a.states))) (g.result + 1) x.result (moved-long m))
