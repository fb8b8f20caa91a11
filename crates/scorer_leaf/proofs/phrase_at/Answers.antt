-- The terms are advanced once; where all stand at the target the frequency decides.
use mathlib.Core.Path.{refl}
use Prim.Native.Nat.{◌+◌, ◌<◌}
use native.Mathlib.Omega.{arith}
use Rattle.meaning.specs.Limits.{no_more_docs}
use Rattle.scorer_leaf.proofs.PhraseLaws.{moved-start, moved-terms, moved-leapt, moved_later, moved-worked, leapt-behind, held-there, held-frequency}
use Rattle.scorer_leaf.proofs.Asked.{asked-beyond, asked-leapt, asked-none, asked-stands}
use Rattle.scorer_leaf.proofs.phrase_at.Goals as goal

pub pass_terms-p-requires : goal.pass_terms-p-requires
pass_terms-p-requires c = let s = c in let P = s.requires.1 in let m = moved-start P.8 in (s.requires.0, (P.0, P.3, moved-terms m P.8.accepted P.8.postings-are (held-there P.8)))

pub returns-then-d-target-clause-phrase_at_post : goal.returns-then-d-target-clause-phrase_at_post
returns-then-d-target-clause-phrase_at_post c = let g = c.pass_terms-p in λ ix p f ts v w h. let m = moved-start h in let q = g.ensures ix ts (moved-terms m h.accepted h.postings-are (held-there h)) in let m' = moved-leapt m g.result.doc g.new.terms q.are in (asked-beyond q (λ e l. c.if-d-target.true e), m')

pub returns-then-d-eq-NO_MORE_DOCS-clause-phrase_at_post : goal.returns-then-d-eq-NO_MORE_DOCS-clause-phrase_at_post
returns-then-d-eq-NO_MORE_DOCS-clause-phrase_at_post c = let g = c.pass_terms-p in λ ix p f ts v w h. let m = moved-start h in let q = g.ensures ix ts (moved-terms m h.accepted h.postings-are (held-there h)) in let m' = moved-leapt m g.result.doc g.new.terms q.are in (asked-beyond q (λ e l. omega (arith, c.if-d-eq-NO_MORE_DOCS.true)), m')

pub frequency-n-requires : goal.frequency-n-requires
frequency-n-requires c = let s = c in let P = s.requires.1 in let m = moved-start P.8 in let g = c.pass_terms-p in let q = g.ensures P.0 P.3 (moved-terms m P.8.accepted P.8.postings-are (held-there P.8)) in let d : g.result.doc < no_more_docs = omega (arith, q.top, c.if-d-eq-NO_MORE_DOCS.false) in (P.0, P.1, P.2, P.3, g.result.doc, P.6, P.7, held-frequency P.8 g.result.doc _ (rw (leapt-behind m g.new.terms _ refl) ((asked-leapt q c.if-d-target.false).stand d)))

pub returns-then-n-eq0-clause-phrase_at_post : goal.returns-then-n-eq0-clause-phrase_at_post
returns-then-n-eq0-clause-phrase_at_post c = let g = c.pass_terms-p in λ ix p f ts v w h. let m = moved-start h in let q = g.ensures ix ts (moved-terms m h.accepted h.postings-are (held-there h)) in let m' = moved-leapt m g.result.doc g.new.terms q.are in let x = c.frequency-n in let d : g.result.doc < no_more_docs = omega (arith, q.top, c.if-d-eq-NO_MORE_DOCS.false) in let e = x.ensures.frequency_post ix p f ts g.result.doc (held-frequency h g.result.doc _ (rw (leapt-behind m g.new.terms _ refl) ((asked-leapt q c.if-d-target.false).stand d))) in (asked-none q c.if-d-target.false d x.result e c.if-n-eq0.true, moved_later m' (g.result.doc + 1) (omega arith))

pub returns-clause-phrase_at_post : goal.returns-clause-phrase_at_post
returns-clause-phrase_at_post c = let g = c.pass_terms-p in λ ix p f ts v w h. let m = moved-start h in let q = g.ensures ix ts (moved-terms m h.accepted h.postings-are (held-there h)) in let m' = moved-leapt m g.result.doc g.new.terms q.are in let x = c.frequency-n in let d : g.result.doc < no_more_docs = omega (arith, q.top, c.if-d-eq-NO_MORE_DOCS.false) in let e = x.ensures.frequency_post ix p f ts g.result.doc (held-frequency h g.result.doc _ (rw (leapt-behind m g.new.terms _ refl) ((asked-leapt q c.if-d-target.false).stand d))) in (asked-stands q c.if-d-target.false x.result e c.if-n-eq0.false, moved-worked m' x.result e)
