-- Nothing is asked where the pass has moved; a document where the phrase stands is cached.
use Rattle.std.proofs.Common.{arith, sym}
use native.Mathlib.Nat.{le_refl}
use Rattle.scorer.proofs.Nodes.{node-long}
use Rattle.scorer.proofs.Asked.{phrase-asks, asked-moved, asked-there}
use Rattle.scorer.proofs.ask_phrase.Goals as goal

pub returns-then-from-target-clause-ask_post : goal.returns-then-from-target-clause-ask_post
returns-then-from-target-clause-ask_post c =
    λ E k pe qe ix p T o h. (record { from = le_refl _; top = c.requires.0; before = λ x a b. absurd (omega arith); hit = λ e l. absurd (c.if-from-target.true (sym e)) }, h.ok)

pub phrase_at-d-requires : goal.phrase_at-d-requires
phrase_at-d-requires c = let P = c.requires.3 in phrase-asks _ _ _ _ c.requires.1 c.requires.2 _ P.1 P.2 c.requires.0 P.8 P.9

pub returns-then-d-target-clause-ask_post : goal.returns-then-d-target-clause-ask_post
returns-then-d-target-clause-ask_post c =
    let y = c.phrase_at-d in
    λ E k pe qe ix p T o h. asked-moved _ _ _ _ c.requires.1 c.requires.2 E pe qe y.result y.new.states y.ensures.phrase_at_post h c.if-from-target.false c.if-d-target.true

pub bounds-states-2 : goal.bounds-states-2
bounds-states-2 c = omega (arith, node-long c.requires.3.9, c.phrase_at-d.auto.states)

pub returns-clause-ask_post : goal.returns-clause-ask_post
returns-clause-ask_post c =
    let y = c.phrase_at-d in
    λ E k pe qe ix p T o h. asked-there _ _ _ _ c.requires.1 c.requires.2 E pe qe y.result y.new.states y.ensures.phrase_at_post h c.if-from-target.false c.if-d-target.false
