-- The words of the terms in an array that has room for them.
use Rattle.std.proofs.Common.{◌∙◌, arith, take}
use Rattle.scorer_leaf.proofs.PhraseLaws.{held-length, frequency-gather, frequency-there, frequency-good, frequency-room, frequency-is}
use Rattle.scorer_leaf.proofs.frequency_in.Goals as goal

pub gather-n-requires-clause-there : goal.gather-n-requires-clause-there
gather-n-requires-clause-there g c = frequency-there c.requires.held.7

pub gather-n-requires-clause-whole : goal.gather-n-requires-clause-whole
gather-n-requires-clause-whole g c = omega (arith, held-length c.requires.held.7)

pub shared_whole_as_front-frequency : goal.shared_whole_as_front-frequency
shared_whole_as_front-frequency g c =
    let P = c.requires.held in
    omega (arith, (c.gather-n.ensures P.0 P.3 P.4 (frequency-gather P.7)).number, c.requires.room, held-length P.7)

pub frequency-requires : goal.frequency-requires
frequency-requires g c =
    let P = c.requires.held in
    let q = c.gather-n.ensures P.0 P.3 P.4 (frequency-gather P.7) in
    let l = take c.gather-n.result c.gather-n.new.out in
    (frequency-good P.7 l q.gathered, (frequency-room P.7 l q.gathered _ P.5, frequency-room P.7 l q.gathered _ P.6))

pub returns-clause-frequency_post : goal.returns-clause-frequency_post
returns-clause-frequency_post g c = let l = take c.gather-n.result c.gather-n.new.out in λ ix p f ts d h. c.frequency.ensures ∙ frequency-is h l (c.gather-n.ensures ix ts d (frequency-gather h)).gathered
