-- One more term has its words; at the end all have.
use Rattle.std.proofs.Common.{arith}
use Rattle.scorer_leaf.proofs.PhraseLaws.{postings-length, gather-took, gather-end}
use Rattle.scorer_leaf.proofs.gather.Goals as goal

pub loop-at-preserved : goal.loop-at-preserved
loop-at-preserved g c =
    let l = c.loop-at in
    let k = c.posting-p in
    (omega arith, omega arith, λ ix ts d h. gather-took (l.invariant.2 ix ts d h) c.loop-at-test.true k.result k.ensures (omega (arith, postings-length ix _ d _ ts 0 h.at, c.requires.room, l.auto.out)))

pub returns : goal.returns
returns g c = λ ix ts d h. gather-end (c.loop-at.invariant.2 ix ts d h) c.loop-at-test.false
