-- Each turn stores one word more; the words behind the record stay.
use Rattle.std.proofs.Common.{ap, length, arith}
use Rattle.tree_words.proofs.Placing.{put-more, put-long, put_all}
use Rattle.tree_words.proofs.place.put.Goals as goal

pub bounds-states-i : goal.bounds-states-i
bounds-states-i c =
    let l = c.loop-i in
    let words = c.words-words.result in
    let long = ap length c.words-words.ensures in
    omega (arith, put-long words c.args.states.now l.states l.i (omega (arith, c.loop-i-test.true, long)) (omega (arith, c.requires, c.loop-i-test.true)) l.invariant.written, c.loop-i-test.true, c.requires)

pub loop-i-preserved : goal.loop-i-preserved
loop-i-preserved c =
    let l = c.loop-i in
    let words = c.words-words.result in
    let long = ap length c.words-words.ensures in
    record { written = put-more words c.args.states.now l.states l.i (omega (arith, c.loop-i-test.true, long)) (omega (arith, c.loop-i-test.true, c.requires)) l.invariant.written; within = omega (arith, c.loop-i-test.true) }

pub returns : goal.returns
returns c =
    let l = c.loop-i in
    let words = c.words-words.result in
    let long = ap length c.words-words.ensures in
    rw c.words-words.ensures at (put_all words c.args.states.now l.states l.i (omega (arith, l.invariant.within, c.loop-i-test.false)) long l.invariant.written)
