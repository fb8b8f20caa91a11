-- Two ascending lists are merged: the lesser of the two heads is passed, equal ones are counted.
use Rattle.std.proofs.Common.{refl, [], arith}
use Rattle.phrase_starts.specs.Terms.{starts_of}
use Rattle.phrase_starts.proofs.Merge.{merge-begins}
use Rattle.phrase_starts.proofs.Paired.{passed_first, passed-second, met, no_second, no-first}
use Rattle.phrase_starts.proofs.Records.{starts-ascending}
use Rattle.phrase_starts.proofs.pair.Goals as goal

pub loop-i-init : goal.loop-i-init
loop-i-init c =
    let a = c.args in
    record {
      few = omega arith;
      firsts = omega arith;
      seconds = omega arith;
      matches = [];
      long = refl;
      merging = merge-begins (starts_of a.positions.now a.s) (starts_of a.positions.now a.t) (starts-ascending a.positions.now a.s c.requires.0) (starts-ascending a.positions.now a.t c.requires.1);
    }

pub returns-then-j-other_freq : goal.returns-then-j-other_freq
returns-then-j-other_freq c =
    let a = c.args in let l = c.loop-i in
    no_second a.positions.now a.s a.t l.i l.j l.n l.invariant c.if-j-other_freq.true

pub loop-i-preserved-then-x-y : goal.loop-i-preserved-then-x-y
loop-i-preserved-then-x-y c =
    let a = c.args in let l = c.loop-i in
    passed_first a.positions.now a.s a.t l.i l.j l.n l.invariant c.loop-i-test.true c.if-j-other_freq.false c.start-x.result c.start-y.result c.start-x.ensures c.start-y.ensures (record { sfits = c.start-x.type_inv }) (record { sfits = c.start-y.type_inv }) c.if-x-y.true

pub loop-i-preserved-then-y-x : goal.loop-i-preserved-then-y-x
loop-i-preserved-then-y-x c =
    let a = c.args in let l = c.loop-i in
    passed-second a.positions.now a.s a.t l.i l.j l.n l.invariant c.loop-i-test.true c.if-j-other_freq.false c.start-x.result c.start-y.result c.start-x.ensures c.start-y.ensures (record { sfits = c.start-x.type_inv }) (record { sfits = c.start-y.type_inv }) c.if-y-x.true

pub loop-i-preserved : goal.loop-i-preserved
loop-i-preserved c =
    let a = c.args in let l = c.loop-i in
    met a.positions.now a.s a.t l.i l.j l.n l.invariant c.loop-i-test.true c.if-j-other_freq.false c.start-x.result c.start-y.result c.start-x.ensures c.start-y.ensures (record { sfits = c.start-x.type_inv }) (record { sfits = c.start-y.type_inv }) _ _ (omega arith) (omega arith) c.if-x-y.false c.if-y-x.false

pub returns : goal.returns
returns c =
    let a = c.args in let l = c.loop-i in
    no-first a.positions.now a.s a.t l.i l.j l.n l.invariant c.loop-i-test.false
