-- Two ascending lists are merged: the lesser of the two heads is passed, equal ones are a match.
use Rattle.std.proofs.Common.{refl, length, arith}
use Rattle.phrase_starts.specs.Terms.{starts_of}
use Rattle.phrase_starts.proofs.Merge.{merge-begins}
use Rattle.phrase_starts.proofs.Merged.{passed-candidate, passed_start, met, no-candidate, no_start}
use Rattle.phrase_starts.proofs.Records.{starts-ascending}
use Rattle.phrase_starts.proofs.intersect.Goals as goal

pub loop-i-init : goal.loop-i-init
loop-i-init c =
    let a = c.args in
    record {
      long = refl;
      few = omega arith;
      candidates = omega arith;
      positions = omega arith;
      merging = merge-begins a.cands.now (starts_of a.positions.now a.t) c.requires.1.1 (starts-ascending a.positions.now a.t c.requires.0);
    }

pub returns-then-c-cands : goal.returns-then-c-cands
returns-then-c-cands c =
    let a = c.args in let l = c.loop-i in
    (omega arith, no-candidate a.positions.now a.t a.cands.now (length a.out.now) l.out l.i l.c l.n l.invariant c.if-c-cands.true)

pub loop-i-preserved-then-cand-s : goal.loop-i-preserved-then-cand-s
loop-i-preserved-then-cand-s c =
    let a = c.args in let l = c.loop-i in
    passed-candidate a.positions.now a.t a.cands.now (length a.out.now) l.out l.i l.c l.n l.invariant c.requires.1.0 c.loop-i-test.true c.if-c-cands.false c.start-s.result c.start-s.ensures (record { sfits = c.start-s.type_inv }) (record { sfits = c.cand-1.given }) c.if-cand-s.true

pub loop-i-preserved-then-s-cand : goal.loop-i-preserved-then-s-cand
loop-i-preserved-then-s-cand c =
    let a = c.args in let l = c.loop-i in
    passed_start a.positions.now a.t a.cands.now (length a.out.now) l.out l.i l.c l.n l.invariant c.requires.1.0 c.loop-i-test.true c.if-c-cands.false c.start-s.result c.start-s.ensures (record { sfits = c.start-s.type_inv }) (record { sfits = c.cand-1.given }) c.if-s-cand.true

pub loop-i-preserved : goal.loop-i-preserved
loop-i-preserved c =
    let a = c.args in let l = c.loop-i in
    met a.positions.now a.t a.cands.now (length a.out.now) l.out l.i l.c l.n l.invariant c.requires.1.0 c.loop-i-test.true c.if-c-cands.false c.start-s.result c.start-s.ensures (record { sfits = c.start-s.type_inv }) (record { sfits = c.cand-1.given }) c.if-cand-s.false c.if-s-cand.false

pub returns : goal.returns
returns c =
    let a = c.args in let l = c.loop-i in
    (omega arith, no_start a.positions.now a.t a.cands.now (length a.out.now) l.out l.i l.c l.n l.invariant c.loop-i-test.false)
