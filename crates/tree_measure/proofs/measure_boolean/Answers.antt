-- Each turn adds one clause's measure to the tally, which says at the end whether there is a scorer, and its cost.
use Rattle.std.proofs.Common.{◌-◌, ap, sym, ◌∙◌, arith}
use Rattle.tree_measure.proofs.ClausesLeft.{clause-read, clauses-end}
use Rattle.tree_measure.proofs.Tallies.{left-begins, left-on, clause-left, boolean-measured, clauses-in}
use Rattle.tree_measure.specs.Tallied.{tallied, tallied_at}
use Rattle.tree_measure.proofs.Occurrences.{occur-read}
use Rattle.tree_measure.proofs.measure_boolean.Goals as goal

pub loop-clause-init : goal.loop-clause-init
loop-clause-init c =
    let e = c.of-clause-items.ensures in
    rw c.into_iter-clause-iterator.ensures.into_iter_gives (record {
      of = record { query = e.query; measured = e.measured };
      first = sym e.first;
      tallied = λ ix k C m d. rw (e.all, e.first) (left-begins ix c.args.query.now k c.args.at C c.requires.held.0.here d);
    })

pub tally_clause-t-requires : goal.tally_clause-t-requires
tally_clause-t-requires c =
    let r = clause-read c.loop-clause.invariant.of c.in-Some.ensures.steps in
    let o = clause-left c.args.measures.now c.requires.asks c.requires.held.0.here c.requires.held.1 c.loop-clause.invariant.tallied r.more in
    rw r.measure-is (o.few, o.fits)

pub loop-clause-preserved : goal.loop-clause-preserved
loop-clause-preserved c =
    let l = c.loop-clause in
    let r = clause-read l.invariant.of c.in-Some.ensures.steps in
    let m = c.in-Some.clause.measure in
    record {
      of = r.others;
      first = sym c.in-Some.ensures.steps.next-is;
      tallied = λ ix k C all e. rw (r.left-is, c.in-Some.ensures.steps.next-is) (left-on ix c.args.query.now k c.args.at C c.args.measures.now l.clause-iterator.left l.clause-iterator.next l.t c.tally_clause-t.result all (l.invariant.tallied ix k C all e) r.more m r.measure-is (λ o f. let n = occur-read _ _ o r.occurs f in c.tally_clause-t.ensures ∙ ap (λ z. tallied_at l.t z m.present m.cost) n.read-is ∙ ap (λ z. tallied l.t z m.present m.cost) n.meant-is));
    }

pub returns : goal.returns
returns c =
    let l = c.loop-clause in
    let q = c.args.query.now in
    let at = c.args.at in
    let none = clauses-end l.invariant.of (λ h. let o = clause-left c.args.measures.now c.requires.asks c.requires.held.0.here c.requires.held.1 l.invariant.tallied h in (o.here, omega (arith, o.here, c.requires.held.0.long))) c.in-None.ensures.steps in
    λ ix k D m e. let b = clauses-in ix q k at D e c.requires.held.1 in boolean-measured ix q k at D e c.requires.held.1 l.clause-iterator.left l.clause-iterator.next l.t c.value-msm.result _ (l.invariant.tallied ix (k - 1) b.inside m b.decoded) none c.value-msm.ensures l.invariant.first c.boolean_present.ensures c.boolean_cost.ensures
