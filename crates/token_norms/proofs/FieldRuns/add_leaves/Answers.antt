-- Each turn adds one leaf's run, if the leaf is of this field, from where its cursor stands.
use Rattle.std.proofs.Common.{refl, ◌∙◌, length, arith}
use Rattle.token_norms.proofs.Leaves.{added-start, cursors-long, counts-long, run_ok, cursor-here, room-here, added-leaf, added-other, cursors-done, counts-done}
use Rattle.token_norms.proofs.FieldRuns.add_leaves.Goals.{then-field-self, else-field-self}
use Rattle.token_norms.proofs.FieldRuns.add_leaves.Goals as goal

pub loop-l-init : goal.loop-l-init
loop-l-init c =
    let s = c.args.self in
    added-start s.leaf_fields.now s.postings.now s.runs.now c.requires.runs_ok.0 s.field c.args.base (length c.args.counts.now) c.args.cursors.now c.args.counts.now c.requires.cursors_value c.requires.counts_value

pub bounds-cursors-l : goal.bounds-cursors-l
bounds-cursors-l c =
    let s = c.args.self in
    let l = c.loop-l in
    omega (arith, c.requires.runs_ok.0.few, c.loop-l-test.true, cursors-long s.leaf_fields.now s.postings.now s.runs.now c.requires.runs_ok.0 s.field c.args.base (length c.args.counts.now) l.l l.cursors l.counts l.invariant)

pub bounds-cursors-l-then-field-self : goal.bounds-cursors-l-then-field-self
bounds-cursors-l-then-field-self c =
    let s = c.args.self in
    let l = c.loop-l in
    omega (arith, c.requires.runs_ok.0.few, c.loop-l-test.true, cursors-long s.leaf_fields.now s.postings.now s.runs.now c.requires.runs_ok.0 s.field c.args.base (length c.args.counts.now) l.l l.cursors l.counts l.invariant)

pub add_run-requires : goal.add_run-requires
add_run-requires c =
    let s = c.args.self in
    let l = c.loop-l in
    record {
      run_ok = (
        run_ok s.leaf_fields.now s.postings.now s.runs.now c.requires.runs_ok.0 s.field c.args.base (length c.args.counts.now) l.l l.cursors l.counts l.invariant c.loop-l-test.true c.if-field-self.true _ _ refl refl,
        cursor-here s.leaf_fields.now s.postings.now s.runs.now c.requires.runs_ok.0 s.field c.args.base (length c.args.counts.now) l.l l.cursors l.counts l.invariant c.loop-l-test.true c.if-field-self.true _ _ refl refl,
        omega (arith, c.requires.runs_ok.1, counts-long s.leaf_fields.now s.postings.now s.runs.now c.requires.runs_ok.0 s.field c.args.base (length c.args.counts.now) l.l l.cursors l.counts l.invariant),
      );
      by_index = room-here s.leaf_fields.now s.postings.now s.runs.now c.requires.runs_ok.0 s.field c.args.base (length c.args.counts.now) l.l l.cursors l.counts l.invariant c.loop-l-test.true c.if-field-self.true _ _ refl refl;
    }

pub loop-l-preserved : goal.loop-l-preserved
loop-l-preserved c =
    let s = c.args.self in
    let l = c.loop-l in
    elim c.if-field-self.branch [
      | then-field-self w ↦ added-leaf s.leaf_fields.now s.postings.now s.runs.now c.requires.runs_ok.0 s.field c.args.base (length c.args.counts.now) l.l l.cursors l.counts l.invariant c.loop-l-test.true w.if-field-self.true _ _ refl refl w.add_run.result c.if-field-self.cursors c.if-field-self.counts w.add_run.ensures.value w.cursors-is (w.counts-is ∙ w.add_run.ensures.counts_after)
      | else-field-self w ↦ added-other s.leaf_fields.now s.postings.now s.runs.now c.requires.runs_ok.0 s.field c.args.base (length c.args.counts.now) l.l l.cursors l.counts l.invariant c.loop-l-test.true w.if-field-self.false c.if-field-self.cursors c.if-field-self.counts w.cursors-is w.counts-is
    ]

pub returns : goal.returns
returns c =
    let s = c.args.self in
    let l = c.loop-l in
    record {
      cursors_after = cursors-done s.leaf_fields.now s.postings.now s.runs.now c.requires.runs_ok.0 s.field c.args.base (length c.args.counts.now) l.l l.cursors l.counts l.invariant c.loop-l-test.false;
      counts_after = counts-done s.leaf_fields.now s.postings.now s.runs.now c.requires.runs_ok.0 s.field c.args.base (length c.args.counts.now) l.l l.cursors l.counts l.invariant c.loop-l-test.false;
    }
