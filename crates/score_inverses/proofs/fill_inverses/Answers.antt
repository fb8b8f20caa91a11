-- Each turn makes sure that its record's field has its inverses, if the record scores by BM25.
use Rattle.std.proofs.Common.{true, ap, ◌∙◌, length, length-take, length-drop, length-set, arith, refl}
use Rattle.index.specs.IndexOf.{index_of}
use Rattle.index.specs.declared.fields.Field.{Field}
use Rattle.score_inverses.proofs.fill_inverses.Goals.{in-Some+then-not-filled-f, in-Some+else-not-filled-f, in_default, In-Some}
use Rattle.score_inverses.proofs.Filling.{FieldRead, field-read, field-some, field_none, none_filled, filled-skip, filled-again, filled-new}
use Rattle.score_inverses.specs.Inverses.{field_at}
use Rattle.score_inverses.proofs.fill_inverses.Goals as goal

-- what is known of a record's field
read : (c : In-Some) → FieldRead (index_of c.args.lent.now) c.in-Some.field
read c =
    let ix = index_of c.args.lent.now in
    let is = field-some ix c.args.query.now c.loop-at.at c.in-Some.field c.scored_field.result c.in-Some.is c.scored_field.ensures in
    field-read ix c.args.query.now c.loop-at.at c.in-Some.field c.requires.0 (omega arith) is.0 is.1

pub loop-at-init : goal.loop-at-init
loop-at-init c = record { filling = none_filled (index_of c.args.lent.now) c.args.query.now c.args.table.now; wide = refl }

pub bounds-filled-f : goal.bounds-filled-f
bounds-filled-f c = (read c).few

pub field_at-requires : goal.field_at-requires
field_at-requires c = (read (goal.at.field_at-requires c).In-Some).there

pub slice_bounds-fill_field-count : goal.slice_bounds-fill_field-count
slice_bounds-fill_field-count c =
    let few = (read (goal.at.slice_bounds-fill_field-count c).In-Some).few in omega (arith, few)

pub slice_bounds-fill_field-start : goal.slice_bounds-fill_field-start
slice_bounds-fill_field-start c =
    let few = (read (goal.at.slice_bounds-fill_field-start c).In-Some).few in omega (arith, few)

pub fill_field-requires : goal.fill_field-requires
fill_field-requires c =
    let field = read (goal.at.fill_field-requires c).In-Some in
    let is = ap Field.average c.field_at.ensures in
    (simp (length-take, length-drop) (omega (arith, field.few)), omega (arith, is, field.least), omega (arith, is, field.largest))

pub bounds-filled-f-then-not-filled-f : goal.bounds-filled-f-then-not-filled-f
bounds-filled-f-then-not-filled-f c = (read (goal.at.bounds-filled-f-then-not-filled-f c).In-Some).few

pub loop-at-preserved : goal.loop-at-preserved
loop-at-preserved c =
    let l = c.loop-at in
    let ix = index_of c.args.lent.now in
    let q = c.args.query.now in
    elim c.match-scored_field.branch [
      | in-Some+then-not-filled-f w ↦
          let f = w.in-Some.field in
          let is = field-some ix q l.at f c.scored_field.result w.in-Some.is c.scored_field.ensures in
          let field = field-read ix q l.at f c.requires.0 (omega arith) is.0 is.1 in
          let few = field.few in
          let wide = l.invariant.wide in
          record {
            filling = rw (w.table-is, w.filled-is) (filled-new ix q l.table l.filled l.at l.invariant.filling f w.fill_field.new.table is.1 (omega (arith, few, wide)) (omega (arith, few)) (rw (← ap Field.average w.field_at.ensures) w.fill_field.ensures));
            wide = ap length w.filled-is ∙ length-set l.filled f true ∙ wide;
          }
      | in-Some+else-not-filled-f w ↦
          record {
            filling = rw (w.table-is, w.filled-is) (filled-again ix q l.table l.filled l.at l.invariant.filling w.in-Some.field (field-some ix q l.at w.in-Some.field c.scored_field.result w.in-Some.is c.scored_field.ensures).1 w.if-not-filled-f.false);
            wide = ap length w.filled-is ∙ l.invariant.wide;
          }
      | in_default w ↦
          record {
            filling = rw (w.table-is, w.filled-is) (filled-skip ix q l.table l.filled l.at l.invariant.filling (field_none ix q l.at c.scored_field.result w.in_default.is c.scored_field.ensures));
            wide = ap length w.filled-is ∙ l.invariant.wide;
          }
    ]

pub returns-clause-field_table : goal.returns-clause-field_table
returns-clause-field_table c =
    λ at h has. let known = c.loop-at.invariant.filling in known.tables (field_at (index_of c.args.lent.now) c.args.query.now at) (known.met at (omega (arith, h)) has)
