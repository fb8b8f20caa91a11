-- The run is the leaf's part of the postings: a record in it is wrong by its words, or else by its positions.
use Rattle.std.proofs.Common.{true, false, sym, refl, ◌∙◌, arith}
use Rattle.index.specs.IndexOf.{index_of}
use Rattle.check_postings.proofs.LeafRead.{field-there, run-there, run-read}
use Rattle.check_postings.proofs.wrong_run.Goals as goal

pub field_at-field-requires : goal.field_at-field-requires
field_at-field-requires c = field-there (index_of c.args.lent.now) c.args.l c.requires.leaves_right c.requires.l_in_bounds c.leaf_at-leaf.result c.leaf_at-leaf.ensures

pub slice_bounds-run-end : goal.slice_bounds-run-end
slice_bounds-run-end c = omega (arith, run-there (index_of c.args.lent.now) c.args.l c.requires.leaves_right c.requires.l_in_bounds c.leaf_at-leaf.result c.leaf_at-leaf.ensures)

pub returns-then-wrong_records : goal.returns-then-wrong_records
returns-then-wrong_records c =
    run-read (index_of c.args.lent.now) c.args.l c.requires.leaves_right c.requires.l_in_bounds c.leaf_at-leaf.result c.leaf_at-leaf.ensures _ c.field_at-field.ensures _ _ c.wrong_records.ensures refl _ true refl c.if-wrong_records.true

pub returns-then-has_positions : goal.returns-then-has_positions
returns-then-has_positions c =
    run-read (index_of c.args.lent.now) c.args.l c.requires.leaves_right c.requires.l_in_bounds c.leaf_at-leaf.result c.leaf_at-leaf.ensures _ c.field_at-field.ensures _ _ c.wrong_records.ensures c.wrong_run_places.ensures true false (sym c.has_positions.ensures ∙ c.if-has_positions.true) c.if-wrong_records.false

pub returns-else-has_positions : goal.returns-else-has_positions
returns-else-has_positions c =
    c.if-has_positions.false ∙ run-read (index_of c.args.lent.now) c.args.l c.requires.leaves_right c.requires.l_in_bounds c.leaf_at-leaf.result c.leaf_at-leaf.ensures _ c.field_at-field.ensures _ _ c.wrong_records.ensures refl false false (sym c.has_positions.ensures ∙ c.if-has_positions.false) c.if-wrong_records.false
