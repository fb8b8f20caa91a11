-- A column that is there has N values of three words, and the keys made of a range let in what is in the range.
use Rattle.std.proofs.Common.{◌<◌, ◌^◌, ◌+◌, ◌*◌, ap, subst, ◌∙◌, Option, arith, length-take, length-drop}
use Rattle.meaning.specs.Lent.{column_type}
use Rattle.meaning.specs.Entries.{columns_only}
use Rattle.index.specs.Ranges.{asked}
use Rattle.column_keys.specs.declared.column_type.ColumnType.{ColumnType}
use Rattle.column_keys.specs.Keys.{type_number, range_key, value_in}
use Rattle.column_keys.proofs.KeyOrder.{range-typed, value_in-typed}
use Rattle.std.specs.Prelude.{IfSome}
use Rattle.doc_values.specs.declared.interval.BitInterval.{BitInterval}
use Rattle.doc_values.specs.Intervals.{SameBits}
use Rattle.doc_values.proofs.Ranges.{column-there, column_fits, value_in-from, value-as-range}
use Rattle.doc_values.proofs.ready.Ready.new.Goals as goal

pub bounds-columns-at : goal.bounds-columns-at
bounds-columns-at c = let a = c.args in column-there (columns_only a.max_doc a.columns.now a.values.now) (asked a.range) c.requires.right.range

pub overflow_mul-result-2 : goal.overflow_mul-result-2
overflow_mul-result-2 c =
    let a = c.args in
    omega (arith, column_fits (columns_only a.max_doc a.columns.now a.values.now) (asked a.range) c.requires.right.columns c.requires.right.range, c.well_formed)

pub offset_bounds-values-at : goal.offset_bounds-values-at
offset_bounds-values-at c =
    let a = c.args in
    omega (arith, column_fits (columns_only a.max_doc a.columns.now a.values.now) (asked a.range) c.requires.right.columns c.requires.right.range, c.well_formed)

pub slice_bounds-result-count : goal.slice_bounds-result-count
slice_bounds-result-count c =
    let a = c.args in
    omega (arith, column_fits (columns_only a.max_doc a.columns.now a.values.now) (asked a.range) c.requires.right.columns c.requires.right.range)

pub slice_bounds-result-start : goal.slice_bounds-result-start
slice_bounds-result-start c =
    let a = c.args in
    omega (arith, column_fits (columns_only a.max_doc a.columns.now a.values.now) (asked a.range) c.requires.right.columns c.requires.right.range)

pub invariant_of-result : goal.invariant_of-result
invariant_of-result c =
    let a = c.args in
    let fits = column_fits (columns_only a.max_doc a.columns.now a.values.now) (asked a.range) c.requires.right.columns c.requires.right.range in
    record { there = simp (length-take, length-drop) (omega (arith, fits)); same = λ i e. subst (λ (r : Option BitInterval). IfSome r (λ i. SameBits i c.from-column_type.result c.range_keys-keys.result)) e c.of_keys.ensures }

pub returns-clause-takes : goal.returns-clause-takes
returns-clause-takes c =
    let a = c.args in
    let lower : a.range.lower < 2 ^ 64 = omega arith in
    let upper : a.range.upper < 2 ^ 64 = omega arith in
    let type = column_type (columns_only a.max_doc a.columns.now a.values.now) a.range.column in
    let keys = c.range_keys-keys.result in
    λ d.
    value_in-from a.values.now (3 * (a.range.column * a.max_doc)) d (type_number c.from-column_type.result) keys.from keys.to
    ∙ ap (λ (t : ColumnType). value_in a.values.now (3 * (a.range.column * a.max_doc) + 3 * d) (type_number t) keys.from keys.to) c.from-column_type.ensures
    ∙ value_in-typed type a.values.now (3 * (a.range.column * a.max_doc) + 3 * d) keys.from keys.to
    ∙ value-as-range a.max_doc a.columns.now a.values.now (asked a.range) (λ i. (c.type_inv.values i).fits) lower upper keys.from keys.to
    (λ k h. c.range_keys-keys.ensures k h ∙ ap (λ (t : ColumnType). range_key (type_number t) a.range.kinds a.range.lower a.range.upper k) c.from-column_type.ensures ∙ range-typed type a.range.kinds a.range.lower a.range.upper k)
    d
