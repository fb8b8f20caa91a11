-- The leaves' runs are one part of the postings: what is right in the whole part is right in each leaf.
use Rattle.std.proofs.Common.{◌≡◌, ℕ, ◌+◌, ◌-◌, false, subst, arith}
use Rattle.meaning.specs.Below.{any_below}
use Rattle.meaning.specs.Lent.{leaf_number}
use Rattle.meaning.specs.IndexRefusals.{wrong_posting}
use Rattle.index.specs.IndexOf.{index_of}
use Rattle.index.proofs.Known.{leaf-ok}
use Rattle.index.proofs.Words.{leaf-field, leaf_first_lem}
use Rattle.check_leaves.proofs.Adjoined.{begun-some, begun-with}
use Rattle.check_leaves.proofs.Stretches.{ends-within, begins-before, leaves-right}
use Rattle.check_leaves.proofs.plain_leaves.Goals as goal

pub field_at-field-requires : goal.field_at-field-requires
field_at-field-requires c =
    let ix = index_of c.args.lent.now in
    omega (arith, leaf-field ix c.args.l _ c.leaf_at-leaf.ensures, (leaf-ok ix c.requires.leaves_right c.args.l (omega (arith, c.requires.l_lt_limit))).field)

pub adjacent-requires : goal.adjacent-requires
adjacent-requires c = record { leaves_right = c.requires.leaves_right; l_lt_limit = (c.requires.l_lt_limit.0, c.requires.l_lt_limit.1, begun-some (index_of c.args.lent.now) c.args.l _ _ c.leaf_at-leaf.ensures c.field_at-field.ensures _ _ c.has_positions.ensures c.is_empty.ensures c.if-has_positions-is_empty.false) }

pub overflow_mul-to : goal.overflow_mul-to
overflow_mul-to c =
    let v = c.in_ok-s.ensures in
    omega (arith, ends-within v.1.3 v.1.1 c.requires.leaves_right (omega (arith, v.1.2, c.requires.l_lt_limit)), c.well_formed)

pub slice_bounds-run-count : goal.slice_bounds-run-count
slice_bounds-run-count c =
    let v = c.in_ok-s.ensures in
    omega (arith, begins-before v.1.3 v.1.1, leaf_first_lem (index_of c.args.lent.now) c.args.l _ c.leaf_at-leaf.ensures)

pub slice_bounds-run-start : goal.slice_bounds-run-start
slice_bounds-run-start c =
    let v = c.in_ok-s.ensures in
    omega (arith, begins-before v.1.3 v.1.1, leaf_first_lem (index_of c.args.lent.now) c.args.l _ c.leaf_at-leaf.ensures)

pub slice_bounds-run-end : goal.slice_bounds-run-end
slice_bounds-run-end c =
    let v = c.in_ok-s.ensures in
    omega (arith, ends-within v.1.3 v.1.1 c.requires.leaves_right (omega (arith, v.1.2, c.requires.l_lt_limit)))

pub returns : goal.returns
returns c =
    let ix = index_of c.args.lent.now in
    let v = c.in_ok-s.ensures in
    record {
      bounds = (omega (arith, v.1.0, v.1.1), omega (arith, v.1.0, v.1.2));
      right = λ k g h.
          let fits = ends-within v.1.3 v.1.1 c.requires.leaves_right (omega (arith, v.1.2, c.requires.l_lt_limit)) in
          let p = c.plain_run.ensures c.if-not-plain_run.false in
          let z : c.args.l + (k - c.args.l) ≡ k = omega arith in
          subst (λ (x : ℕ). any_below (leaf_number ix x) (wrong_posting ix x) ≡ false) z (leaves-right ix c.args.l v.0 _ _ v.1.3 v.1.1 _ (leaf_first_lem ix c.args.l _ c.leaf_at-leaf.ensures) fits p.0 (begun-with (index_of c.args.lent.now) c.args.l _ _ c.leaf_at-leaf.ensures c.field_at-field.ensures _ _ c.has_positions.ensures c.is_empty.ensures c.if-has_positions-is_empty.false) p.1 (k - c.args.l) (omega (arith, v.1.0)));
    }
