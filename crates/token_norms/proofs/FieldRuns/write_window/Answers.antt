-- The counts begin at 0, so that they are the lengths; those of documents below N are stored as bytes.
use Rattle.std.proofs.Common.{◌≡◌, refl, ap, ◌∙◌, ◌+◌, ◌-◌, ◌≤◌, ℕ, length, take, get_or, arith}
use Rattle.std.proofs.lemmas.List.Edits.{sets}
use borrow.Rule.Slice.PartMut.{mid_of, mid_len}
use Rattle.meaning.specs.Below.{list_to}
use Rattle.meaning.specs.SmallFloat.{int_to_byte4}
use Rattle.token_norms.proofs.Filled.{zeros}
use Rattle.token_norms.proofs.Stored.{put-sets}
use Rattle.token_norms.proofs.Window.{part-long, part_small, part-coded}
use Rattle.token_norms.proofs.FieldRuns.write_window.Goals as goal

pub add_leaves-requires-clause-counts_value : goal.add_leaves-requires-clause-counts_value
add_leaves-requires-clause-counts_value c = zeros 4096 (λ j. 0) (λ i l. refl)

pub code_lengths-requires-clause-by_index : goal.code_lengths-requires-clause-by_index
code_lengths-requires-clause-by_index c =
    let s = c.args.self in
    let b = c.args.base in
    let n = c.args.norms.now in
    part_small s.leaf_fields.now s.postings.now s.runs.now c.requires.runs_ok.0 s.field b (length n) c.add_leaves.new.counts c.add_leaves.ensures.counts_after c.min-width.result c.min-width.ensures

pub returns-clause-norms_after : goal.returns-clause-norms_after
returns-clause-norms_after c =
    let s = c.args.self in
    let b = c.args.base in
    let n = c.args.norms.now in
    let e = b + c.min-width.result in
    let inside : e ≤ length n = omega (arith, c.min-width.ensures, c.requires.runs_ok.1) in
    let size = mid_len b e n inside in
    let same : length (mid_of b (e - b) n) ≡ length (take c.min-width.result c.add_leaves.new.counts) = omega (arith, size, part-long s.leaf_fields.now s.postings.now s.runs.now c.requires.runs_ok.0 s.field b (length n) c.add_leaves.new.counts c.add_leaves.ensures.counts_after c.min-width.result c.min-width.ensures) in
    put-sets b e n c.code_lengths.new.norms (omega (arith, size, c.code_lengths.auto.norms)) inside
    ∙ ap (sets n b)
    (c.code_lengths.ensures
    ∙ ap (λ (k : ℕ). list_to k (λ j. int_to_byte4 (get_or (take c.min-width.result c.add_leaves.new.counts) j 0))) same
    ∙ part-coded s.leaf_fields.now s.postings.now s.runs.now c.requires.runs_ok.0 s.field b (length n) c.add_leaves.new.counts c.add_leaves.ensures.counts_after c.min-width.result c.min-width.ensures)
