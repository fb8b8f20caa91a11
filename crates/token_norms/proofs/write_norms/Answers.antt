-- Each turn writes the bytes of one field, if it has norms, behind those of the fields before it.
use Rattle.std.proofs.Common.{◌≡◌, sym, ap, ◌∙◌, ◌+◌, ◌-◌, ◌≤◌, ℕ, eqb, length, arith}
use Rattle.std.proofs.lemmas.List.Edits.{sets}
use borrow.Rule.Slice.PartMut.{mid_of, mid_len}
use Rattle.meaning.specs.Below.{list_to}
use Rattle.meaning.specs.Lent.{has_norms}
use Rattle.meaning.specs.SmallFloat.{int_to_byte4}
use Rattle.index.specs.Slices.{fields_only}
use Rattle.index.specs.declared.fields.Field.{Field}
use Rattle.token_norms.specs.Lengths.{length_in}
use Rattle.token_norms.proofs.Norms.{coded-start, norms-long, room-here, coded-with, coded-without, coded-all}
use Rattle.token_norms.proofs.Stored.{put-sets}
use Rattle.token_norms.proofs.write_norms.Goals.{After-has_norms, then-has_norms, else-has_norms}
use Rattle.token_norms.proofs.write_norms.Goals as goal

-- what is asked of the field's record is whether the field has norms
has : (c : After-has_norms) → c.has_norms.result ≡ has_norms (fields_only c.args.fields.now) c.loop-f.f
has c = c.has_norms.ensures ∙ ap (λ (r : Field). eqb r.norms 1) c.field_at.ensures

pub loop-f-init : goal.loop-f-init
loop-f-init c = coded-start c.args.max_doc c.args.fields.now c.args.leaf_fields.now c.args.postings.now c.args.runs.now c.args.norms.now

pub overflow_add-end : goal.overflow_add-end
overflow_add-end c =
    let l = c.loop-f in
    omega (arith, c.well_formed, norms-long c.args.max_doc c.args.fields.now c.args.leaf_fields.now c.args.postings.now c.args.runs.now c.args.norms.now c.requires.max_doc_in_bounds l.f l.at l.norms l.invariant, room-here c.args.max_doc c.args.fields.now c.args.leaf_fields.now c.args.postings.now c.args.runs.now c.args.norms.now c.requires.max_doc_in_bounds l.f l.at l.norms l.invariant (rw (← c.field_count-f-end.ensures) c.loop-f-test.true) (sym (has (goal.at.overflow_add-end c).After-has_norms) ∙ c.if-has_norms.true))

pub slice_bounds-write_field-end : goal.slice_bounds-write_field-end
slice_bounds-write_field-end c =
    let l = c.loop-f in
    let inside : l.at + c.args.max_doc ≤ length l.norms = omega (arith, room-here c.args.max_doc c.args.fields.now c.args.leaf_fields.now c.args.postings.now c.args.runs.now c.args.norms.now c.requires.max_doc_in_bounds l.f l.at l.norms l.invariant (rw (← c.field_count-f-end.ensures) c.loop-f-test.true) (sym (has (goal.at.slice_bounds-write_field-end c).After-has_norms) ∙ c.if-has_norms.true)) in
    inside

pub loop-f-preserved : goal.loop-f-preserved
loop-f-preserved c =
    let l = c.loop-f in
    let same = sym (has (goal.at.loop-f-preserved c).After-has_norms) in
    elim c.if-has_norms.branch [
      | then-has_norms w ↦ (
          let f = λ (d : ℕ). int_to_byte4 (length_in c.args.leaf_fields.now c.args.postings.now c.args.runs.now l.f d) in
          let e = l.at + c.args.max_doc in
          let inside : e ≤ length l.norms = omega (arith, room-here c.args.max_doc c.args.fields.now c.args.leaf_fields.now c.args.postings.now c.args.runs.now c.args.norms.now c.requires.max_doc_in_bounds l.f l.at l.norms l.invariant (rw (← c.field_count-f-end.ensures) c.loop-f-test.true) (same ∙ w.if-has_norms.true)) in
          let size = mid_len l.at e l.norms inside in
          let number : length (mid_of l.at (e - l.at) l.norms) ≡ c.args.max_doc = omega (arith, size) in
          coded-with c.args.max_doc c.args.fields.now c.args.leaf_fields.now c.args.postings.now c.args.runs.now c.args.norms.now c.requires.max_doc_in_bounds l.f l.at l.norms l.invariant (rw (← c.field_count-f-end.ensures) c.loop-f-test.true) (same ∙ w.if-has_norms.true) c.if-has_norms.at c.if-has_norms.norms w.at-is
          (w.norms-is ∙ put-sets l.at e l.norms w.write_field.new.norms (omega (arith, size, w.write_field.auto.norms)) inside ∙ ap (sets l.norms l.at) (w.write_field.ensures ∙ ap (λ (k : ℕ). list_to k f) number)))
      | else-has_norms w ↦ coded-without c.args.max_doc c.args.fields.now c.args.leaf_fields.now c.args.postings.now c.args.runs.now c.args.norms.now c.requires.max_doc_in_bounds l.f l.at l.norms l.invariant (rw (← c.field_count-f-end.ensures) c.loop-f-test.true) (same ∙ w.if-has_norms.false) c.if-has_norms.at c.if-has_norms.norms w.at-is w.norms-is
    ]

pub returns : goal.returns
returns c = let l = c.loop-f in coded-all c.args.max_doc c.args.fields.now c.args.leaf_fields.now c.args.postings.now c.args.runs.now c.args.norms.now c.requires.max_doc_in_bounds l.f l.at l.norms l.invariant (rw (← c.field_count-f-end.ensures) c.loop-f-test.false)
