-- What the four outputs need comes from the counts, and none of the products overflows.
use Rattle.std.proofs.Common.{arith, ap, ◌∙◌, ◌*◌, ℕ}
use Rattle.meaning.specs.Below.{count_below}
use Rattle.meaning.specs.Lent.{has_norms}
use Rattle.index.specs.Slices.{fields_only}
use Rattle.index.proofs.Known.{fields-few}
use Rattle.token_writer.proofs.Ways.{few-postings, short-is}
use Rattle.token_writer.proofs.outputs_short.Goals as goal

pub norms_offset-requires : goal.norms_offset-requires
norms_offset-requires c = let few = fields-few _ c.requires.fields_value.1 in (omega (arith, c.field_count-number.ensures), omega (arith, c.field_count-number.ensures, few))

pub overflow_mul-result : goal.overflow_mul-result
overflow_mul-result c = let s = c.args.records in record { fits = omega (arith, few-postings s.max_doc s.fields.now s.leaf_fields.now s.tokens.now c.args.numbers c.requires.counts) }

-- every argument is written out, so that a refused edit names the number that is compared wrongly
pub returns : goal.returns
returns c =
    let s = c.args.records in
    let o = c.args.room in
    short-is s.max_doc s.fields.now s.leaf_fields.now s.tokens.now c.args.numbers c.requires.counts c.requires.fields_value.2 o.norms o.postings o.positions o.runs c.norms_offset.result (c.norms_offset.ensures ∙ ap {B = ℕ} (λ (n : ℕ). count_below n (has_norms (fields_only s.fields.now)) * s.max_doc) c.field_count-number.ensures)
