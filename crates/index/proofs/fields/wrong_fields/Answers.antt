use Rattle.std.proofs.Common.{rules}
use Rattle.meaning.specs.IndexRefusals.{wrong2, wrong_field}
use Rattle.index.specs.Slices.{fields_only}
use Rattle.index.proofs.fields.wrong_fields.Goals as goal

pub returns : goal.returns
unfolding wrong2
returns c = c.wrong_records.ensures (wrong_field (fields_only c.args.fields.now)) (λ f bad l k. search rules)
