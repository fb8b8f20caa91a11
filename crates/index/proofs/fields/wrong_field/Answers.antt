use Rattle.meaning.specs.IndexRefusals.{wrong_field}
use Rattle.index.proofs.fields.wrong_field.Goals as goal

pub returns : goal.returns
unfolding wrong_field
returns c = rw c.field_at-field.ensures
