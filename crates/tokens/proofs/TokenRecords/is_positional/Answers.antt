-- The leaf's field is there, so its record can be read.
use borrow.Author.Tests.{leb-false}
use Rattle.meaning.specs.TokenRefusals.{wrong_leaf_field}
use Rattle.tokens.proofs.TokenRecords.is_positional.Goals as goal

pub field_at-requires : goal.field_at-requires
unfolding wrong_leaf_field
field_at-requires c = leb-false _ _ c.requires.1
