use Rattle.meaning.specs.QueryRefusals.{wrong_kind}
use Rattle.index.specs.IndexOf.{index_of}
use Rattle.index.proofs.Parts.{wrong_range-of}
use Rattle.check_query.proofs.values.wrong_range_record.Goals as goal

-- the Range entry's 8 looks at the columns alone
pub returns : goal.returns
unfolding wrong_kind
returns c = rw (wrong_range-of (index_of c.args.lent.now), ← c.range_at.ensures) c.wrong_range.ensures
