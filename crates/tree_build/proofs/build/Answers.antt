use Rattle.std.proofs.Common.{arith}
use Rattle.index.specs.IndexOf.{index_of}
use Rattle.tree_build.proofs.Root.{few-records}
use Rattle.tree_build.proofs.build.Goals as goal

pub build_in-requires-else-record_count-le-FEW_RECORDS-clause-few : goal.build_in-requires-else-record_count-le-FEW_RECORDS-clause-few
build_in-requires-else-record_count-le-FEW_RECORDS-clause-few c = (few-records (index_of c.args.lent.now) c.args.query.now c.requires.asks, omega arith)
