-- Either of the two phrase buffers may be the one that is too short.
use Rattle.std.proofs.Common.{◌∙◌}
use borrow.Author.Tests.{lt-ltb}
use Rattle.index.specs.IndexOf.{index_of}
use Rattle.check_order.specs.WorkOf.{place_work}
use Rattle.check_order.proofs.Refusing.{query-runs}
use Rattle.check_order.proofs.Rooms.{first_short, second_short}
use Rattle.check_order.proofs.starts_short.Goals as goal

pub starts_needed-needed-requires : goal.starts_needed-needed-requires
starts_needed-needed-requires c = query-runs c.requires

pub returns-then-starts-needed : goal.returns-then-starts-needed
returns-then-starts-needed c =
    let a = c.args in
    lt-ltb _ _ c.if-starts-needed.true ∙ first_short (index_of a.lent.now) a.query.now (place_work a.starts a.other_starts) _ c.starts_needed-needed.ensures c.if-starts-needed.true

pub returns-else-starts-needed : goal.returns-else-starts-needed
returns-else-starts-needed c =
    let a = c.args in
    second_short (index_of a.lent.now) a.query.now (place_work a.starts a.other_starts) _ c.starts_needed-needed.ensures c.if-starts-needed.false
