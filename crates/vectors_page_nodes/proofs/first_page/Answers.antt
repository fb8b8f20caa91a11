-- A page that is not refused leaves the tree standing at its next match.
use Rattle.std.proofs.Common.{rules}
use Rattle.index.specs.IndexOf.{index_of}
use Rattle.vectors_page_nodes.proofs.Standings.{stands-next}
use Rattle.vectors_page_nodes.proofs.first_page.Goals as goal

pub returns : goal.returns
returns c =
    let a = c.args in
    let e = c.page_of.ensures in
    stands-next (index_of a.lent.now) a.query.now 0 a.buffers.now _ e.0.now e.2.now e.1.now e.3.now c.page_of.result.listed (search rules)
