-- Each step but the first goes on from records in which the tree stands.
use Rattle.index.specs.IndexOf.{index_of}
use Rattle.vectors_page_nodes.specs.Next.{StandsNext}
use Rattle.vectors_page_nodes.proofs.page_through.Given as goal

abbrev pub invariant-loop : goal.invariant-loop
invariant-loop g l = StandsNext (index_of l.lent) l.query l.page.listed l.records
