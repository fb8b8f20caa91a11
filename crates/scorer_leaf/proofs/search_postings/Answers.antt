-- The posting behind the cursor if it is at or after the target, else the one that a search finds.
use Rattle.scorer_leaf.proofs.LeafLaws.{search-next}
use Rattle.scorer_leaf.proofs.search_postings.Goals as goal

pub returns-then-target-d : goal.returns-then-target-d
returns-then-target-d c = let s = c in let k = c.cursor_at-first in search-next s.args.postings.now 3 s.args.states.now s.args.target k.result.first k.result.number k.result.cursor k.ensures.first k.ensures.number k.ensures.cursor c.document.result c.document-d.result c.if-next-number.true c.document.ensures c.if-document-target.true c.document-d.ensures c.if-target-d.true
