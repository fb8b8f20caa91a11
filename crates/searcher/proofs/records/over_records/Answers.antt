-- The records that the call used were read from the words.
use Rattle.std.proofs.Common.{◌≡◌, List, ℕ, rules}
use Rattle.tree_words.specs.declared.state.NodeState.{NodeState}
use Rattle.searcher.specs.WorkBuffers.{Packed}
use Rattle.searcher.proofs.records.over_records.Goals as goal

as-many : (nodes nodes' : List NodeState) (words : List ℕ) (m n : ℕ) → m ≡ n → Packed nodes nodes' words m → Packed nodes nodes' words n
as-many nodes nodes' words m n e p = rw (← e) p

pub returns-clause-called : goal.returns-clause-called
returns-clause-called g c =
    let e = c.in_buffers-answer.ensures in
    (e.0, e.1, search (rules, e), e.4, record { packed = rw (← c.held-n.ensures) (as-many _ _ _ _ _ c.used-m.ensures (search (rules, e))); starts_back = search (rules, e); other_starts_back = search (rules, e); ranges_back = search (rules, e) })
