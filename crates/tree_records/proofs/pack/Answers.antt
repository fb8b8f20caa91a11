-- Each turn reads one record more from the words; those behind n stay.
use Rattle.std.proofs.Common.{◌≡◌, ◌*◌, ℕ, List, take, drop, arith, subst, sym}
use Rattle.meaning.specs.Limits.{node_state_words}
use Rattle.tree_words.specs.declared.state.NodeState.{NodeState}
use Rattle.tree_records.specs.Records.{record_words}
use Rattle.tree_records.proofs.Turns.{take_nodes, all-taken, rest-stays}
use Rattle.tree_records.proofs.pack.Goals as goal

pub returns : goal.returns
returns c =
    let w = c.args.words.now in
    let n = c.args.n in
    let ns = c.args.nodes.now in
    let upto : c.loop-i.i ≡ n = omega arith in
    let e : take_nodes w n ns ≡ c.loop-i.nodes = subst (λ (i : ℕ). take_nodes w i ns ≡ c.loop-i.nodes) upto (sym c.loop-i.invariant) in
    subst
    (λ (l : List NodeState). (record_words (take n l) ≡ take (node_state_words * n) w) × (drop n l ≡ drop n ns))
    e
    (all-taken w n ns c.requires.0 c.requires.1, rest-stays w n ns)
