-- A term's documents are those of its run.
use Rattle.std.proofs.Common.{subst, sym, List, ℕ}
use Rattle.tree_weight.specs.State.{State}
use Rattle.scorer_leaf.specs.Search.{SearchHeld}
use Rattle.window_leaf.specs.Runs.{RunBitsPost}
use Rattle.window_leaf.proofs.Nodes.{term-asks, term-answer}
use Rattle.window_leaf.proofs.term_bits.Goals as goal

pub run_bits-requires : goal.run_bits-requires
run_bits-requires c =
    let q = c.requires.2 in
    let n = q.7 in
    (c.requires.0, subst (λ (y : List ℕ). (s : State) × (w : List ℕ) × SearchHeld y 3 s w c.args.states.now c.args.base) q.1 (term-asks q.0 q.2 q.3 q.5 q.6 c.args.states.now c.args.base c.requires.1 q.4 n))

pub returns : goal.returns
returns c = λ E k same ix places s o h.
    term-answer E ix places k o c.args.states.now c.args.base c.requires.1 c.run_bits.result c.run_bits.new.states (subst (λ (y : List ℕ). RunBitsPost y 3 c.args.states.now c.args.base c.run_bits.result c.run_bits.new.states) (sym same) c.run_bits.ensures) s h
