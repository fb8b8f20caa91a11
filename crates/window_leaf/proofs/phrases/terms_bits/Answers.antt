-- Each turn takes away the places that one term more does not have; once none is left no term is asked.
use Rattle.std.proofs.Common.{refl, List, ◌++◌, ◌+◌, ◌-◌, ◌∙◌, take, drop, arith}
use Rattle.meaning.specs.Limits.{node_state_words}
use Rattle.meaning.specs.Lent.{Index}
use Rattle.meaning.specs.Phrase.{PhraseTerm}
use Rattle.scorer_leaf.proofs.Loops.{back-length}
use Rattle.window_leaf.specs.Phrases.{TermsBitsHeld}
use Rattle.window_leaf.proofs.TermLaws.{Asking, asking-none, asking-end, asking-next, asking-took}
use Rattle.window_leaf.proofs.phrases.terms_bits.Goals.{After-max-next}
use Rattle.window_leaf.proofs.phrases.terms_bits.Goals as goal

-- one more term was asked
took : (c : goal.After-max-next) (ix : Index) (ts : List PhraseTerm) → TermsBitsHeld c.args.postings.now ix ts c.args.terms.now c.args.base → Asking c.args.postings.now ix ts c.args.base c.args.want (let l = c.loop-at in take l.at l.terms ++ (c.run_bits.new.states ++ drop (l.at + node_state_words - l.at) (drop l.at l.terms))) c.both-w.result c.max-next.result (c.loop-at.at + node_state_words)
took c ix ts h =
    let l = c.loop-at in
    let g = c.run_bits in
    asking-took (l.invariant.1 ix ts h) (omega arith) (l.at + node_state_words) refl g.result c.both-w.result c.max-next.result g.new.states g.ensures c.both-w.ensures c.max-next.ensures

pub returns-then-w-eq0 : goal.returns-then-w-eq0
returns-then-w-eq0 c = λ ix ts h. asking-none (c.loop-at.invariant.1 ix ts h) c.if-w-eq0.true

pub slice_bounds-run_bits-end : goal.slice_bounds-run_bits-end
slice_bounds-run_bits-end c =
    let P = c.requires.1 in
    let l = c.loop-at in
    let n = asking-next (l.invariant.1 P.0 P.1 P.2) (omega arith) (l.at + node_state_words) refl in
    omega (arith, n.0, l.invariant.0)

pub run_bits-requires : goal.run_bits-requires
run_bits-requires c =
    let P = c.requires.1 in
    let l = c.loop-at in
    (c.requires.0, (asking-next (l.invariant.1 P.0 P.1 P.2) (omega arith) (l.at + node_state_words) refl).1)

pub loop-at-preserved : goal.loop-at-preserved
loop-at-preserved c =
    let l = c.loop-at in
    let g = c.run_bits in
    (back-length l.terms g.new.states l.at (l.at + node_state_words) g.auto.states ∙ l.invariant.0, took (goal.at.loop-at-preserved c).After-max-next)

-- the last one
pub returns-else-w-eq0 : goal.returns-else-w-eq0
returns-else-w-eq0 c =
    let l = c.loop-at in
    let g = c.run_bits in
    λ ix ts h. asking-end (took (goal.at.returns-else-w-eq0 c).After-max-next ix ts h) (omega (arith, back-length l.terms g.new.states l.at (l.at + node_state_words) g.auto.states))

pub returns : goal.returns
returns c = λ ix ts h. asking-end (c.loop-at.invariant.1 ix ts h) (omega arith)
