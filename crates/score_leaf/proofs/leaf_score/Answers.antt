-- Of a term and of a phrase the frequency is known, and all else scores 0.
use native.Mathlib.Omega.{arith}
use Prim.Native.Nat.{ℕ}
use mathlib.Core.Path.{◌≡◌, sym, ap, ◌∙◌}
use mathlib.Core.List.{List, ◌++◌}
use lib.Ieee.{Float}
use Rattle.meaning.specs.Lent.{Index}
use Rattle.tree_node.specs.Kinds.{node_kind}
use Rattle.tree_node.proofs.Scorers.{term-word, phrase-word}
use Rattle.tree_weight.specs.ScorerTree.{Leaf}
use Rattle.tree_weight.specs.State.{State, words_of}
use Rattle.scorer_leaf.specs.Buffers.{places_in}
use Rattle.score_leaf.specs.Asked.{LentAt, LeafAsks}
use Rattle.score_leaf.proofs.Bounds.{zero-32}
use Rattle.score_leaf.proofs.Leaves.{Counted, read, few-documents, counted-weighs, counted-done, term-run, term-counted, phrase-asks, phrase-counted, other-done}
use Rattle.score_leaf.proofs.leaf_score.Goals as goal
use Rattle.score_leaf.proofs.leaf_score.Goals.{After-weighted-arg-2-1, in-Term, in-Phrase}

-- whatever leaf the words hold
counted : (c : After-weighted-arg-2-1) (m : ℕ) (ix : Index) (ranges : List ℕ) (l : Leaf) (w : Float) (s : State) (v : List ℕ) → LentAt ix m c.args.reader.now.postings.now c.args.reader.now.positions.now c.args.reader.now.norms.now c.args.doc → LeafAsks ix ranges c.args.reader.now.inverses.now (places_in c.args.buffers.now) l w s v c.args.doc → c.args.states.now ≡ words_of s ++ v → Counted ix c.args.reader.now.inverses.now c.score_node_at-n.result ranges l w s c.args.doc c.match-from.frequency c.match-from.states
counted c m ix ranges l w s v L p e =
    let a = c.args in
    let r = a.reader.now in
    let R = read a.states.now v s c.score_node_at-n.result e c.score_node_at-n.ensures in
    elim c.match-from.branch [
      | in-Term x ↦ rw (x.frequency-is, x.states-is) (term-counted ix m r.postings.now r.positions.now r.norms.now a.doc L r.inverses.now c.score_node_at-n.result ranges _ w s v a.states.now e R _ x.term_frequency-frequency.ensures l p (term-word _ (sym x.in-Term.ensures)))
      | in-Phrase x ↦ rw (x.frequency-is, x.states-is) (phrase-counted ix m r.postings.now r.positions.now r.norms.now a.doc L r.inverses.now c.score_node_at-n.result ranges _ w s v a.states.now e R _ _ x.phrase_frequency-frequency.ensures.frequency_post l p (phrase-word _ (sym x.in-Phrase.ensures)))
    ]

pub term_frequency-frequency-requires : goal.term_frequency-frequency-requires
term_frequency-frequency-requires c =
    let a = c.args in
    let r = a.reader.now in
    let p = c.requires.1 in
    term-run p.0 c.requires.0 r.postings.now r.positions.now r.norms.now a.doc p.6 r.inverses.now _ p.1 _ p.3 p.4 p.5 a.states.now p.8 (read a.states.now p.5 p.4 _ p.8 c.score_node_at-n.ensures) p.2 p.7 (term-word _ (sym c.in-Term.ensures))

pub phrase_frequency-frequency-requires : goal.phrase_frequency-frequency-requires
phrase_frequency-frequency-requires c =
    let a = c.args in
    let r = a.reader.now in
    let p = c.requires.1 in
    let q = phrase-asks p.0 c.requires.0 r.postings.now r.positions.now r.norms.now a.doc p.6 r.inverses.now _ p.1 _ p.3 p.4 p.5 a.states.now p.8 (read a.states.now p.5 p.4 _ p.8 c.score_node_at-n.ensures) p.2 p.7 (phrase-word _ (sym c.in-Phrase.ensures)) in
    (few-documents p.0 c.requires.0 r.postings.now r.positions.now r.norms.now a.doc p.6, (p.0, places_in a.buffers.now, q.0, q.1, p.4, p.5, omega arith, omega arith, q.2, q.3))

pub returns-in_default-clause-leaf_post : goal.returns-in_default-clause-leaf_post
returns-in_default-clause-leaf_post c =
    let a = c.args in
    let r = a.reader.now in
    λ m ix ranges l w s v L p e. other-done ix m r.postings.now r.positions.now r.norms.now a.doc L r.inverses.now _ ranges _ w s v a.states.now e (read a.states.now v s _ e c.score_node_at-n.ensures) l p (λ k. c.in_default.not-Term (c.from.ensures ∙ ap node_kind k)) (λ k. c.in_default.not-Phrase (c.from.ensures ∙ ap node_kind k)) _ zero-32

pub weighted-requires : goal.weighted-requires
weighted-requires c =
    let a = c.args in
    let r = a.reader.now in
    let p = c.requires.1 in
    counted-weighs p.0 c.requires.0 r.postings.now r.positions.now r.norms.now a.doc p.6 r.inverses.now _ p.1 p.2 p.3 p.4 _ _ (counted c c.requires.0 p.0 p.1 p.2 p.3 p.4 p.5 p.6 p.7 p.8)

pub returns-clause-leaf_post : goal.returns-clause-leaf_post
returns-clause-leaf_post c =
    let a = c.args in
    let r = a.reader.now in
    λ m ix ranges l w s v L p e. counted-done ix m r.postings.now r.positions.now r.norms.now a.doc L r.inverses.now c.score_node_at-n.result ranges l w s _ _ (counted (goal.at.returns-clause-leaf_post c).After-weighted-arg-2-1 m ix ranges l w s v L p e) c.weighted.ensures.bytes _ c.weighted.ensures.score
