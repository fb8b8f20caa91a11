-- A constant, or what BM25 gives at the frequency that is found.
use native.Mathlib.Omega.{arith}
use mathlib.Core.Path.{◌≡◌, sym, subst}
use lib.Ieee.{Float}
use Rattle.score_leaf.specs.Asked.{ScoreIs}
use Rattle.score_leaf.proofs.Constants.{constant-some, constant-none}
use Prim.Native.Nat.{ℕ}
use Rattle.scorer_leaf.proofs.Bounds.{ok-long}
use Rattle.score_leaf.proofs.Nodes.{constant-is, leaf-at}
use Rattle.score_leaf.proofs.Leaves.{read, counted-weighs, counted-done, term-run, term-counted}
use Rattle.score_leaf.proofs.term_score.Goals as goal

no-boolean : (kind : ℕ) → kind ≡ 1 → kind ≡ 3 → ⊥
no-boolean kind e f = omega arith

pub score_node_at-n-requires : goal.score_node_at-n-requires
score_node_at-n-requires c = let s₀ = c in
    let p = s₀.requires.1 in
    let q = p.5 in
    omega (arith, ok-long q.0 p.2 q.1 p.4 q.2 s₀.args.states.now s₀.args.doc q.6)

pub constant_score-requires : goal.constant_score-requires
constant_score-requires c = λ e. let s₀ = c in
    let p = s₀.requires.1 in
    let q = p.5 in
    let a = c.score_node_at-n in
    (constant-is q.0 p.2 s₀.args.reader.now.inverses.now p.3 p.4 s₀.args.doc s₀.args.states.now a.result a.ensures q.1 q.2 q.6 e).0

pub returns-in-Some : goal.returns-in-Some
returns-in-Some c = let s₀ = c in
    let a = c.score_node_at-n in
    let k = constant-some a.result c.in-Some.score c.in-Some.ensures in
    λ n positions ranges places depth ix S sc L g m o. (subst (λ (z : Float). ScoreIs ix S s₀.args.doc z) (sym k.1) (constant-is ix ranges s₀.args.reader.now.inverses.now places depth s₀.args.doc s₀.args.states.now a.result a.ensures S sc o k.0).1, o)

pub term_frequency-frequency-requires : goal.term_frequency-frequency-requires
term_frequency-frequency-requires c = let s₀ = c in
    let p = s₀.requires.1 in
    let q = p.5 in
    let a = c.score_node_at-n in
    let d = leaf-at q.0 p.2 s₀.args.reader.now.inverses.now p.3 p.4 s₀.args.doc s₀.args.states.now a.result a.ensures q.1 q.2 q.4 q.5 q.6 (constant-none a.result c.in-None.ensures) (no-boolean _ s₀.requires.0) in
    term-run q.0 p.0 s₀.args.reader.now.postings.now p.1 s₀.args.reader.now.norms.now s₀.args.doc q.3 s₀.args.reader.now.inverses.now a.result p.2 p.3 d.w d.s d.v s₀.args.states.now d.is (read s₀.args.states.now d.v d.s a.result d.is a.ensures) d.l d.asks s₀.requires.0

pub weighted-requires : goal.weighted-requires
weighted-requires c = let s₀ = c in
    let p = s₀.requires.1 in
    let q = p.5 in
    let a = c.score_node_at-n in
    let d = leaf-at q.0 p.2 s₀.args.reader.now.inverses.now p.3 p.4 s₀.args.doc s₀.args.states.now a.result a.ensures q.1 q.2 q.4 q.5 q.6 (constant-none a.result c.in-None.ensures) (no-boolean _ s₀.requires.0) in
    let f = term-counted q.0 p.0 s₀.args.reader.now.postings.now p.1 s₀.args.reader.now.norms.now s₀.args.doc q.3 s₀.args.reader.now.inverses.now a.result p.2 p.3 d.w d.s d.v s₀.args.states.now d.is (read s₀.args.states.now d.v d.s a.result d.is a.ensures) c.term_frequency-frequency.result c.term_frequency-frequency.ensures d.l d.asks s₀.requires.0 in
    counted-weighs q.0 p.0 s₀.args.reader.now.postings.now p.1 s₀.args.reader.now.norms.now s₀.args.doc q.3 s₀.args.reader.now.inverses.now a.result p.2 d.l d.w d.s _ _ f

pub returns-in-None : goal.returns-in-None
returns-in-None c = let s₀ = c in
    let a = c.score_node_at-n in
    λ n positions ranges places depth ix S sc L g m o.
    let d = leaf-at ix ranges s₀.args.reader.now.inverses.now places depth s₀.args.doc s₀.args.states.now a.result a.ensures S sc g m o (constant-none a.result c.in-None.ensures) (no-boolean _ s₀.requires.0) in
    let f = term-counted ix n s₀.args.reader.now.postings.now positions s₀.args.reader.now.norms.now s₀.args.doc L s₀.args.reader.now.inverses.now a.result ranges places d.w d.s d.v s₀.args.states.now d.is (read s₀.args.states.now d.v d.s a.result d.is a.ensures) c.term_frequency-frequency.result c.term_frequency-frequency.ensures d.l d.asks s₀.requires.0 in
    d.done c.weighted.result s₀.args.states.now (counted-done ix n s₀.args.reader.now.postings.now positions s₀.args.reader.now.norms.now s₀.args.doc L s₀.args.reader.now.inverses.now a.result ranges d.l d.w d.s _ _ f c.weighted.ensures.bytes c.weighted.result c.weighted.ensures.score)
