-- A node with a constant gives it to each posting; another weighs the posting's frequency by its document's norm byte.
use mathlib.Core.Path.{◌≡◌, sym, subst}
use Prim.Native.Nat.{◌^◌}
use lib.Ieee.{Float}
use Rattle.ieee754.specs.Nonneg.{AtMost}
use Rattle.tree_weight.specs.ScorerTree.{term, leaf_score}
use Rattle.score_leaf.proofs.Constants.{constant-some, constant-none}
use Rattle.bulk_term.proofs.PostingScores.{posting-constant, posting-weighs, posting-weighted}
use Rattle.bulk_term.proofs.posting.posting_score.Goals as goal

pub constant_score-requires : goal.constant_score-requires
constant_score-requires c = λ e. let s = c in
    let a = s.args in
    (posting-constant a.norms.now a.inverses.now a.n a.frequency a.doc s.requires.0 s.requires.1 s.requires.2 s.requires.3 e).0

pub returns-in-Some : goal.returns-in-Some
returns-in-Some c = let a = c.args in
    let k = constant-some a.n c.in-Some.score c.in-Some.ensures in
    λ ix l sc p. subst (λ (z : Float). (z ≡ leaf_score ix (term l) sc a.doc) × AtMost (2 ^ 29) z) (sym k.1) (posting-constant a.norms.now a.inverses.now a.n a.frequency a.doc ix l sc p k.0).1

pub weighted-requires : goal.weighted-requires
weighted-requires c = let s = c in
    let a = s.args in
    posting-weighs a.norms.now a.inverses.now a.n a.frequency a.doc s.requires.0 s.requires.1 s.requires.2 s.requires.3 (constant-none a.n c.in-None.ensures)

pub returns-in-None : goal.returns-in-None
returns-in-None c = let a = c.args in
    λ ix l sc p. posting-weighted a.norms.now a.inverses.now a.n a.frequency a.doc ix l sc p (constant-none a.n c.in-None.ensures) c.weighted.ensures.bytes c.weighted.result c.weighted.ensures.score
