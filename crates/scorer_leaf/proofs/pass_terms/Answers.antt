-- Each term is advanced in turn to where the last one stands; no document that is skipped has all of them.
use Rattle.scorer_leaf.proofs.PhraseLaws.{TermsZip, terms-end, terms-next, terms-took}
use Rattle.scorer_leaf.proofs.Loops.{back-length}
use Rattle.meaning.specs.Limits.{node_state_words}
use lib.ListN.{take, drop}
use Rattle.meaning.specs.Phrase.{PhraseTerm}
use Rattle.meaning.specs.Lent.{Index}
use Rattle.scorer_leaf.specs.Phrases.{TermsHeld}
use native.Mathlib.Omega.{arith}
use mathlib.Core.List.{List, ◌++◌}
use mathlib.Core.Bool.{Bool, false, false≢true}
use mathlib.Core.Logic.{inl, inr}
use mathlib.Core.Path.{◌≡◌, refl, sym, subst, ◌∙◌}
use lib.Dec.{eqb}
use Rattle.std.proofs.Common.{eqb-true}
use Prim.Native.Nat.{ℕ, zero, suc, ◌+◌, ◌-◌, ◌<◌}
use Rattle.scorer_leaf.proofs.pass_terms.Goals as goal
use Rattle.scorer_leaf.proofs.pass_terms.Goals.{After-search-e, then-e-d, else-e-d}

-- a term that is not the first moved it
some_moved : (last : ℕ) → eqb last 0 ≡ false → 0 < last
some_moved zero e = absurd (false≢true (sym e))
some_moved (suc m) e = omega arith

pub slice_bounds-search-end : goal.slice_bounds-search-end
slice_bounds-search-end c =
    let P = c.requires.1 in
    let l = c.loop-at in
    let n = terms-next (l.invariant.1.2 P.0 P.1 P.2) (omega arith) (l.at + node_state_words) refl in
    omega (arith, n.0, l.invariant.0, c.well_formed)

pub search-e-requires : goal.search-e-requires
search-e-requires c =
    let P = c.requires.1 in
    let l = c.loop-at in
    (terms-next (l.invariant.1.2 P.0 P.1 P.2) (omega arith) (l.at + node_state_words) refl).1

-- one term more: where the pass stands, and whether all stand there
abbrev Passed : After-search-e → ℕ → Bool → Type 0
Passed c d hit =
    let l = c.loop-at in
    (last : ℕ) × (hit ≡ eqb last 0) × ((ix : Index) (ts : List PhraseTerm) → TermsHeld c.args.postings.now ix ts c.args.terms.now c.args.target → TermsZip c.args.postings.now ix ts c.args.target (take l.at l.terms ++ (c.search-e.new.states ++ drop (l.at + node_state_words - l.at) (drop l.at l.terms))) d last (l.at + node_state_words))

stays : (c : After-search-e) → c.search-e.result ≡ c.loop-at.d → Passed c c.loop-at.d c.loop-at.hit
stays c e =
    let l = c.loop-at in
    let g = c.search-e in
    let v = l.invariant.1 in
    (v.0, v.1, λ ix ts h. subst (λ (y : ℕ). TermsZip c.args.postings.now ix ts c.args.target (take l.at l.terms ++ (g.new.states ++ drop (l.at + node_state_words - l.at) (drop l.at l.terms))) y v.0 (l.at + node_state_words)) e (terms-took (v.2 ix ts h) (omega arith) (l.at + node_state_words) refl g.result v.0 (inl (refl, e)) g.new.states g.auto.states g.ensures))

moves : (c : After-search-e) → (c.search-e.result ≡ c.loop-at.d → ⊥) → Passed c c.search-e.result (eqb c.loop-at.at 0)
moves c e =
    let l = c.loop-at in
    let g = c.search-e in
    (l.at, refl, λ ix ts h. terms-took (l.invariant.1.2 ix ts h) (omega arith) (l.at + node_state_words) refl g.result l.at (inr (refl, e)) g.new.states g.auto.states g.ensures)

pub loop-at-preserved : goal.loop-at-preserved
loop-at-preserved c =
    let l = c.loop-at in
    let g = c.search-e in
    let p = (goal.at.loop-at-preserved c).After-search-e in
    let q : Passed p c.if-e-d.d c.if-e-d.hit = elim c.if-e-d.branch [ then-e-d w ↦ rw (w.d-is, w.hit-is) (moves p w.if-e-d.true) | else-e-d w ↦ rw (w.d-is, w.hit-is) (stays p w.if-e-d.false) ] in
    (back-length l.terms g.new.states l.at (l.at + node_state_words) g.auto.states ∙ l.invariant.0, q)

-- the last one
pub returns-after-e-d : goal.returns-after-e-d
returns-after-e-d c =
    let l = c.loop-at in
    let g = c.search-e in
    let p = (goal.at.returns-after-e-d c).After-search-e in
    let q : Passed p c.if-e-d.d c.if-e-d.hit = elim c.if-e-d.branch [ then-e-d w ↦ rw (w.d-is, w.hit-is) (moves p w.if-e-d.true) | else-e-d w ↦ rw (w.d-is, w.hit-is) (stays p w.if-e-d.false) ] in
    λ ix ts h. terms-end {last = q.0} (q.2 ix ts h) (omega (arith, back-length l.terms g.new.states l.at (l.at + node_state_words) g.auto.states)) c.if-e-d.hit (λ e. eqb-true q.0 0 (sym q.1 ∙ e)) (λ e. some_moved q.0 (sym q.1 ∙ e))

pub returns : goal.returns
returns c = let l = c.loop-at in λ ix ts h. terms-end (l.invariant.1.2 ix ts h) (omega (arith, l.invariant.0)) l.hit (λ e. eqb-true l.invariant.1.0 0 (sym l.invariant.1.1 ∙ e)) (λ e. some_moved l.invariant.1.0 (sym l.invariant.1.1 ∙ e))
