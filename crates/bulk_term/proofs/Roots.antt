-- What the words of any root say. Assumes nothing.
use mathlib.Core.Path.{◌≡◌, sym, subst, ◌∙◌}
use mathlib.Core.List.{List}
use Prim.Native.Nat.{ℕ}
use lib.IntN.{ℤ}
use Rattle.collector.specs.declared.TopScoreDocCollector.{TopScoreDocCollector}
use Rattle.tree_weight.specs.ScorerTree.{Scoring, constant, weighted}
use Rattle.tree_weight.specs.State.{State}
use Rattle.tree_weight.specs.Held.{ScoringIs, FloatIs}
use Rattle.score_leaf.specs.declared.ScoreNode.{ScoreNode}
use Rattle.bulk_term.specs.Postings.{NodeScores}

-- its scoring, as it is read
pub node-scores : (sc : Scoring) (s : State) (n : ScoreNode) → n.constant ≡ s.constant → n.weight ≡ s.weight → ScoringIs sc s → NodeScores sc n
unfolding ScoringIs NodeScores
node-scores (constant c) s n e f p = (e ∙ p.0, subst (λ (i : ℕ). FloatIs c i) (sym f) p.1)
node-scores (weighted w) s n e f p = (e ∙ p.0, subst (λ (i : ℕ). FloatIs w i) (sym f) p.1)

-- where the two ways of a branch in a loop meet
pub joined : (P : TopScoreDocCollector → List ℤ → Type 0) (c c' : TopScoreDocCollector) (heap heap' : List ℤ) → heap ≡ heap' → c ≡ c' → P c' heap' → P c heap
joined P c c' heap heap' e f p = subst (λ (h : List ℤ). P c h) (sym e) (subst (λ (k : TopScoreDocCollector). P k heap') (sym f) p)
