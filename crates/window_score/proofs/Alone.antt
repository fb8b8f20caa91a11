-- A sum that began at 0 is the score itself, and narrowing it changes nothing. Assumes nothing.
use Rattle.std.proofs.Common.{◌≡◌, ap, ◌∙◌, ℕ, ◌*◌, ◌^◌, ◌≤◌}
use Rattle.std.specs.Prelude.{Float}
use Rattle.std.specs.Float.{binary64}
use Rattle.std.specs.Float.Ieee.{add}
use Rattle.meaning.specs.Lent.{Index}
use Rattle.meaning.specs.Ieee754.{zero_float, narrow}
use Rattle.ieee754.specs.Nonneg.{AtMost}
use Rattle.index.specs.Accepted.{Accepted}
use Rattle.tree_weight.specs.ScorerTree.{Scorer, scorer_score}
use Rattle.tree_weight.specs.Sound.{Sound, nodes}
use Rattle.tree_weight.proofs.Weights.{Weighted}
use Rattle.score.proofs.Alone.{narrow-alone}
use Rattle.score.proofs.Small.{score-small, score-fits}

module _ (ix : Index) (A : Accepted ix) (places : ℕ) (s : Scorer) (w : Weighted s) (h : Sound ix places s) (few : nodes s ≤ 256) (d : ℕ) where
  pub small : AtMost (nodes s * 2 ^ 29) (scorer_score ix s d)
  small = score-small ix A places d s w h few

  pub sum-narrowed : (zero : Float) → zero ≡ zero_float → (x : Float) → x ≡ add binary64 zero (scorer_score ix s d) → narrow x ≡ scorer_score ix s d
  sum-narrowed zero e x f =
      ap narrow (f ∙ ap (λ (z : Float). add binary64 z (scorer_score ix s d)) e) ∙ narrow-alone (scorer_score ix s d) (score-fits ix s d w) small.sign
