-- The scores that are collected are not negative, and the sums before a window are 0. Assumes nothing.
use Rattle.std.proofs.Common.{true, false, List, ⊎_elim, ◌≡◌, refl, sym, subst, ◌∙◌, ℕ, ◌≤◌}
use Rattle.std.specs.Prelude.{Float}
use lib.Dec.{T}
use Rattle.std.specs.Float.{nan}
use lib.ListN.{replicate, get_or-replicate}
use Rattle.bits.specs.Bit.{bit}
use Rattle.meaning.proofs.Tests.{decided}
use Rattle.meaning.specs.Lent.{Index}
use Rattle.meaning.specs.Ieee754.{zero_float}
use Rattle.ieee754.specs.Nonneg.{sign_clear}
use Rattle.index.specs.Accepted.{Accepted}
use Rattle.tree_weight.specs.ScorerTree.{Scorer, scorer_score}
use Rattle.tree_weight.specs.Sound.{Sound, nodes}
use Rattle.tree_weight.proofs.Weights.{Weighted}
use Rattle.score.proofs.Small.{score-small}
use Rattle.bulk_scorer.proofs.Sofar.{nonneg-clear}
use Rattle.window_score.specs.Sums.{Zeros, NarrowedIs}
use Rattle.bulk_window.specs.Windows.{Cleared}

pub score-clear : (ix : Index) (A : Accepted ix) (places : ℕ) (s : Scorer) (w : Weighted s) (h : Sound ix places s) (few : nodes s ≤ 256) (d : ℕ) (x : Float) → x ≡ scorer_score ix s d → T (sign_clear x)
score-clear ix A places s w h few d x e = subst (λ (z : Float). T (sign_clear z)) (sym e) (nonneg-clear (scorer_score ix s d) (score-small ix A places d s w h few).sign)

-- 64 sums that are 0
pub zeros : (zero : Float) → zero ≡ zero_float → Zeros (replicate 64 zero)
zeros zero e = record { long = refl; zero = λ p h. get_or-replicate 64 p zero nan h ∙ e }

-- and are so again once those of the window are collected
pub zeros-again : (score : ℕ → Float) (places : ℕ) (sums sums' sums'' : List Float) → Zeros sums → NarrowedIs score places sums sums' → Cleared places sums' sums'' → Zeros sums''
zeros-again score places sums sums' sums'' z n c =
    record { long = c.long; zero = λ p h. ⊎_elim (λ (e : bit p places ≡ true). c.at.wanted p h e) (λ (e : bit p places ≡ false). c.at.others p h e ∙ n.others p h e ∙ z.zero p h) (decided (bit p places)) }
