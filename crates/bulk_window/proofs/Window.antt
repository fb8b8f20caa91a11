-- The documents of a window that a tree matches, with their scores: from the sums to what is collected. Assumes nothing.
use Rattle.std.proofs.Common.{◌≡◌, ap, subst, true, List, ℕ, ◌+◌, ◌<◌, get_or, ℤ, arith}
use Rattle.std.specs.Prelude.{Float}
use Rattle.std.specs.Float.{nan}
use lib.Dec.{T}
use Rattle.meaning.specs.Lent.{Index}
use Rattle.meaning.specs.FullList.{ScoreDoc}
use Rattle.meaning.specs.Ieee754.{narrow}
use Rattle.ieee754.specs.Nonneg.{sign_clear}
use Rattle.bits.specs.Bit.{bit}
use Rattle.collector.specs.declared.TopScoreDocCollector.{TopScoreDocCollector}
use Rattle.tree_weight.specs.ScorerTree.{Scorer, scorer_score}
use Rattle.score.proofs.Small.{ok-weighted}
use Rattle.window_words.specs.Windowed.{places_of}
use Rattle.window_words.proofs.Laws.{windowed-ok, windowed-forget}
use Rattle.window_score.specs.Sums.{Zeros, NarrowedIs}
use Rattle.window_score.specs.Asked.{Reads, WindowLent, NodeAsked, RootPost}
use Rattle.bulk_scorer.specs.Collects.{Continued}
use Rattle.bulk_window.specs.Windows.{PlacesPost, Cleared, WindowPre, WindowPost}
use Rattle.bulk_window.proofs.Lists.{map-same}
use Rattle.bulk_window.proofs.Places.{places-none}
use Rattle.bulk_window.proofs.Scores.{score-clear, zeros-again}

-- a score that is collected has no sign
module _ {ix : Index} {n : ℕ} {V : Reads} {rooms starts other_starts : ℕ} {s : Scorer} {depth scores : ℕ} {states : List ℕ} {places : ℕ} (L : WindowLent ix n V rooms starts other_starts places) (N : NodeAsked ix V rooms s depth scores states places 0) where
  pub window-clear : (sums sums' : List Float) → NarrowedIs (λ p. scorer_score ix s (V.base + p)) places sums sums' → (p : ℕ) → p < 64 → bit p places ≡ true → T (sign_clear (narrow (get_or sums' p nan)))
  window-clear sums sums' r p h e =
      let W = ok-weighted ix V.ranges s depth scores states (V.base + 64) (windowed-ok ix V.ranges s depth scores states (V.base + 64) V.base (places_of places) (omega arith) N.held) in
      score-clear ix L.lends.accepted rooms s W N.scorable.sound N.scorable.few (V.base + p) (narrow (get_or sums' p nan)) (r.wanted p h e)

module _ (states : List ℕ) (V : Reads) (starts other_starts places depth doc_base : ℕ) (c : TopScoreDocCollector) (heap : List ℤ) where
  -- no document of the window is taken: nothing is collected
  pub window-none : places ≡ 0 → WindowPost states V starts other_starts places depth doc_base c heap c heap states
  window-none e =
      λ n ix rooms s scores L N. ((λ m h. places-none (doc_base + V.base) (λ p. scorer_score ix s (V.base + p)) places m c heap e), windowed-forget ix V.ranges s depth scores states (V.base + 64) V.base (places_of places) (V.base + 64) (omega arith) (omega arith) N.held)

  module _ (sums sums' : List Float) (states' : List ℕ) (root : RootPost states V starts other_starts places sums depth states' sums') where
    -- each sum, narrowed, is the score
    pub window-some : (c' : TopScoreDocCollector) (heap' : List ℤ) → PlacesPost (doc_base + V.base) places sums' c heap c' heap' → WindowPost states V starts other_starts places depth doc_base c heap c' heap' states'
    window-some c' heap' collected =
        λ n ix rooms s scores L N.
        let post = root n ix rooms s scores L N in
        let list = map-same (λ p. bit p places) (λ p. record { doc = p; score = narrow (get_or sums' p nan) }) (λ p. record { doc = p; score = scorer_score ix s (V.base + p) }) 64 (λ p h e. ap (λ (x : Float). record { doc = p; score = x }) (post.0.wanted p h e)) in
        ((λ m h. subst (λ (l : List ScoreDoc). Continued (doc_base + V.base) m l c heap c' heap') list (collected m h)), post.1)

    pub window-zeros : WindowPre states V starts other_starts places depth doc_base c heap → (sums'' : List Float) → Zeros sums → Cleared places sums' sums'' → Zeros sums''
    window-zeros W sums'' z cleared = let r = W.3 in zeros-again (λ p. scorer_score r.1 r.3 (V.base + p)) places sums sums' sums'' z (root r.0 r.1 r.2 r.3 r.4 r.5 r.6).0 cleared
