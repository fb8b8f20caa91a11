-- A root that is not asked yet can be walked from the first document on. Assumes nothing.
use Rattle.std.proofs.Common.{List, ℕ, ◌≤◌, length, arith}
use Rattle.std.specs.Prelude.{Float}
use Rattle.meaning.specs.Limits.{no_more_docs, node_state_words}
use Rattle.meaning.specs.Lent.{Index}
use Rattle.tree_weight.specs.ScorerTree.{Scorer}
use Rattle.tree_weight.specs.Held.{Ok}
use Rattle.scorer_leaf.specs.Calls.{Lists}
use Rattle.scorer_leaf.proofs.Bounds.{ok-mono}
use Rattle.walk.specs.Walks.{PageHeld}
use Rattle.window_words.specs.Windowed.{nowhere}
use Rattle.window_words.proofs.Laws.{windowed-long, windowed-ok}
use Rattle.bulk_scorer.specs.Collects.{RootHeld}

module _ (E : Lists) (norms live : List ℕ) (table : List Float) (ix : Index) (places : ℕ) (s : Scorer) (depth scores : ℕ) (states : List ℕ) (H : RootHeld E norms live table ix places s depth scores states) where
  pub root-page : PageHeld E norms live table ix places s depth scores states 0
  root-page = record { lends = H.lends; norms-are = H.norms-are; live-are = H.live-are; scorable = H.scorable; ok = windowed-ok ix E.ranges s depth scores states 0 0 nowhere (omega arith) H.held }

  -- words that stay hold the tree, asked for every document
  pub root-end : Ok ix E.ranges s depth scores states no_more_docs
  root-end = ok-mono ix E.ranges s depth scores states 0 no_more_docs (omega arith) root-page.ok

  pub root-words : node_state_words ≤ length states
  root-words = windowed-long ix E.ranges s depth scores states 0 0 nowhere H.held
