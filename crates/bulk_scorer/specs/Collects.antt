-- What a bulk scorer asks and gives: the live documents that a scorer tree matches go to a collector, which comes in
-- and goes out, numbered on from a document base.
-- Assumes nothing: these are definitions.
use Rattle.std.specs.Prelude.{◌≡◌, List, ◌++◌, map, ℕ, ◌+◌, ◌≤◌, ℤ, Float}
use Rattle.meaning.specs.Limits.{no_more_docs}
use Rattle.meaning.specs.Lent.{Index}
use Rattle.meaning.specs.FullList.{ScoreDoc}
use Rattle.collector.specs.declared.TopScoreDocCollector.{TopScoreDocCollector}
use Rattle.collector.specs.Collected.{Collected, CollectorReady}
use Rattle.tree_weight.specs.ScorerTree.{Scorer}
use Rattle.tree_weight.specs.Held.{Ok}
use Rattle.tree_weight.specs.Sound.{Lends}
use Rattle.scorer_leaf.specs.Calls.{Lists}
use Rattle.score_leaf.specs.Asked.{Scorable}
use Rattle.walk.specs.Walks.{live_scored}
use Rattle.window_words.specs.Windowed.{nowhere, Windowed}

-- a tree that is not asked yet and whose scores can be worked out, with these norms and live words
pub record RootHeld (E : Lists) (norms live : List ℕ) (table : List Float) (ix : Index) (places : ℕ)
    (s : Scorer) (depth scores : ℕ) (states : List ℕ) : Type 0 where
  pub lends : Lends ix E.documents E.postings E.positions
  pub norms-are : ix.norms ≡ norms
  pub live-are : ix.live ≡ live
  pub scorable : Scorable ix table places s
  pub held : Windowed ix E.ranges s depth scores states 0 0 nowhere

-- a document numbered on from a base
abbrev pub numbered : ℕ → ScoreDoc → ScoreDoc
numbered doc_base h = record { doc = doc_base + h.doc; score = h.score }

-- whatever list was collected, of documents below the base, these are now collected after it
pub record Continued (doc_base n : ℕ) (list : List ScoreDoc) (c : TopScoreDocCollector) (heap : List ℤ)
    (c' : TopScoreDocCollector) (heap' : List ℤ) : Type 0 where
  pub continued : (k t b : ℕ) (xs : List ScoreDoc) (start : List ℤ) → b ≤ doc_base
      → Collected k t b xs start c heap
      → Collected k t (doc_base + n) (xs ++ map (numbered doc_base) list) start c' heap'

-- some index and tree that the words hold, and a collector whose documents are below the base
abbrev pub CollectPre : Lists → List ℕ → List ℕ → List Float → ℕ → List ℕ → ℕ → ℕ → TopScoreDocCollector
    → List ℤ → Type 0
CollectPre E norms live table places states depth doc_base c heap =
    (doc_base + E.documents ≤ no_more_docs) × CollectorReady doc_base c heap
    × ((ix : Index) × (s : Scorer) × (scores : ℕ)
    × RootHeld E norms live table ix places s depth scores states)

-- for each of them, the live documents that the tree matches are collected
abbrev pub CollectPost : Lists → List ℕ → List ℕ → List Float → ℕ → List ℕ → ℕ → ℕ → TopScoreDocCollector
    → List ℤ → TopScoreDocCollector → List ℤ → Type 0
CollectPost E norms live table places states depth doc_base c heap c' heap' =
    (ix : Index) (s : Scorer) (scores : ℕ) → RootHeld E norms live table ix places s depth scores states
    → Continued doc_base E.documents (live_scored ix s) c heap c' heap'

-- for each of them, the words still hold the tree, asked for every document
abbrev pub CollectEnd : Lists → List ℕ → List ℕ → List Float → ℕ → List ℕ → ℕ → List ℕ → Type 0
CollectEnd E norms live table places states depth states' =
    (ix : Index) (s : Scorer) (scores : ℕ) → RootHeld E norms live table ix places s depth scores states
    → Ok ix E.ranges s depth scores states' no_more_docs
