-- The state of a collector, and what it has to hold after a list was collected. Assumes nothing: these are definitions.
use Rattle.std.specs.Prelude.{◌≡◌, cond, List, [], ◌∷◌, ◌++◌, ℕ, ◌+◌, ◌^◌, ◌<◌, ◌≤◌, min, T, length, take, drop, ℤ}
use Rattle.std.specs.Float.Ieee.{fits}
use Rattle.std.specs.Float.{binary32}
use Rattle.meaning.specs.FullList.{ScoreDoc}
use Rattle.meaning.specs.Hits.{descending, hits, mark}
use Rattle.meaning.specs.Entries.{written}
use Rattle.ieee754.specs.Nonneg.{sign_clear}
use Rattle.collector.specs.declared.TopScoreDocCollector.{TopScoreDocCollector}
use Rattle.collector.specs.declared.TopDocs.{TopDocs}
use Rattle.collector.specs.Heap.{MinHeap}
use Rattle.collector.specs.State.{top_score, competitive}

-- a document below b, with an f32 score that is no NaN's and has a clear sign: plus infinity too, minus zero not
pub record ScoredHit (b : ℕ) (h : ScoreDoc) : Type 0 where
  pub below : h.doc < b
  pub fits : T (fits binary32 h.score)
  pub clear : T (sign_clear h.score)

-- each of a list is such a document
abbrev pub AllScored : ℕ → List ScoreDoc → Type 0
AllScored b [] = Unit
AllScored b (h ∷ hs) = ScoredHit b h × AllScored b hs

-- a list whose documents are below b, and that is no longer than b, as one with rising documents is
pub record Listed (b : ℕ) (list : List ScoreDoc) : Type 0 where
  pub few : length list ≤ b
  pub each : AllScored b list

-- c and a heap of k places that held `start` are what collecting `list` with threshold t gives:
-- the first places hold the list's hits as a min-heap, and the others what they held
pub record Collected (k t b : ℕ) (list : List ScoreDoc) (start : List ℤ) (c : TopScoreDocCollector)
    (heap : List ℤ) : Type 0 where
  pub some : 0 < k
  pub most : k < 2 ^ 32
  pub places : length heap ≡ k
  pub listed : Listed b list
  pub total : c.total_hits ≡ length list
  pub threshold : c.total_hits_threshold ≡ t
  pub held : c.held ≡ min k (length list)
  pub best : descending (take c.held heap) ≡ hits k list
  pub heaped : MinHeap (take c.held heap)
  pub rest : drop c.held heap ≡ drop c.held start
  pub top : c.top_score ≡ top_score c.held heap
  pub least : c.min_competitive_score ≡ competitive (mark k t (length list)) c.top_score
  pub marked : c.hits_lower_bound ≡ mark k t (length list)

-- some list was collected, whose documents are below `doc`
pub record CollectorReady (doc : ℕ) (c : TopScoreDocCollector) (heap : List ℤ) : Type 0 where
  pub t : ℕ
  pub b : ℕ
  pub list : List ScoreDoc
  pub start : List ℤ
  pub before : b ≤ doc
  pub collected : Collected (length heap) t b list start c heap

-- whatever list was collected, h is now collected after it
pub record Extended (h : ScoreDoc) (c : TopScoreDocCollector) (heap : List ℤ) (c' : TopScoreDocCollector)
    (heap' : List ℤ) : Type 0 where
  pub extended : (k t b : ℕ) (list : List ScoreDoc) (start : List ℤ) → b ≤ h.doc
      → Collected k t b list start c heap → Collected k t (h.doc + 1) (list ++ (h ∷ [])) start c' heap'

-- the hits held, the count and the mark of a list
abbrev pub top_docs_of : ℕ → ℕ → List ScoreDoc → TopDocs
top_docs_of k t list = record { held = length (hits k list); count = length list; mark = mark k t (length list) }

-- whatever list was collected, the answer is its answer and the heap holds its hits, and then what was there
pub record Drawn (c : TopScoreDocCollector) (heap : List ℤ) (r : TopDocs) (heap' : List ℤ) : Type 0 where
  pub drawn : (k t b : ℕ) (list : List ScoreDoc) (start : List ℤ) → Collected k t b list start c heap
      → (r ≡ top_docs_of k t list) × (heap' ≡ written (hits k list) start)

-- an answer's numbers, as document 01 has them: 0, the hits held, the count, and 1 for the mark
abbrev pub numbers : TopDocs → List ℕ
numbers r = 0 ∷ r.held ∷ r.count ∷ cond r.mark 1 0 ∷ []
