-- What a walk over an order's tree is lent. Assumes nothing: these are definitions.
use Rattle.std.specs.Prelude.{◌≡◌, List, ℕ, ◌++◌, ◌≤◌, ◌<◌, length, min, take, drop, get_or, ℤ, Float}
use Rattle.meaning.specs.Limits.{max_depth}
use Rattle.index.specs.declared.lent.Lent.{Lent}
use Rattle.collector.specs.declared.TopScoreDocCollector.{TopScoreDocCollector}
use Rattle.scorer.specs.Calls.{lists_of}
use Rattle.walk.specs.declared.Listed.{Listed}
use Rattle.walk.specs.Walks.{ListPre, ListPost}
use Rattle.bulk_scorer.specs.Collects.{CollectPre, CollectPost, CollectEnd}
use Rattle.searcher.specs.declared.buffers.Buffers.{Buffers}
use Rattle.searcher.specs.WorkBuffers.{SameWorkBuffers}
use Rattle.tree_weight.specs.declared.layout.TheConstants.{SIZE}
use Rattle.scorer_leaf.specs.declared.LeafReader.{LeafReader}
use Rattle.scorer_leaf.specs.declared.PhraseBuffers.{PhraseBuffers}
use Rattle.scorer_leaf.specs.Buffers.{places_in}

-- a reader of the index with the inverses and the ranges of an order
pub record ReadsIndex (l : Lent) (inverses : List Float) (ranges : List ℕ) (r : LeafReader) : Type 0 where
  pub documents : r.max_doc ≡ l.max_doc
  pub postings_are : r.postings.now ≡ l.postings.now
  pub positions_are : r.positions.now ≡ l.positions.now
  pub norms_are : r.norms.now ≡ l.norms.now
  pub inverses_are : r.inverses.now ≡ inverses
  pub ranges_are : r.ranges.now ≡ ranges
  pub live_are : r.live.now ≡ l.live.now

-- the words of the tree, such a reader, and phrase buffers of so many places
pub record WalkLent (l : Lent) (inverses : List Float) (ranges : List ℕ) (places : ℕ) (words tree : List ℕ)
    (r : LeafReader) (b : PhraseBuffers) : Type 0 where
  pub words_are : tree ≡ words
  pub reads : ReadsIndex l inverses ranges r
  pub places_are : places_in b ≡ places

-- ---- the same of the work buffers of a call
-- how many words the tree takes, as its second word says
abbrev pub size_in : Buffers ℕ → ℕ
size_in b = get_or b.states.now SIZE 0

-- there is room for so many
pub record TreeFits (b : Buffers ℕ) : Type 0 where
  pub some : SIZE < length b.states.now
  pub within : size_in b ≤ length b.states.now

abbrev pub PartsLent : Lent → List Float → Buffers ℕ → List ℕ → LeafReader → PhraseBuffers → Type 0
PartsLent l inverses b tree r phrases =
    WalkLent l inverses b.ranges.now (min (length b.starts.now) (length b.other_starts.now))
    (take (size_in b) b.states.now) tree r phrases

-- after a walk that left these words of the tree
pub record Walked (b b' : Buffers ℕ) (tree' : List ℕ) : Type 0 where
  pub states_after : b'.states.now ≡ tree' ++ drop (size_in b) b.states.now
  pub ranges_stay : b'.ranges.now ≡ b.ranges.now
  pub same_buffers : SameWorkBuffers b b'

-- ---- the two walks
-- what a bulk scorer asks of these, for one index
abbrev pub CollectAsks : LeafReader → PhraseBuffers → List ℕ → TopScoreDocCollector → List ℤ → Type 0
CollectAsks r b tree c heap =
    CollectPre (lists_of r) r.norms.now r.live.now r.inverses.now (places_in b) tree max_depth 0 c heap

-- what it collects, and where it leaves the tree
pub record CollectGives (r : LeafReader) (b : PhraseBuffers) (tree : List ℕ) (c : TopScoreDocCollector) (heap : List ℤ)
    (c' : TopScoreDocCollector) (heap' : List ℤ) (tree' : List ℕ) : Type 0 where
  pub post : CollectPost (lists_of r) r.norms.now r.live.now r.inverses.now (places_in b) tree max_depth 0 c heap c' heap'
  pub end : CollectEnd (lists_of r) r.norms.now r.live.now r.inverses.now (places_in b) tree max_depth tree'

-- what the walk of a page asks, and what it lists
abbrev pub ListAsks : LeafReader → PhraseBuffers → List ℕ → ℕ → List ℕ → List ℕ → Type 0
ListAsks r b tree from docs bits =
    ListPre (lists_of r) r.norms.now r.live.now r.inverses.now (places_in b) tree from max_depth docs bits

pub record ListGives (r : LeafReader) (b : PhraseBuffers) (tree : List ℕ) (from : ℕ) (docs bits : List ℕ) (x : Listed)
    (tree' docs' bits' : List ℕ) : Type 0 where
  pub post : ListPost (lists_of r) r.norms.now r.live.now r.inverses.now (places_in b) tree from max_depth docs bits
      x tree' docs' bits'
