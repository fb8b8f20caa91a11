-- The loop over windows of 64 documents, from any scorer tree to the collector. Assumes nothing: these are definitions.
use Rattle.std.specs.Prelude.{◌≡◌, true, ◌&&◌, List, map, ℕ, ◌+◌, ◌%◌, ◌≤◌, ◌<◌, max, ltb, T, length, get_or, ℤ, Float}
use Rattle.std.specs.Float.{nan}
use Rattle.meaning.specs.Limits.{no_more_docs}
use Rattle.meaning.specs.Lent.{Index}
use Rattle.meaning.specs.Live.{is_live}
use Rattle.meaning.specs.FullList.{ScoreDoc}
use Rattle.meaning.specs.Ieee754.{zero_float, narrow}
use Rattle.ieee754.specs.Nonneg.{sign_clear}
use Rattle.bits.specs.Bit.{bit, set_bits}
use Rattle.collector.specs.declared.TopScoreDocCollector.{TopScoreDocCollector}
use Rattle.collector.specs.Collected.{CollectorReady}
use Rattle.index.specs.Slices.{live_only}
use Rattle.tree_weight.specs.ScorerTree.{Scorer, scorer_score}
use Rattle.bulk_scorer.specs.Collects.{Continued}
use Rattle.window_words.specs.Windowed.{nowhere, Windowed}
use Rattle.window_score.specs.Sums.{At}
use Rattle.window_score.specs.Asked.{Reads, WindowLent, NodeAsked}

-- the live word of a window
abbrev pub LiveWord : List ℕ → ℕ → ℕ → Type 0
LiveWord live base w = (p : ℕ) → p < 64 → bit p w ≡ is_live (live_only live) (base + p)

-- the live documents of a window, of so many in all
abbrev pub LiveBits : List ℕ → ℕ → ℕ → ℕ → Type 0
LiveBits live base max_doc w =
    (p : ℕ) → p < 64 → bit p w ≡ (ltb (base + p) max_doc && is_live (live_only live) (base + p))

-- where the next window begins, whose documents are those from r on: none before `next` and after this window is left
-- out but those that are rounded down to
pub record NextWindow (base next r : ℕ) : Type 0 where
  pub whole : r % 64 ≡ 0
  pub after : base + 64 ≤ r
  pub reached : r ≤ max (base + 64) next

-- the documents at the set places, from 0, each with its score
abbrev pub placed : (ℕ → Float) → ℕ → List ScoreDoc
placed score places = map (λ p. record { doc = p; score = score p }) (set_bits places)

-- all set places are below n
abbrev pub PlacesBelow : ℕ → ℕ → Type 0
PlacesBelow n places = (p : ℕ) → p < 64 → bit p places ≡ true → p < n

-- the sums of a window, of which those at the set places are scores
abbrev pub PlacesPre : ℕ → ℕ → List Float → TopScoreDocCollector → List ℤ → Type 0
PlacesPre first places sums c heap =
    (first < no_more_docs) × (length sums ≡ 64) × CollectorReady first c heap
    × ((p : ℕ) → p < 64 → bit p places ≡ true → (first + p < no_more_docs)
    × T (sign_clear (narrow (get_or sums p nan))))

abbrev pub PlacesPost : ℕ → ℕ → List Float → TopScoreDocCollector → List ℤ → TopScoreDocCollector → List ℤ → Type 0
PlacesPost first places sums c heap c' heap' =
    (n : ℕ) → PlacesBelow n places → Continued first n (placed (λ p. narrow (get_or sums p nan)) places) c heap c' heap'

-- the sums at the places are 0, and the others stay
pub record Cleared (places : ℕ) (sums sums' : List Float) : Type 0 where
  pub long : length sums' ≡ 64
  pub at : At (λ p x. zero_float) places sums sums'

-- a tree that was asked of the window and takes the documents at the places, before the collector
abbrev pub WindowPre : List ℕ → Reads → ℕ → ℕ → ℕ → ℕ → ℕ → TopScoreDocCollector → List ℤ → Type 0
WindowPre states V starts other_starts places depth doc_base c heap =
    (doc_base + V.base < no_more_docs)
    × ((p : ℕ) → p < 64 → bit p places ≡ true → doc_base + V.base + p < no_more_docs)
    × CollectorReady (doc_base + V.base) c heap
    × ((n : ℕ) × (ix : Index) × (rooms : ℕ) × (s : Scorer) × (scores : ℕ)
    × WindowLent ix n V rooms starts other_starts places
    × NodeAsked ix V rooms s depth scores states places 0)

-- its scores are collected, and its words can be asked of the next window
abbrev pub WindowPost : List ℕ → Reads → ℕ → ℕ → ℕ → ℕ → ℕ → TopScoreDocCollector → List ℤ
    → TopScoreDocCollector → List ℤ → List ℕ → Type 0
WindowPost states V starts other_starts places depth doc_base c heap c' heap' states' =
    (n : ℕ) (ix : Index) (rooms : ℕ) (s : Scorer) (scores : ℕ)
    → WindowLent ix n V rooms starts other_starts places → NodeAsked ix V rooms s depth scores states places 0
    → ((m : ℕ) → PlacesBelow m places
    → Continued (doc_base + V.base) m (placed (λ p. scorer_score ix s (V.base + p)) places) c heap c' heap')
    × Windowed ix V.ranges s depth scores states' (V.base + 64) (V.base + 64) nowhere
