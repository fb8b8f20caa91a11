-- A phrase, asked for a window: its terms, its frequency at a place, its planes. Assumes nothing: these are
-- definitions.
use Rattle.std.specs.Prelude.{◌≡◌, true, false, cond, ◌&&◌, ◌||◌, List, ℕ, ◌+◌, ◌*◌, ◌/◌, ◌%◌, ◌≤◌, ◌<◌, eqb, min, length, get_or, set}
use Rattle.meaning.specs.Below.{count_below}
use Rattle.meaning.specs.Limits.{no_more_docs, node_state_words}
use Rattle.meaning.specs.Lent.{Index}
use Rattle.meaning.specs.Phrase.{PhraseTerm, phrase_frequency}
use Rattle.index.specs.Accepted.{Accepted}
use Rattle.tree_weight.specs.ScorerTree.{phrase}
use Rattle.tree_weight.specs.Sound.{LeafSound}
use Rattle.tree_weight.specs.declared.layout.TheConstants.{WINDOW_LOW, WINDOW_HIGH, ONES_LOW, ONES_HIGH, TWOS_LOW, TWOS_HIGH}
use Rattle.scorer_leaf.specs.Phrases.{all_found, LeavesThere}
use Rattle.bits.specs.Bit.{bit}
use Rattle.window_words.specs.Windowed.{Places, nowhere, places_of, two_words, TermsWindowed}
use Rattle.window_leaf.specs.Asks.{Answers}

-- an accepted index with these postings, and the words of a phrase's terms, not asked yet of the window at base
pub record TermsBitsHeld (postings : List ℕ) (ix : Index) (ts : List PhraseTerm) (terms : List ℕ) (base : ℕ) : Type 0 where
  pub accepted : Accepted ix
  pub postings-are : ix.postings ≡ postings
  pub there : LeavesThere ix ts
  pub held : TermsWindowed ix ts terms base base nowhere

abbrev pub TermsBitsPre : List ℕ → List ℕ → ℕ → Type 0
TermsBitsPre postings terms base =
    (base + 64 ≤ no_more_docs) × ((ix : Index) × (ts : List PhraseTerm) × TermsBitsHeld postings ix ts terms base)

-- the wanted documents that all terms have; where some are left, each term was asked
abbrev pub TermsPost : List ℕ → List ℕ → ℕ → ℕ → ℕ → ℕ → List ℕ → Type 0
TermsPost postings terms base want r next terms' =
    (ix : Index) (ts : List PhraseTerm) → TermsBitsHeld postings ix ts terms base
    → Answers (all_found ix ts) base (places_of want) r next
    × TermsWindowed ix ts terms' (base + 64) base (places_of r)

-- the terms were asked of the window at base, and all have its documents at the places D
pub record TermsAsked (postings : List ℕ) (ix : Index) (ts : List PhraseTerm) (base : ℕ) (D : Places)
    (terms : List ℕ) : Type 0 where
  pub accepted : Accepted ix
  pub postings-are : ix.postings ≡ postings
  pub there : LeavesThere ix ts
  pub bound : ℕ
  pub held : TermsWindowed ix ts terms bound base D
  pub all : (p : ℕ) → p < 64 → D p ≡ true → all_found ix ts (base + p) ≡ true

-- how many documents of a term's window stand before a place: its record begins at a place of the words
abbrev pub rank_at : List ℕ → ℕ → ℕ → ℕ
rank_at terms at place =
    count_below place (λ q. bit q (two_words (get_or terms (at + WINDOW_LOW) 0)
    (get_or terms (at + WINDOW_HIGH) 0)))

-- .. and that record is there
pub record PostingPre (terms : List ℕ) (at place : ℕ) : Type 0 where
  pub below : place < 64
  pub fits : at + node_state_words ≤ length terms

-- the terms of a sound phrase
pub record PhraseAsked (postings positions : List ℕ) (ix : Index) (places f : ℕ) (ts : List PhraseTerm)
    (base : ℕ) (D : Places) (terms : List ℕ) : Type 0 where
  pub asked : TermsAsked postings ix ts base D terms
  pub positions-are : ix.positions ≡ positions
  pub sound : LeafSound ix places (phrase f ts)

abbrev pub FrequencyAtPre : List ℕ → List ℕ → List ℕ → ℕ → ℕ → ℕ → ℕ → Type 0
FrequencyAtPre postings positions terms starts other_starts base place =
    (place < 64) × ((ix : Index) × (places : ℕ) × (f : ℕ) × (ts : List PhraseTerm) × (D : Places)
    × (places ≤ starts) × (places ≤ other_starts) × (D place ≡ true)
    × PhraseAsked postings positions ix places f ts base D terms)

abbrev pub FrequencyAtPost : List ℕ → List ℕ → List ℕ → ℕ → ℕ → ℕ → Type 0
FrequencyAtPost postings positions terms base place r =
    (ix : Index) (places f : ℕ) (ts : List PhraseTerm) (D : Places) → D place ≡ true
    → PhraseAsked postings positions ix places f ts base D terms → r ≡ phrase_frequency ix ts (base + place)

-- one more frequency in the planes: the two digits of it, up to 3, at the place
pub record Noted (ones twos place frequency ones' twos' : ℕ) : Type 0 where
  pub ones-are : (q : ℕ) → bit q ones' ≡ bit q ones || eqb q place && bit 0 (min 3 frequency)
  pub twos-are : (q : ℕ) → bit q twos' ≡ bit q twos || eqb q place && bit 1 (min 3 frequency)

-- the planes of a window: the lower digits of the frequencies at the candidates, up to 3, and nothing elsewhere
pub record PlanesAre (ix : Index) (ts : List PhraseTerm) (base candidates ones twos : ℕ) : Type 0 where
  pub there : (p : ℕ) → p < 64 → bit p candidates ≡ true
      → cond (bit p ones) 1 0 + 2 * cond (bit p twos) 1 0 ≡ min 3 (phrase_frequency ix ts (base + p))
  pub no-ones : (p : ℕ) → p < 64 → bit p candidates ≡ false → bit p ones ≡ false
  pub no-twos : (p : ℕ) → p < 64 → bit p candidates ≡ false → bit p twos ≡ false

abbrev pub PlanesPre : List ℕ → List ℕ → List ℕ → ℕ → ℕ → ℕ → ℕ → Type 0
PlanesPre postings positions terms starts other_starts base candidates =
    (ix : Index) × (places : ℕ) × (f : ℕ) × (ts : List PhraseTerm) × (places ≤ starts)
    × (places ≤ other_starts)
    × PhraseAsked postings positions ix places f ts base (places_of candidates) terms

abbrev pub PlanesPost : List ℕ → List ℕ → List ℕ → ℕ → ℕ → ℕ → ℕ → Type 0
PlanesPost postings positions terms base candidates ones twos =
    (ix : Index) (places f : ℕ) (ts : List PhraseTerm)
    → PhraseAsked postings positions ix places f ts base (places_of candidates) terms
    → PlanesAre ix ts base candidates ones twos

-- the planes in a phrase's record
pub record PlanesRead (states : List ℕ) (ones twos : ℕ) : Type 0 where
  pub ones-are : ones ≡ two_words (get_or states ONES_LOW 0) (get_or states ONES_HIGH 0)
  pub twos-are : twos ≡ two_words (get_or states TWOS_LOW 0) (get_or states TWOS_HIGH 0)

-- what storing them leaves
abbrev pub PlanesPut : List ℕ → ℕ → ℕ → List ℕ → Type 0
PlanesPut states ones twos states' =
    states' ≡ set (set (set (set states ONES_LOW (ones % 4294967296)) ONES_HIGH (ones / 4294967296))
    TWOS_LOW (twos % 4294967296)) TWOS_HIGH (twos / 4294967296)
