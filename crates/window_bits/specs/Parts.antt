-- The parts of some children, asked of a window, and those of a Boolean. Assumes nothing: these are definitions.
use Rattle.std.specs.Prelude.{◌≡◌, ◌⊎◌, Bool, true, false, not, cond, ◌&&◌, ◌||◌, List, [], ◌++◌, ℕ, ◌+◌, ◌≤◌, ◌<◌, leb, ltb}
use Rattle.meaning.specs.Limits.{no_more_docs}
use Rattle.meaning.specs.Lent.{Index}
use Rattle.bits.specs.Bit.{bit}
use Rattle.tree_weight.specs.ScorerTree.{nothing, term, phrase, range, everything, Scorer, leaf, boolean, Scorers, end, more, matches, all_match, any_matches, matching}
use Rattle.tree_weight.specs.State.{sizes_of}
use Rattle.tree_weight.specs.Sound.{Lends, Sounds, nodes_of}
use Rattle.scorer_leaf.specs.Calls.{Lists, RoomIn}
use Rattle.tree_node.specs.declared.NodeKind.{NodeKind}
use Rattle.tree_node.specs.declared.NodeKind.TheVariants.{Nothing, Term, Phrase, Boolean, Range, Everything, PhraseTerm}
use Rattle.window_words.specs.Windowed.{Places, nowhere, places_of, optional_bound, Windowed, AllWindowed}
use Rattle.window_leaf.specs.Asks.{Answers, Wanted, lent_at}
use Rattle.window_bits.specs.declared.Asks.{Asks}
use Rattle.window_bits.specs.declared.Asks.TheVariants.{AllButPhrases, Phrases}

-- ---- the required children, which are asked in two passes: first those that are no phrases, then the phrases
unfoldable pub is_phrase : Scorer → Bool
is_phrase (leaf nothing sc) = false
is_phrase (leaf (term l) sc) = false
is_phrase (leaf (phrase f ts) sc) = true
is_phrase (leaf (range r) sc) = false
is_phrase (leaf everything sc) = false
is_phrase (boolean c j need rs os ps) = false

-- asked before a pass, by it, and after it
abbrev pub asked_before : Bool → Scorer → Bool
asked_before last s = last && not (is_phrase s)

abbrev pub asked_by : Bool → Scorer → Bool
asked_by last s = cond last (is_phrase s) (not (is_phrase s))

abbrev pub asked_after : Bool → Scorer → Bool
asked_after last s = last || not (is_phrase s)

-- which of them a pass asks: the phrases alone, or all others
abbrev pub phrases_only : Asks → Bool
phrases_only AllButPhrases = false
phrases_only Phrases = true

abbrev pub phrase_kind : NodeKind → Bool
phrase_kind Nothing = false
phrase_kind Term = false
phrase_kind Phrase = true
phrase_kind Boolean = false
phrase_kind Range = false
phrase_kind Everything = false
phrase_kind PhraseTerm = false

-- the children of a kind all match
unfoldable pub all_of : (Scorer → Bool) → Index → Scorers → ℕ → Bool
all_of A ix end d = true
all_of A ix (more f s ss) d = cond (A s) (matches ix s d) true && all_of A ix ss d

-- a pass asks all of them
unfoldable pub asks_all : Bool → Scorers → Bool
asks_all last end = true
asks_all last (more f s ss) = asked_by last s && asks_all last ss

-- after a pass that left w, the other has nothing to ask
abbrev pub Through : Bool → Scorers → ℕ → Type 0
Through last ss w = ((p : ℕ) → p < 64 → bit p w ≡ false) ⊎ (asks_all last ss ≡ true)

-- the parts, of which those of a kind were asked at the places D of the window at base
unfoldable pub SomeWindowed : (Scorer → Bool) → Index → List ℕ → Scorers → ℕ → List ℕ → ℕ → Places → Type 0
SomeWindowed A ix ranges end depth w base D = w ≡ []
SomeWindowed A ix ranges (more f s ss) depth w base D =
    (y : List ℕ) × (z : List ℕ) × (w ≡ y ++ z)
    × Windowed ix ranges s depth (cond f 1 0) y (cond (A s) (base + 64) base) base (λ p. A s && D p)
    × SomeWindowed A ix ranges ss depth z base D

-- what is known of some children's index and trees
pub record PartsKnown (E : Lists) (ix : Index) (places : ℕ) (ss : Scorers) : Type 0 where
  pub lends : Lends ix E.documents E.postings E.positions
  pub sounds : Sounds ix places ss
  pub few : nodes_of ss ≤ 255

-- what all calls of the cycle ask beside their parts
pub record Called (E : Lists) (places starts other_starts base want : ℕ) : Type 0 where
  pub small : base + 64 ≤ no_more_docs
  pub wanted : Wanted E.documents base want
  pub room : RoomIn places starts other_starts

abbrev pub RequiredBitsPre : Lists → ℕ → ℕ → List ℕ → Bool → ℕ → ℕ → ℕ → Type 0
RequiredBitsPre E starts other_starts kids last base want depth =
    (n : ℕ) × (ix : Index) × (places : ℕ) × (ss : Scorers)
    × Called (lent_at E n) places starts other_starts base want × PartsKnown (lent_at E n) ix places ss
    × SomeWindowed (asked_before last) ix E.ranges ss depth kids base (places_of want)

abbrev pub RequiredBitsPost : Lists → ℕ → ℕ → List ℕ → Bool → ℕ → ℕ → ℕ → ℕ → ℕ → Bool → List ℕ → Type 0
RequiredBitsPost E starts other_starts kids last base want depth r next skipped kids' =
    (n : ℕ) (ix : Index) (places : ℕ) (ss : Scorers) → Wanted n base want
    → PartsKnown (lent_at E n) ix places ss
    → SomeWindowed (asked_before last) ix E.ranges ss depth kids base (places_of want)
    → Answers (all_of (asked_by last) ix ss) base (places_of want) r next
    × SomeWindowed (asked_after last) ix E.ranges ss depth kids' base (places_of r)
    × (skipped ≡ false → Through last ss r)

-- the second pass, which is not made where the first skipped none
abbrev pub PhrasesPost : Lists → ℕ → ℕ → List ℕ → Bool → ℕ → ℕ → ℕ → ℕ → ℕ → List ℕ → Type 0
PhrasesPost E starts other_starts kids skipped base want depth r next kids' =
    (n : ℕ) (ix : Index) (places : ℕ) (ss : Scorers) → Wanted n base want
    → PartsKnown (lent_at E n) ix places ss
    → SomeWindowed (asked_before true) ix E.ranges ss depth kids base (places_of want)
    → (skipped ≡ false → Through false ss want)
    → Answers (all_of (asked_by true) ix ss) base (places_of want) r next
    × SomeWindowed (asked_after true) ix E.ranges ss depth kids' base (places_of r)

-- ---- the optional children, of which `need` must match, and the prohibited
abbrev pub PartsBitsPre : Lists → ℕ → ℕ → List ℕ → ℕ → ℕ → ℕ → Type 0
PartsBitsPre E starts other_starts kids base want depth =
    (n : ℕ) × (ix : Index) × (places : ℕ) × (ss : Scorers)
    × Called (lent_at E n) places starts other_starts base want × PartsKnown (lent_at E n) ix places ss
    × AllWindowed ix E.ranges ss depth kids base base nowhere

-- so many match
abbrev pub enough : Index → Scorers → ℕ → ℕ → Bool
enough ix ss need d = leb need (matching ix ss d)

-- where none is needed nothing is asked
abbrev pub OptionalBitsPost : Lists → ℕ → ℕ → List ℕ → ℕ → ℕ → ℕ → ℕ → ℕ → ℕ → List ℕ → Type 0
OptionalBitsPost E starts other_starts kids need base want depth r next kids' =
    (n : ℕ) (ix : Index) (places : ℕ) (ss : Scorers) → Wanted n base want
    → PartsKnown (lent_at E n) ix places ss → AllWindowed ix E.ranges ss depth kids base base nowhere
    → Answers (enough ix ss need) base (places_of want) r next
    × AllWindowed ix E.ranges ss depth kids' (optional_bound need (base + 64) base) base
    (λ p. ltb 0 need && bit p r)

-- the planes' count of those that match, and a document before which none matches after the window
pub record CountsAre (ix : Index) (ss : Scorers) (base want : ℕ) (count : ℕ → ℕ) (next : ℕ) : Type 0 where
  pub counts : (p : ℕ) → p < 64 → bit p want ≡ true → count p ≡ matching ix ss (base + p)
  pub gap : (d : ℕ) → base + 64 ≤ d → d < next → matching ix ss d ≡ 0
  pub top : next ≤ no_more_docs

abbrev pub CountPost : Lists → ℕ → ℕ → List ℕ → ℕ → ℕ → ℕ → (ℕ → ℕ) → ℕ → List ℕ → Type 0
CountPost E starts other_starts kids base want depth count next kids' =
    (n : ℕ) (ix : Index) (places : ℕ) (ss : Scorers) → Wanted n base want
    → PartsKnown (lent_at E n) ix places ss → AllWindowed ix E.ranges ss depth kids base base nowhere
    → CountsAre ix ss base want count next
    × AllWindowed ix E.ranges ss depth kids' (base + 64) base (places_of want)

-- any of them
abbrev pub AnyPost : Lists → ℕ → ℕ → List ℕ → ℕ → ℕ → ℕ → ℕ → ℕ → List ℕ → Type 0
AnyPost E starts other_starts kids base want depth r next kids' =
    (n : ℕ) (ix : Index) (places : ℕ) (ss : Scorers) → Wanted n base want
    → PartsKnown (lent_at E n) ix places ss → AllWindowed ix E.ranges ss depth kids base base nowhere
    → Answers (any_matches ix ss) base (places_of want) r next
    × AllWindowed ix E.ranges ss depth kids' (base + 64) base (places_of want)

-- the wanted documents that none of the prohibited matches
abbrev pub ExcludedPost : Lists → ℕ → ℕ → List ℕ → ℕ → ℕ → ℕ → ℕ → List ℕ → Type 0
ExcludedPost E starts other_starts kids base want depth r kids' =
    (n : ℕ) (ix : Index) (places : ℕ) (ss : Scorers) → Wanted n base want
    → PartsKnown (lent_at E n) ix places ss → AllWindowed ix E.ranges ss depth kids base base nowhere
    → ((p : ℕ) → p < 64 → bit p r ≡ (bit p want && not (any_matches ix ss (base + p))))
    × AllWindowed ix E.ranges ss depth kids' (base + 64) base nowhere

-- ---- a Boolean
-- the parts of its children, with where the required and the optional end, and the places that were asked
pub record BooleanWindowed (ix : Index) (ranges : List ℕ) (rs os ps : Scorers)
    (depth required_end optional_end need : ℕ) (kids : List ℕ) (b base : ℕ) (D : Places) : Type 0 where
  pub x : List ℕ
  pub v : List ℕ
  pub z : List ℕ
  pub is : kids ≡ x ++ (v ++ z)
  pub required-end : required_end ≡ sizes_of rs
  pub optional-end : optional_end ≡ sizes_of rs + sizes_of os
  pub required : AllWindowed ix ranges rs depth x b base D
  pub optional : AllWindowed ix ranges os depth v (optional_bound need b base) base (λ p. ltb 0 need && D p)
  pub prohibited : AllWindowed ix ranges ps depth z b base nowhere

-- which documents it takes
abbrev pub parts_take : Index → Scorers → Scorers → Scorers → ℕ → ℕ → Bool
parts_take ix rs os ps need d = all_match ix rs d && not (any_matches ix ps d) && leb need (matching ix os d)

pub record BooleanKnown (E : Lists) (ix : Index) (places : ℕ) (rs os ps : Scorers) : Type 0 where
  pub required : PartsKnown E ix places rs
  pub optional : PartsKnown E ix places os
  pub prohibited : PartsKnown E ix places ps

abbrev pub BooleanBitsPre : Lists → ℕ → ℕ → List ℕ → ℕ → ℕ → ℕ → ℕ → ℕ → ℕ → Type 0
BooleanBitsPre E starts other_starts kids required_end optional_end need base want depth =
    (n : ℕ) × (ix : Index) × (places : ℕ) × (rs : Scorers) × (os : Scorers) × (ps : Scorers)
    × Called (lent_at E n) places starts other_starts base want
    × BooleanKnown (lent_at E n) ix places rs os ps
    × BooleanWindowed ix E.ranges rs os ps depth required_end optional_end need kids base base nowhere

-- its answer; what its score needs of the children stands at the documents that it takes
abbrev pub BooleanBitsPost : Lists → ℕ → ℕ → List ℕ → ℕ → ℕ → ℕ → ℕ → ℕ → ℕ → ℕ → ℕ → List ℕ → Type 0
BooleanBitsPost E starts other_starts kids required_end optional_end need base want depth r next kids' =
    (n : ℕ) (ix : Index) (places : ℕ) (rs os ps : Scorers) → Wanted n base want
    → BooleanKnown (lent_at E n) ix places rs os ps
    → BooleanWindowed ix E.ranges rs os ps depth required_end optional_end need kids base base nowhere
    → Answers (parts_take ix rs os ps need) base (places_of want) r next
    × BooleanWindowed ix E.ranges rs os ps depth required_end optional_end need kids' (base + 64) base
    (places_of r)
