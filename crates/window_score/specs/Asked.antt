-- What the scores of a window ask and give, of a node and of the parts of some children. Assumes nothing: these are
-- definitions.
use Rattle.std.specs.Prelude.{◌≡◌, Bool, true, false, cond, ◌&&◌, List, ◌++◌, ℕ, ◌+◌, ◌≤◌, ◌<◌, ltb, eqb, length, take, drop, get_or, Float}
use Rattle.std.specs.Float.{nan}
use Rattle.meaning.specs.Limits.{no_more_docs, max_records}
use Rattle.meaning.specs.Lent.{Index}
use Rattle.meaning.specs.Ieee754.{zero_float, sum_from, narrowed_sum}
use Rattle.bits.specs.Bit.{bit}
use Rattle.tree_weight.specs.ScorerTree.{Scorer, Scorers, Joining, matches, all_match, scorer_score, scoring, required_scores, optional_scores, joined_score}
use Rattle.tree_weight.specs.State.{sizes_of}
use Rattle.tree_weight.specs.Sound.{Lends, nodes, nodes_of}
use Rattle.tree_weight.specs.declared.layout.TheConstants.{KIND, SIZE, CONSTANT}
use Rattle.scorer_leaf.specs.Calls.{RoomIn}
use Rattle.scorer_leaf.specs.declared.LeafReader.{LeafReader}
use Rattle.score_leaf.specs.Asked.{Scorable}
use Rattle.tree_node.specs.declared.Boolean.{Boolean}
use Rattle.score.specs.Asked.{Scorables, JoinsAt}
use Rattle.window_words.specs.Windowed.{nowhere, places_of, optional_bound, Windowed, AllWindowed}
use Rattle.window_leaf.specs.Asks.{Wanted}
use Rattle.window_leaf.specs.declared.Window.{Window}
use Rattle.window_score.specs.Sums.{Sums, Zeros, NarrowedIs, Added, AddedAll}

-- what is read for the scores of a window, and its first document
pub record Reads : Type 0 where
  pub postings : List ℕ
  pub positions : List ℕ
  pub norms : List ℕ
  pub inverses : List Float
  pub ranges : List ℕ
  pub base : ℕ

abbrev pub reads : LeafReader → ℕ → Reads
reads r base =
    record {
      postings = r.postings.now;
      positions = r.positions.now;
      norms = r.norms.now;
      inverses = r.inverses.now;
      ranges = r.ranges.now;
      base = base;
    }

-- what a window has
abbrev pub reads_of : Window → Reads
reads_of w = reads w.reader w.base

-- the same beside other ranges, and beside other positions too
abbrev pub with_ranges : Reads → List ℕ → Reads
with_ranges V ranges =
    record {
      postings = V.postings;
      positions = V.positions;
      norms = V.norms;
      inverses = V.inverses;
      ranges = ranges;
      base = V.base;
    }

abbrev pub with_lists : Reads → List ℕ → List ℕ → Reads
with_lists V positions ranges =
    record {
      postings = V.postings;
      positions = positions;
      norms = V.norms;
      inverses = V.inverses;
      ranges = ranges;
      base = V.base;
    }

-- an accepted index whose N, postings, positions and norms are those that are lent, with room for its phrases, and the
-- wanted documents of a window of it
pub record WindowLent (ix : Index) (n : ℕ) (V : Reads) (places starts other_starts want : ℕ) : Type 0 where
  pub lends : Lends ix n V.postings V.positions
  pub norms-are : ix.norms ≡ V.norms
  pub room : RoomIn places starts other_starts
  pub small : V.base + 64 ≤ no_more_docs
  pub wanted : Wanted n V.base want

-- a tree that was asked of the window and takes the wanted documents, beside q leaves that are summed already
pub record NodeAsked (ix : Index) (V : Reads) (places : ℕ) (T : Scorer) (depth scores : ℕ) (states : List ℕ)
    (want q : ℕ) : Type 0 where
  pub scorable : Scorable ix V.inverses places T
  pub few : q + nodes T ≤ max_records
  pub match : (p : ℕ) → p < 64 → bit p want ≡ true → matches ix T (V.base + p) ≡ true
  pub held : Windowed ix V.ranges T depth scores states (V.base + 64) V.base (places_of want)

abbrev pub ScoresPre : List ℕ → Reads → ℕ → ℕ → ℕ → List Float → ℕ → Type 0
ScoresPre states V starts other_starts want sums depth =
    (n : ℕ) × (ix : Index) × (places : ℕ) × (T : Scorer) × (scores : ℕ) × (q : ℕ)
    × WindowLent ix n V places starts other_starts want × NodeAsked ix V places T depth scores states want q
    × Sums q sums

-- the node's score is added at the wanted places, and the words can be asked of the next window
abbrev pub ScoresPost : List ℕ → Reads → ℕ → ℕ → ℕ → List Float → ℕ → List ℕ → List Float → Type 0
ScoresPost states V starts other_starts want sums depth states' sums' =
    (n : ℕ) (ix : Index) (places : ℕ) (T : Scorer) (scores q : ℕ)
    → WindowLent ix n V places starts other_starts want → NodeAsked ix V places T depth scores states want q
    → Sums q sums → Added (λ p. scorer_score ix T (V.base + p)) want sums sums' × Sums (q + nodes T) sums'
    × Windowed ix V.ranges T depth scores states' (V.base + 64) (V.base + 64) nowhere

-- a node that is a term and scores by BM25: it asks nothing of what is lent but the postings and the norms, and its
-- words stay
abbrev pub TermScoresPre : List ℕ → Reads → ℕ → List Float → Type 0
TermScoresPre states V want sums =
    (get_or states KIND 0 ≡ 1)
    × ((positions : List ℕ) × (ranges : List ℕ) × (starts : ℕ) × (other_starts : ℕ) × (depth : ℕ)
    × ScoresPre states (with_lists V positions ranges) starts other_starts want sums depth)

abbrev pub TermScoresPost : List ℕ → Reads → ℕ → List Float → List Float → Type 0
TermScoresPost states V want sums sums' =
    (positions ranges : List ℕ) (starts other_starts depth : ℕ)
    → ScoresPost states (with_lists V positions ranges) starts other_starts want sums depth states sums'

-- a node that is a phrase, which asks no ranges; its words stay
abbrev pub PhraseScoresPre : List ℕ → Reads → ℕ → ℕ → ℕ → List Float → Type 0
PhraseScoresPre states V starts other_starts want sums =
    (get_or states KIND 0 ≡ 2) × (get_or states CONSTANT 0 ≡ 0)
    × ((ranges : List ℕ) × (depth : ℕ)
    × ScoresPre states (with_ranges V ranges) starts other_starts want sums depth)

abbrev pub PhraseScoresPost : List ℕ → Reads → ℕ → ℕ → ℕ → List Float → List Float → Type 0
PhraseScoresPost states V starts other_starts want sums sums' =
    (ranges : List ℕ) (depth : ℕ)
    → ScoresPost states (with_ranges V ranges) starts other_starts want sums depth states sums'

-- ---- the parts of some children, beside q leaves that are summed already
pub record RequiredAsked (ix : Index) (V : Reads) (places : ℕ) (ss : Scorers) (depth : ℕ) (kids : List ℕ)
    (want q : ℕ) : Type 0 where
  pub scorables : Scorables ix V.inverses places q ss
  pub match : (p : ℕ) → p < 64 → bit p want ≡ true → all_match ix ss (V.base + p) ≡ true
  pub held : AllWindowed ix V.ranges ss depth kids (V.base + 64) V.base (places_of want)

abbrev pub RequiredScoresPre : List ℕ → Reads → ℕ → ℕ → ℕ → List Float → ℕ → Type 0
RequiredScoresPre kids V starts other_starts want sums depth =
    (n : ℕ) × (ix : Index) × (places : ℕ) × (ss : Scorers) × (q : ℕ)
    × WindowLent ix n V places starts other_starts want × RequiredAsked ix V places ss depth kids want q
    × Sums q sums

abbrev pub RequiredScoresPost : List ℕ → Reads → ℕ → ℕ → ℕ → List Float → ℕ → List ℕ → List Float → Type 0
RequiredScoresPost kids V starts other_starts want sums depth kids' sums' =
    (n : ℕ) (ix : Index) (places : ℕ) (ss : Scorers) (q : ℕ)
    → WindowLent ix n V places starts other_starts want → RequiredAsked ix V places ss depth kids want q
    → Sums q sums → AddedAll (λ p. scoring (required_scores ix ss (V.base + p))) want sums sums'
    × Sums (q + nodes_of ss) sums'
    × AllWindowed ix V.ranges ss depth kids' (V.base + 64) (V.base + 64) nowhere

-- the optional: where none is needed they were not asked
pub record OptionalAsked (ix : Index) (V : Reads) (places : ℕ) (ss : Scorers) (need depth : ℕ) (kids : List ℕ)
    (want q : ℕ) : Type 0 where
  pub scorables : Scorables ix V.inverses places q ss
  pub held : AllWindowed ix V.ranges ss depth kids (optional_bound need (V.base + 64) V.base) V.base
      (λ p. ltb 0 need && bit p want)

abbrev pub OptionalScoresPre : List ℕ → ℕ → Reads → ℕ → ℕ → ℕ → List Float → ℕ → Type 0
OptionalScoresPre kids need V starts other_starts want sums depth =
    (n : ℕ) × (ix : Index) × (places : ℕ) × (ss : Scorers) × (q : ℕ)
    × WindowLent ix n V places starts other_starts want × OptionalAsked ix V places ss need depth kids want q
    × Sums q sums

abbrev pub OptionalScoresPost : List ℕ → ℕ → Reads → ℕ → ℕ → ℕ → List Float → ℕ → List ℕ → List Float → Type 0
OptionalScoresPost kids need V starts other_starts want sums depth kids' sums' =
    (n : ℕ) (ix : Index) (places : ℕ) (ss : Scorers) (q : ℕ)
    → WindowLent ix n V places starts other_starts want → OptionalAsked ix V places ss need depth kids want q
    → Sums q sums → AddedAll (λ p. optional_scores ix ss (V.base + p)) want sums sums'
    × Sums (q + nodes_of ss) sums'
    × AllWindowed ix V.ranges ss depth kids' (V.base + 64) (V.base + 64) nowhere

-- ---- a Boolean's children: the required, the optional and the rest, and what is read of its record
pub record BooleanAsked (ix : Index) (V : Reads) (places : ℕ) (j : Joining) (rs os : Scorers) (n : Boolean)
    (depth : ℕ) (rest kids : List ℕ) (want q : ℕ) : Type 0 where
  pub required-scorables : Scorables ix V.inverses places 0 rs
  pub optional-scorables : Scorables ix V.inverses places 0 os
  pub few : q + (nodes_of rs + nodes_of os) ≤ max_records
  pub match : (p : ℕ) → p < 64 → bit p want ≡ true → all_match ix rs (V.base + p) ≡ true
  pub required-end : n.required_end ≡ sizes_of rs
  pub optional-end : n.optional_end ≡ sizes_of rs + sizes_of os
  pub joins : JoinsAt j rs (cond n.afterwards 1 0) n.group_at
  pub x : List ℕ
  pub v : List ℕ
  pub is : kids ≡ x ++ (v ++ rest)
  pub required : AllWindowed ix V.ranges rs depth x (V.base + 64) V.base (places_of want)
  pub optional : AllWindowed ix V.ranges os depth v (optional_bound n.need (V.base + 64) V.base) V.base
      (λ p. ltb 0 n.need && bit p want)

pub record BooleanLeft (ix : Index) (V : Reads) (rs os : Scorers) (depth : ℕ) (rest kids : List ℕ) : Type 0 where
  pub x : List ℕ
  pub v : List ℕ
  pub is : kids ≡ x ++ (v ++ rest)
  pub required : AllWindowed ix V.ranges rs depth x (V.base + 64) (V.base + 64) nowhere
  pub optional : AllWindowed ix V.ranges os depth v (V.base + 64) (V.base + 64) nowhere

abbrev pub BooleanScoresPre : List ℕ → Boolean → Reads → ℕ → ℕ → ℕ → List Float → ℕ → Type 0
BooleanScoresPre kids node V starts other_starts want sums depth =
    (n : ℕ) × (ix : Index) × (places : ℕ) × (j : Joining) × (rs : Scorers) × (os : Scorers) × (rest : List ℕ)
    × (q : ℕ) × WindowLent ix n V places starts other_starts want
    × BooleanAsked ix V places j rs os node depth rest kids want q × Sums q sums

abbrev pub BooleanScoresPost : List ℕ → Boolean → Reads → ℕ → ℕ → ℕ → List Float → ℕ → List ℕ → List Float → Type 0
BooleanScoresPost kids node V starts other_starts want sums depth kids' sums' =
    (n : ℕ) (ix : Index) (places : ℕ) (j : Joining) (rs os : Scorers) (rest : List ℕ) (q : ℕ)
    → WindowLent ix n V places starts other_starts want
    → BooleanAsked ix V places j rs os node depth rest kids want q → Sums q sums
    → Added (λ p. joined_score j (required_scores ix rs (V.base + p))
    (narrowed_sum (optional_scores ix os (V.base + p)))) want sums sums'
    × Sums (q + (nodes_of rs + nodes_of os)) sums' × BooleanLeft ix V rs os depth rest kids'

-- the required parts, where the group's sums are known
pub record GroupAsked (ix : Index) (V : Reads) (places : ℕ) (j : Joining) (rs os : Scorers) (n : Boolean)
    (depth : ℕ) (kids : List ℕ) (want q : ℕ) (group : List Float) : Type 0 where
  pub required : RequiredAsked ix V places rs depth kids want 0
  pub few : q + (nodes_of rs + nodes_of os) ≤ max_records
  pub joins : JoinsAt j rs (cond n.afterwards 1 0) n.group_at
  pub group-is : (p : ℕ) → p < 64 → bit p want ≡ true
      → get_or group p nan ≡ sum_from zero_float (optional_scores ix os (V.base + p))
  pub group-sums : Sums (nodes_of os) group

-- ---- a root, whose sums are 0 before: after it each, narrowed, is the score
abbrev pub RootPre : List ℕ → Reads → ℕ → ℕ → ℕ → List Float → ℕ → Type 0
RootPre states V starts other_starts want sums depth =
    Zeros sums × ((n : ℕ) × (ix : Index) × (places : ℕ) × (T : Scorer) × (scores : ℕ)
    × WindowLent ix n V places starts other_starts want
    × NodeAsked ix V places T depth scores states want 0)

abbrev pub RootPost : List ℕ → Reads → ℕ → ℕ → ℕ → List Float → ℕ → List ℕ → List Float → Type 0
RootPost states V starts other_starts want sums depth states' sums' =
    (n : ℕ) (ix : Index) (places : ℕ) (T : Scorer) (scores : ℕ)
    → WindowLent ix n V places starts other_starts want → NodeAsked ix V places T depth scores states want 0
    → NarrowedIs (λ p. scorer_score ix T (V.base + p)) want sums sums'
    × Windowed ix V.ranges T depth scores states' (V.base + 64) (V.base + 64) nowhere

-- a Boolean's children, likewise
abbrev pub RootPartsPre : List ℕ → Boolean → Reads → ℕ → ℕ → ℕ → List Float → ℕ → Type 0
RootPartsPre kids node V starts other_starts want sums depth =
    Zeros sums × ((n : ℕ) × (ix : Index) × (places : ℕ) × (j : Joining) × (rs : Scorers) × (os : Scorers)
    × (rest : List ℕ) × WindowLent ix n V places starts other_starts want
    × BooleanAsked ix V places j rs os node depth rest kids want 0)

abbrev pub RootPartsPost : List ℕ → Boolean → Reads → ℕ → ℕ → ℕ → List Float → ℕ → List ℕ → List Float → Type 0
RootPartsPost kids node V starts other_starts want sums depth kids' sums' =
    (n : ℕ) (ix : Index) (places : ℕ) (j : Joining) (rs os : Scorers) (rest : List ℕ)
    → WindowLent ix n V places starts other_starts want
    → BooleanAsked ix V places j rs os node depth rest kids want 0
    → NarrowedIs (λ p. joined_score j (required_scores ix rs (V.base + p))
    (narrowed_sum (optional_scores ix os (V.base + p)))) want sums sums'
    × Sums (nodes_of rs + nodes_of os) sums' × BooleanLeft ix V rs os depth rest kids'

-- the required ones, where the group's sums are known
abbrev pub RootGroupPre : List ℕ → Boolean → List Float → Reads → ℕ → ℕ → ℕ → List Float → ℕ → Type 0
RootGroupPre kids node group V starts other_starts want sums depth =
    Zeros sums × ((n : ℕ) × (ix : Index) × (places : ℕ) × (j : Joining) × (rs : Scorers) × (os : Scorers)
    × WindowLent ix n V places starts other_starts want
    × GroupAsked ix V places j rs os node depth kids want 0 group)

abbrev pub RootGroupPost : List ℕ → Boolean → List Float → Reads → ℕ → ℕ → ℕ → List Float → ℕ → List ℕ
    → List Float → Type 0
RootGroupPost kids node group V starts other_starts want sums depth kids' sums' =
    (n : ℕ) (ix : Index) (places : ℕ) (j : Joining) (rs os : Scorers)
    → WindowLent ix n V places starts other_starts want
    → GroupAsked ix V places j rs os node depth kids want 0 group
    → NarrowedIs (λ p. joined_score j (required_scores ix rs (V.base + p))
    (narrowed_sum (optional_scores ix os (V.base + p)))) want sums sums'
    × Sums (nodes_of rs + nodes_of os) sums'
    × AllWindowed ix V.ranges rs depth kids' (V.base + 64) (V.base + 64) nowhere

-- whether some parts are of one child at most: the size of the first is that of all, 0 where there are none
abbrev pub only_child : List ℕ → Bool
only_child parts = eqb (get_or parts SIZE 0) (length parts)

-- the group joins after the required sum is narrowed, its parts are the last ones, and where it is of more than one
-- child, the required is an only child
abbrev pub SharedPre : List ℕ → Boolean → Type 0
SharedPre kids node =
    (node.afterwards ≡ true) × (length kids ≡ node.optional_end)
    × (only_child (drop node.required_end kids) ≡ false → only_child (take node.required_end kids) ≡ true)
