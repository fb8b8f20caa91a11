-- What the functions of a scorer tree ask and answer. Assumes nothing: these are definitions. The tree and the index
-- stand in no argument: some must fit the words at entry, and for all that fit them the answer is right.
use Rattle.std.specs.Prelude.{◌≡◌, List, ◌++◌, ℕ, ◌+◌, ◌≤◌, ◌<◌, length, get_or, leb, ltb}
use mathlib.Core.Bool.{Bool, ◌&&◌}
use Rattle.meaning.specs.Limits.{no_more_docs}
use Rattle.meaning.specs.Lent.{Index}
use Rattle.meaning.specs.First.{First}
use Rattle.tree_weight.specs.ScorerTree.{Scorer, Scorers, matches, all_match, matching}
use Rattle.tree_weight.specs.State.{sizes_of}
use Rattle.tree_weight.specs.Held.{Ok, Oks}
use Rattle.tree_weight.specs.Sound.{Lends, Sound, Sounds}
use Rattle.tree_weight.specs.declared.layout.TheConstants.{KIND, CACHED}
pub use Rattle.scorer_leaf.specs.Calls.{Lists, lists, lists_of, RoomIn, Approximates}

-- the index and the tree of a node's part, asked for documents up to a bound
pub record NodeHeld (E : Lists) (ix : Index) (places : ℕ) (s : Scorer) (depth scores : ℕ) (states : List ℕ)
    (b : ℕ) : Type 0 where
  pub lends : Lends ix E.documents E.postings E.positions
  pub sound : Sound ix places s
  pub ok : Ok ix E.ranges s depth scores states b

abbrev pub AdvancePre : Lists → ℕ → ℕ → List ℕ → ℕ → ℕ → Type 0
AdvancePre E starts other_starts states target depth =
    (target ≤ no_more_docs)
    × ((ix : Index) × (places : ℕ) × (s : Scorer) × (scores : ℕ) × RoomIn places starts other_starts
    × NodeHeld E ix places s depth scores states target)

abbrev pub AdvancePost : Lists → List ℕ → ℕ → ℕ → ℕ → List ℕ → Type 0
AdvancePost E states target depth r states' =
    (ix : Index) (places : ℕ) (s : Scorer) (scores : ℕ) → NodeHeld E ix places s depth scores states target
    → First (matches ix s) target r × Ok ix E.ranges s depth scores states' target

-- a node that is a term: it asks nothing of what is lent but the postings
abbrev pub AdvanceTermPre : List ℕ → List ℕ → ℕ → Type 0
AdvanceTermPre postings states target =
    (target ≤ no_more_docs) × (get_or states KIND 0 ≡ 1)
    × ((E : Lists) × (E.postings ≡ postings) × (ix : Index) × (places : ℕ) × (s : Scorer) × (depth : ℕ)
    × (scores : ℕ) × NodeHeld E ix places s depth scores states target)

abbrev pub AdvanceTermPost : List ℕ → List ℕ → ℕ → ℕ → List ℕ → Type 0
AdvanceTermPost postings states target r states' =
    (E : Lists) (depth : ℕ) → E.postings ≡ postings → AdvancePost E states target depth r states'

-- a node that is a range: it asks nothing of what is lent but the range buffer
abbrev pub AdvanceRangePre : List ℕ → List ℕ → ℕ → Type 0
AdvanceRangePre ranges states target =
    (target ≤ no_more_docs) × (get_or states KIND 0 ≡ 4)
    × ((E : Lists) × (E.ranges ≡ ranges) × (ix : Index) × (places : ℕ) × (s : Scorer) × (depth : ℕ)
    × (scores : ℕ) × NodeHeld E ix places s depth scores states target)

abbrev pub AdvanceRangePost : List ℕ → List ℕ → ℕ → ℕ → List ℕ → Type 0
AdvanceRangePost ranges states target r states' =
    (E : Lists) (depth : ℕ) → E.ranges ≡ ranges → AdvancePost E states target depth r states'

-- a node that is a phrase and does not stand beyond the target: it asks nothing of what is lent but the postings and
-- the positions
abbrev pub AskPre : List ℕ → List ℕ → ℕ → ℕ → List ℕ → ℕ → Type 0
AskPre postings positions starts other_starts states target =
    (target ≤ no_more_docs) × (get_or states KIND 0 ≡ 2) × (get_or states CACHED 0 ≤ target)
    × ((E : Lists) × (E.postings ≡ postings) × (E.positions ≡ positions) × (ix : Index) × (places : ℕ)
    × (s : Scorer) × (depth : ℕ) × (scores : ℕ) × RoomIn places starts other_starts
    × NodeHeld E ix places s depth scores states target)

abbrev pub AskPost : List ℕ → List ℕ → List ℕ → ℕ → ℕ → ℕ → List ℕ → Type 0
AskPost postings positions states t target r states' =
    (E : Lists) (depth : ℕ) → E.postings ≡ postings → E.positions ≡ positions
    → (ix : Index) (places : ℕ) (s : Scorer) (scores : ℕ) → NodeHeld E ix places s depth scores states target
    → Approximates (matches ix s) t target r × Ok ix E.ranges s depth scores states' r

-- ---- children
-- some parts, one after the other
pub record PartsHeld (E : Lists) (ix : Index) (places : ℕ) (ss : Scorers) (depth : ℕ) (kids : List ℕ)
    (b : ℕ) : Type 0 where
  pub lends : Lends ix E.documents E.postings E.positions
  pub sounds : Sounds ix places ss
  pub oks : Oks ix E.ranges ss depth kids b

abbrev pub PartsPre : Lists → ℕ → ℕ → List ℕ → ℕ → ℕ → Type 0
PartsPre E starts other_starts kids target depth =
    (target ≤ no_more_docs)
    × ((ix : Index) × (places : ℕ) × (ss : Scorers) × RoomIn places starts other_starts
    × PartsHeld E ix places ss depth kids target)

-- the least document and how many stand there, with one document more
pub record Tally (best n d best' n' : ℕ) : Type 0 where
  pub below : d < best → (best' ≡ d) × (n' ≡ 1)
  pub same : d ≡ best → (best' ≡ best) × (n' ≡ n + 1)
  pub above : best < d → (best' ≡ best) × (n' ≡ n)

-- d is the first document that some of the scorers match, and n of them match it
pub record LeastIs (ix : Index) (ss : Scorers) (target d n : ℕ) : Type 0 where
  pub first : First (λ x. ltb 0 (matching ix ss x)) target d
  pub number : d < no_more_docs → n ≡ matching ix ss d

abbrev pub LeastPost : Lists → List ℕ → ℕ → ℕ → ℕ → ℕ → List ℕ → Type 0
LeastPost E kids target depth d n kids' =
    (ix : Index) (places : ℕ) (ss : Scorers) → PartsHeld E ix places ss depth kids target
    → LeastIs ix ss target d n × PartsHeld E ix places ss depth kids' target

abbrev pub DisjunctionPost : Lists → List ℕ → ℕ → ℕ → ℕ → ℕ → List ℕ → Type 0
DisjunctionPost E kids need target depth r kids' =
    (ix : Index) (places : ℕ) (ss : Scorers) → PartsHeld E ix places ss depth kids target
    → First (λ x. leb need (matching ix ss x)) target r × PartsHeld E ix places ss depth kids' r

abbrev pub PassPost : Lists → List ℕ → ℕ → ℕ → ℕ → List ℕ → Type 0
PassPost E kids target depth r kids' =
    (ix : Index) (places : ℕ) (ss : Scorers) → PartsHeld E ix places ss depth kids target
    → Approximates (all_match ix ss) target target r × PartsHeld E ix places ss depth kids' r

-- ---- a Boolean
-- its lead: every required, and so many of the optional
abbrev pub leads : Index → Scorers → Scorers → ℕ → ℕ → Bool
leads ix rs os need d = all_match ix rs d && leb need (matching ix os d)

-- the parts of the required and of the optional
pub record LeadHeld (E : Lists) (ix : Index) (places : ℕ) (rs os : Scorers) (depth required_end : ℕ)
    (kids : List ℕ) (b : ℕ) : Type 0 where
  pub x : List ℕ
  pub v : List ℕ
  pub is : kids ≡ x ++ v
  pub required-end : required_end ≡ sizes_of rs
  pub required : PartsHeld E ix places rs depth x b
  pub optional : PartsHeld E ix places os depth v b

abbrev pub LeadPre : Lists → ℕ → ℕ → List ℕ → ℕ → ℕ → ℕ → Type 0
LeadPre E starts other_starts kids required_end target depth =
    (target ≤ no_more_docs)
    × ((ix : Index) × (places : ℕ) × (rs : Scorers) × (os : Scorers) × RoomIn places starts other_starts
    × LeadHeld E ix places rs os depth required_end kids target)

abbrev pub StepPost : Lists → List ℕ → ℕ → ℕ → ℕ → ℕ → ℕ → List ℕ → Type 0
StepPost E kids required_end need target depth r kids' =
    (ix : Index) (places : ℕ) (rs os : Scorers) → LeadHeld E ix places rs os depth required_end kids target
    → Approximates (leads ix rs os need) target target r
    × LeadHeld E ix places rs os depth required_end kids' r

abbrev pub LeadPost : Lists → List ℕ → ℕ → ℕ → ℕ → ℕ → ℕ → List ℕ → Type 0
LeadPost E kids required_end need target depth r kids' =
    (ix : Index) (places : ℕ) (rs os : Scorers) → LeadHeld E ix places rs os depth required_end kids target
    → First (leads ix rs os need) target r × LeadHeld E ix places rs os depth required_end kids' r

-- the parts of a Boolean's children
pub record BooleanHeld (E : Lists) (ix : Index) (places : ℕ) (rs os ps : Scorers)
    (depth required_end optional_end : ℕ) (kids : List ℕ) (b : ℕ) : Type 0 where
  pub w : List ℕ
  pub z : List ℕ
  pub is : kids ≡ w ++ z
  pub optional-end : optional_end ≡ length w
  pub lead : LeadHeld E ix places rs os depth required_end w b
  pub prohibited : PartsHeld E ix places ps depth z b

abbrev pub ExcludingPre : Lists → ℕ → ℕ → List ℕ → ℕ → ℕ → ℕ → ℕ → Type 0
ExcludingPre E starts other_starts kids required_end optional_end target depth =
    (target ≤ no_more_docs)
    × ((ix : Index) × (places : ℕ) × (rs : Scorers) × (os : Scorers) × (ps : Scorers)
    × RoomIn places starts other_starts
    × BooleanHeld E ix places rs os ps depth required_end optional_end kids target)

-- its documents: the lead's that no prohibited matches
abbrev pub lead_takes : Index → Scorers → Scorers → Scorers → ℕ → ℕ → Bool
lead_takes ix rs os ps need d = leads ix rs os need d && mathlib.Core.Bool.not (ltb 0 (matching ix ps d))

abbrev pub ExcludingPost : Lists → List ℕ → ℕ → ℕ → ℕ → ℕ → ℕ → ℕ → List ℕ → Type 0
ExcludingPost E kids required_end optional_end need target depth r kids' =
    (ix : Index) (places : ℕ) (rs os ps : Scorers)
    → BooleanHeld E ix places rs os ps depth required_end optional_end kids target
    → First (lead_takes ix rs os ps need) target r
    × BooleanHeld E ix places rs os ps depth required_end optional_end kids' r
