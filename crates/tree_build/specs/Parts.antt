-- The parts of a Boolean's clauses, as the second pass is asked for them. Assumes nothing: these are definitions.
use Rattle.std.specs.Prelude.{◌≡◌, Some, None, List, ℕ, ◌≤◌, T, length, take, Float}
use Rattle.std.specs.Float.{binary32}
use Rattle.std.specs.Float.Ieee.{of_bits}
use Rattle.meaning.specs.Lent.{Index}
use Rattle.meaning.specs.Query.{DecodedClauses}
use Rattle.meaning.specs.Cost.{costs, disjunction_cost}
use Rattle.meaning.specs.Score.{passed}
use Rattle.query.specs.Kinds.{occur_meant}
use Rattle.ieee754.specs.Nonneg.{sign_clear}
use Rattle.tree_weight.specs.Weigh.{Ready, scorers_of, up_to_cost}
use Rattle.tree_weight.specs.State.{sizes_of, sizes_of_first}
use Rattle.window_words.specs.Windowed.{nowhere, AllWindowed}
use Rattle.tree_clauses.specs.Clauses.{ReadOccur, ClausesAsked, ReadiesAt, required_of, others_of}
use Rattle.tree_words.specs.Prepared.{GivenRecords, Prepared}

-- the boost that reaches a clause, by what the code reads of its record
abbrev pub passed_at : ReadOccur → Float → Float
passed_at (Some o) b = passed (occur_meant o) b
passed_at None b = of_bits binary32 0

-- their parts stand one after the other in the first r words
pub record PlacedAll (ix : Index) (ranges : List ℕ) (rs : List Ready) (depth r : ℕ) (words : List ℕ) : Type 0 where
  pub size_is : r ≡ sizes_of (scorers_of rs)
  pub within : r ≤ length words
  pub held : AllWindowed ix ranges (scorers_of rs) depth (take r words) 0 0 nowhere

-- the same of the clauses at some records
abbrev pub PlaceListPre : GivenRecords → List ℕ → Float → ℕ → ℕ → Type 0
PlaceListPre E list boost words depth =
    (ranges : List ℕ) × (k : ℕ) × (rs : List Ready) × Prepared E ranges
    × ReadiesAt E.index E.query k boost list rs × T (sign_clear boost) × (sizes_of (scorers_of rs) ≤ words)
    × (k ≤ depth)

abbrev pub PlaceListPost : GivenRecords → List ℕ → Float → ℕ → ℕ → ℕ → List ℕ → Type 0
PlaceListPost E list boost words depth r states' =
    (ranges : List ℕ) (k : ℕ) (rs : List Ready) → Prepared E ranges
    → ReadiesAt E.index E.query k boost list rs → sizes_of (scorers_of rs) ≤ words → k ≤ depth
    → PlacedAll E.index ranges rs depth r states'

-- the same of the clauses of the Boolean at a record: those chosen have room in so many words
pub record PartAsked (E : GivenRecords) (ranges : List ℕ) (k at : ℕ) (C : DecodedClauses) (boost : Float) (rs : List Ready) (words depth : ℕ) : Type 0 where
  pub prepared : Prepared E ranges
  pub asked : ClausesAsked E.query k at C boost
  pub room : sizes_of (scorers_of rs) ≤ words
  pub levels : k ≤ depth

abbrev pub PlaceRequiredPre : GivenRecords → ℕ → Float → ℕ → ℕ → Type 0
PlaceRequiredPre E at boost words depth =
    (ranges : List ℕ) × (k : ℕ) × (C : DecodedClauses)
    × PartAsked E ranges k at C boost (required_of E.index C boost) words depth

-- their parts, and where the group joins
abbrev pub PlaceRequiredPost : GivenRecords → ℕ → Float → ℕ → ℕ → ℕ → ℕ → List ℕ → Type 0
PlaceRequiredPost E at boost words depth group_at end states' =
    (ranges : List ℕ) (k : ℕ) (C : DecodedClauses)
    → PartAsked E ranges k at C boost (required_of E.index C boost) words depth
    → PlacedAll E.index ranges (required_of E.index C boost) depth end states'
    × (group_at ≡ sizes_of_first
    (up_to_cost (disjunction_cost (costs E.index C.clauses)) (required_of E.index C boost))
    (scorers_of (required_of E.index C boost)))

abbrev pub PlaceOthersPre : GivenRecords → ℕ → ℕ → Float → ℕ → ℕ → Type 0
PlaceOthersPre E at occurrence boost words depth =
    (ranges : List ℕ) × (k : ℕ) × (C : DecodedClauses)
    × PartAsked E ranges k at C boost (others_of E.index C boost occurrence) words depth

abbrev pub PlaceOthersPost : GivenRecords → ℕ → ℕ → Float → ℕ → ℕ → ℕ → List ℕ → Type 0
PlaceOthersPost E at occurrence boost words depth r states' =
    (ranges : List ℕ) (k : ℕ) (C : DecodedClauses)
    → PartAsked E ranges k at C boost (others_of E.index C boost occurrence) words depth
    → PlacedAll E.index ranges (others_of E.index C boost occurrence) depth r states'
