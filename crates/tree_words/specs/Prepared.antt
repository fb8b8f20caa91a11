-- What the second pass goes by, and what it is asked for. Assumes nothing: these are definitions.
use Rattle.std.specs.Prelude.{◌≡◌, Bool, true, false, is_some, List, ℕ, ◌^◌, ◌≤◌, T, length, Float}
use Rattle.std.proofs.Math.Option.{some}
use Rattle.meaning.specs.Lent.{Index}
use Rattle.index.specs.IndexOf.{index_of}
use Rattle.meaning.specs.Query.{record_count, Decoded, decode}
use Rattle.meaning.specs.QueryRefusals.{carries_above}
use Rattle.meaning.specs.Scorer.{has_scorer}
use Rattle.tree_weight.specs.Held.{largest_score}
use Rattle.ieee754.specs.Nonneg.{sign_clear, AtMost}
use Rattle.tree_weight.specs.Weigh.{weigh}
use Rattle.tree_weight.specs.State.{size_of}
use Rattle.tree_weight.specs.Measured.{AcceptedOrder, Measured, RangesListed}
use Rattle.tree_words.specs.declared.place.Passed.{Passed}
use Rattle.tree_words.specs.declared.place.Records.{Records}
use Rattle.tree_measure.specs.Measures.{nexts_measured, presents_measured, costs_measured, range_places}
use Rattle.tree_words.specs.Placed.{kept_of, kept_score, Placed}

-- the index, the query, and what the first pass found at each record: the record after its tree, whether it has a
-- scorer, its cost, where the bitmap of a range begins
pub record GivenRecords : Type 0 where
  pub index : Index
  pub query : List ℕ
  pub nexts : List ℕ
  pub presents : List ℕ
  pub costs : List ℕ
  pub places : List ℕ

-- as the code has them, one struct of each record's measure, one of each range; the records after the trees and the
-- costs, which a leaf does not read, are these
abbrev pub given_with : Records → List ℕ → List ℕ → GivenRecords
given_with r nexts costs = record {
  index = index_of r.lent.now;
  query = r.query.now;
  nexts = nexts;
  presents = presents_measured r.measures.now;
  costs = costs;
  places = range_places r.listed.now;
}

-- all as the code has them
abbrev pub given : Records → GivenRecords
given r = given_with r (nexts_measured r.measures.now) (costs_measured r.measures.now)

-- where the tree at a record has a scorer, its part stands in the first r words
abbrev pub ScorerPlaced : Records → ℕ → Passed → ℕ → List ℕ → Type 0
ScorerPlaced f at passed r words =
    (ranges : List ℕ) (depth k : ℕ) (D : Decoded) → decode f.query.now k at ≡ some D
    → has_scorer (index_of f.lent.now) D.tree ≡ true
    → Placed (index_of f.lent.now) ranges
    (weigh (index_of f.lent.now) D.tree passed.boost (kept_of (is_some passed.kept) (kept_score passed.kept)))
    depth passed.scores r words

-- the index and the query are accepted, the measures right, and the documents of every Range record in this buffer
pub record Prepared (E : GivenRecords) (ranges : List ℕ) : Type 0 where
  pub asks : AcceptedOrder E.index E.query
  pub measured : Measured E.index E.query E.nexts E.presents E.costs 0
  pub counts : List ℕ
  pub listed : RangesListed E.index E.query E.places counts ranges (record_count E.query)
  pub nexts-long : record_count E.query ≤ length E.nexts
  pub presents-long : record_count E.query ≤ length E.presents
  pub costs-long : record_count E.query ≤ length E.costs
  pub places-long : record_count E.query ≤ length E.places

-- the tree at a record, which the boost and the score that is kept reach: its boosts are within the limit, and its part
-- has room in so many words
pub record TreeAsked (ix : Index) (q : List ℕ) (k at : ℕ) (D : Decoded) (fixed : Bool) (kept boost : Float) (words : ℕ) : Type 0 where
  pub decoded : decode q k at ≡ some D
  pub within : carries_above D.tree boost ≡ false
  pub boost-clear : T (sign_clear boost)
  pub kept_small : AtMost largest_score kept
  pub room : size_of (weigh ix D.tree boost (kept_of fixed kept)) ≤ words

-- some tree, at most so many levels deep
abbrev pub TreePre : GivenRecords → ℕ → Bool → Float → Float → ℕ → ℕ → Type 0
TreePre E at fixed kept boost words depth =
    (ranges : List ℕ) × (k : ℕ) × (D : Decoded) × Prepared E ranges
    × TreeAsked E.index E.query k at D fixed kept boost words × (k ≤ depth)

-- for each of them, the part of its scorer stands in the first r words
abbrev pub TreePost : GivenRecords → ℕ → Bool → Float → Float → ℕ → ℕ → ℕ → ℕ → List ℕ → Type 0
TreePost E at fixed kept boost words depth scores r states' =
    (ranges : List ℕ) (k : ℕ) (D : Decoded) → Prepared E ranges
    → TreeAsked E.index E.query k at D fixed kept boost words → k ≤ depth
    → Placed E.index ranges (weigh E.index D.tree boost (kept_of fixed kept)) depth scores r states'

-- the same of what the code has, with what it passes down to the tree
abbrev pub PlacePre : Records → ℕ → Passed → ℕ → ℕ → Type 0
PlacePre f at passed words depth =
    TreePre (given f) at (is_some passed.kept) (kept_score passed.kept) passed.boost words depth

abbrev pub PlacePost : Records → ℕ → Passed → ℕ → ℕ → ℕ → List ℕ → Type 0
PlacePost f at passed words depth r states' =
    TreePost (given f) at (is_some passed.kept) (kept_score passed.kept) passed.boost words depth passed.scores r
    states'
