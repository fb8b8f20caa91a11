-- What the first pass over a query's records finds of each tree. Assumes nothing: these are definitions.
use Rattle.std.specs.Prelude.{◌≡◌, false, cond, List, ℕ, ◌+◌, ◌*◌, ◌≤◌, ◌<◌, length, get_or}
use Rattle.std.proofs.Math.Option.{some}
use Rattle.meaning.specs.Below.{list_to}
use Rattle.meaning.specs.Lent.{Index, leaf_number}
use Rattle.meaning.specs.Range.{range_documents}
use Rattle.meaning.specs.Query.{record_count, record_kind, record_value, range_of, Decoded, decode}
use Rattle.meaning.specs.Scorer.{has_scorer}
use Rattle.meaning.specs.Cost.{cost}
use Rattle.meaning.specs.QueryRefusals.{wrong7, wrong8, wrong9, wrong10}
use Rattle.index.specs.Accepted.{Accepted}
use Rattle.bits.specs.Bit.{bitmap_words, Bitmap}
use Rattle.tree_weight.specs.ScorerTree.{range, leaf_matches}

-- an accepted index and a query that none of 7 to 10 refuses
pub record AcceptedOrder (ix : Index) (q : List ℕ) : Type 0 where
  pub accepted : Accepted ix
  pub records-right : wrong7 q ≡ false
  pub values-right : wrong8 ix q ≡ false
  pub boosts-right : wrong9 q ≡ false
  pub positions-right : wrong10 ix q ≡ false

-- so many documents are in each Range record's range
abbrev pub RangesCounted : Index → List ℕ → List ℕ → Type 0
RangesCounted ix q counts =
    (r : ℕ) → r < record_count q → record_kind q r ≡ 4
    → get_or counts r 0 ≡ length (range_documents ix (range_of q r))

-- of a tree that is decoded at a record: the record after it, 1 where it has a scorer, its cost, which is below 2^32
-- for each of its records
pub record MeasureIs (ix : Index) (r : ℕ) (D : Decoded) (next present size : ℕ) : Type 0 where
  pub next-is : next ≡ D.next
  pub present-is : present ≡ cond (has_scorer ix D.tree) 1 0
  pub cost-is : size ≡ cost ix D.tree
  pub small : size + 4294967296 * r ≤ 4294967296 * next

-- the measures stand in these slices for each tree from a record on
abbrev pub Measured : Index → List ℕ → List ℕ → List ℕ → List ℕ → ℕ → Type 0
Measured ix q nexts presents costs from =
    (k r : ℕ) (D : Decoded) → from ≤ r → decode q k r ≡ some D
    → MeasureIs ix r D (get_or nexts r 0) (get_or presents r 0) (get_or costs r 0)

-- the numbers of postings of the first n terms of the phrase at record r
abbrev pub term_numbers : Index → List ℕ → ℕ → ℕ → List ℕ
term_numbers ix q r n = list_to n (λ j. leaf_number ix (record_value q (r + 1 + j) 0))

-- the documents of the Range record r are so many, and stand in the range buffer as a bitmap
pub record RangeListed (ix : Index) (q ranges : List ℕ) (r place count : ℕ) : Type 0 where
  pub count-is : count ≡ length (range_documents ix (range_of q r))
  pub there : place + bitmap_words ix.max_doc ≤ length ranges
  pub bits : Bitmap (leaf_matches ix (range (range_of q r))) ranges place (bitmap_words ix.max_doc)

-- those of each Range record below n
abbrev pub RangesListed : Index → List ℕ → List ℕ → List ℕ → List ℕ → ℕ → Type 0
RangesListed ix q places counts ranges n =
    (r : ℕ) → r < n → record_kind q r ≡ 4 → RangeListed ix q ranges r (get_or places r 0) (get_or counts r 0)
