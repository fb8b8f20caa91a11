-- A call of lot_search, lot_page or lot_pick: what it was lent, the number that it returned, what its buffers held
-- afterwards (a name with '), and what the entry's contract promises of these. Assumes nothing: these are definitions.
use Rattle.std.specs.Prelude.{◌≡◌, List, ℕ, length, take, get_or, ℤ}
use Rattle.meaning.specs.Lent.{Index}
use Rattle.check_order.specs.WorkOf.{work}
use Rattle.border.specs.Border.{LotSearches, LotPages, LotPicks, LotKept}

-- "Search gives hits, count and the "at least" mark": a call of lot_search on an index and a query, with k and t
pub record SearchCall (ix : Index) (q : List ℕ) (k t : ℕ) : Type 0 where
  pub states : List ℕ
  pub starts : List ℤ
  pub other_starts : List ℤ
  pub ranges : List ℕ
  pub hits : List ℤ
  pub answer : List ℕ
  pub returned : ℕ
  pub states' : List ℕ
  pub starts' : List ℤ
  pub other_starts' : List ℤ
  pub ranges' : List ℕ
  pub hits' : List ℤ
  pub answer' : List ℕ
  pub told : LotSearches ix q k t (work (length states) (length starts) (length other_starts) (length ranges))
      hits hits' answer answer' returned
  pub kept : LotKept returned states states' starts starts' other_starts other_starts' ranges ranges'

-- "Page takes a target and two output slices of equal length m": a call of lot_page on an index and a query
pub record PageCall (ix : Index) (q : List ℕ) : Type 0 where
  pub target : ℕ
  pub states : List ℕ
  pub starts : List ℤ
  pub other_starts : List ℤ
  pub ranges : List ℕ
  pub documents : List ℕ
  pub scores : List ℕ
  pub answer : List ℕ
  pub returned : ℕ
  pub states' : List ℕ
  pub starts' : List ℤ
  pub other_starts' : List ℤ
  pub ranges' : List ℕ
  pub documents' : List ℕ
  pub scores' : List ℕ
  pub answer' : List ℕ
  pub told : LotPages ix q target (work (length states) (length starts) (length other_starts) (length ranges))
      documents documents' scores scores' answer answer' returned
  pub kept : LotKept returned states states' starts starts' other_starts other_starts' ranges ranges'

-- "Pick takes parallel lists of documents and scores, with k and t, and answers as Search does": a call of lot_pick on
-- such lists
pub record PickCall (documents scores : List ℕ) (k t : ℕ) : Type 0 where
  pub hits : List ℤ
  pub answer : List ℕ
  pub returned : ℕ
  pub hits' : List ℤ
  pub answer' : List ℕ
  pub told : LotPicks documents scores k t hits hits' answer answer' returned

-- the hits that a call of lot_search or lot_pick gave that returned 0: the front of its hits buffer, as many as
-- `answer` says first
unfoldable pub hits_given : List ℤ → List ℕ → List ℤ
hits_given hits' answer' = take (get_or answer' 0 0) hits'

-- some hits are the beginning of others: demand 3's "hits for k begin those for a larger k"
unfoldable pub Begin : List ℤ → List ℤ → Type 0
Begin hits others = take (length hits) others ≡ hits
