-- What the work of a call that is not refused asks, and the search for a leaf's posting. Assumes nothing: these are
-- definitions.
use Rattle.std.specs.Prelude.{◌≡◌, false, List, ℕ, ◌+◌, ◌*◌, ◌≤◌, ◌<◌, length}
use Rattle.meaning.specs.Lent.{Index, leaf_count, leaf_first, leaf_number}
use Rattle.meaning.specs.CallRefusals.{starts_short, wrong13_place}
use Rattle.index.specs.Accepted.{RunAscends}
use Rattle.tree_weight.specs.Measured.{AcceptedOrder}
use Rattle.check_order.specs.WorkOf.{place_work}
use Rattle.index.specs.declared.postings.TheConstants.{POSTING_WORDS}

-- the leaf is there, its run lies within the postings, and its documents ascend
pub record PlaceRunOk (ix : Index) (l : ℕ) : Type 0 where
  pub there : l < leaf_count ix
  pub words : POSTING_WORDS * (leaf_first ix l + leaf_number ix l) ≤ length ix.postings
  pub ascending : RunAscends ix l

-- an accepted index and query, a phrase and a document that are there, and phrase buffers that are long enough
pub record PlaceLent (ix : Index) (q : List ℕ) (r d starts other_starts : ℕ) : Type 0 where
  pub asks : AcceptedOrder ix q
  pub long : starts_short ix q (place_work starts other_starts) ≡ false
  pub there : wrong13_place ix q r d ≡ false
