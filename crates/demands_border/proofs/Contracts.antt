-- The clauses of the contracts of lot_search, lot_page and lot_pick are what a call was told. `Learnt` is what the kit reads from an entry's `ensures`, `args` what a call was lent in the order of the parameters, `end` what it was lent as it stood afterwards. Assumes nothing.
use contract.Lifetimes.{Lfts}
use borrow.Fn.Kinds.{Dens, res_t, ended_of}
use denote.Triple.Clauses.{AtExit}
use Rattle.meaning.specs.Lent.{Index}
use Rattle.index.specs.Slices.{lent}
use Rattle.border.proofs.lot_search.Kinds as search-kinds
use Rattle.border.proofs.lot_search.Reads as search-contract
use Rattle.border.proofs.lot_page.Kinds as page-kinds
use Rattle.border.proofs.lot_page.Reads as page-contract
use Rattle.border.proofs.lot_pick.Kinds as pick-kinds
use Rattle.border.proofs.lot_pick.Reads as pick-contract
use Rattle.demands_border.specs.Calls.{SearchCall, PageCall, PickCall}

-- ---- lot_search
module _ (κs : Lfts 15) (args : Dens κs search-kinds.ps) where
  abbrev search-index : Index
  search-index = lent args.0 args.1.0.now args.1.1.0.now args.1.1.1.0.now args.1.1.1.1.0.now args.1.1.1.1.1.0.now args.1.1.1.1.1.1.0.now args.1.1.1.1.1.1.1.0.now args.1.1.1.1.1.1.1.1.0.now

  pub search-call : (r : (res_t search-kinds.r κs).Denot) (end : AtExit (ended_of 15 search-kinds.ps search-kinds.r) κs) → search-contract.Learnt κs args r end → SearchCall search-index args.1.1.1.1.1.1.1.1.1.0.now args.1.1.1.1.1.1.1.1.1.1.0 args.1.1.1.1.1.1.1.1.1.1.1.0
  search-call r end told = record {
    states = args.1.1.1.1.1.1.1.1.1.1.1.1.0.now;
    starts = args.1.1.1.1.1.1.1.1.1.1.1.1.1.0.now;
    other_starts = args.1.1.1.1.1.1.1.1.1.1.1.1.1.1.0.now;
    ranges = args.1.1.1.1.1.1.1.1.1.1.1.1.1.1.1.0.now;
    hits = args.1.1.1.1.1.1.1.1.1.1.1.1.1.1.1.1.0.now;
    answer = args.1.1.1.1.1.1.1.1.1.1.1.1.1.1.1.1.1.0.now;
    returned = r;
    states' = end.1.1.1.1.1.1.1.1.1.1.1.1.0.now;
    starts' = end.1.1.1.1.1.1.1.1.1.1.1.1.1.0.now;
    other_starts' = end.1.1.1.1.1.1.1.1.1.1.1.1.1.1.0.now;
    ranges' = end.1.1.1.1.1.1.1.1.1.1.1.1.1.1.1.0.now;
    hits' = end.1.1.1.1.1.1.1.1.1.1.1.1.1.1.1.1.0.now;
    answer' = end.1.1.1.1.1.1.1.1.1.1.1.1.1.1.1.1.1.0.now;
    told = told.0;
    kept = told.1;
  }

-- ---- lot_page
module _ (κs : Lfts 16) (args : Dens κs page-kinds.ps) where
  abbrev page-index : Index
  page-index = lent args.0 args.1.0.now args.1.1.0.now args.1.1.1.0.now args.1.1.1.1.0.now args.1.1.1.1.1.0.now args.1.1.1.1.1.1.0.now args.1.1.1.1.1.1.1.0.now args.1.1.1.1.1.1.1.1.0.now

  pub page-call : (r : (res_t page-kinds.r κs).Denot) (end : AtExit (ended_of 16 page-kinds.ps page-kinds.r) κs) → page-contract.Learnt κs args r end → PageCall page-index args.1.1.1.1.1.1.1.1.1.0.now
  page-call r end told = record {
    target = args.1.1.1.1.1.1.1.1.1.1.0;
    states = args.1.1.1.1.1.1.1.1.1.1.1.0.now;
    starts = args.1.1.1.1.1.1.1.1.1.1.1.1.0.now;
    other_starts = args.1.1.1.1.1.1.1.1.1.1.1.1.1.0.now;
    ranges = args.1.1.1.1.1.1.1.1.1.1.1.1.1.1.0.now;
    documents = args.1.1.1.1.1.1.1.1.1.1.1.1.1.1.1.0.now;
    scores = args.1.1.1.1.1.1.1.1.1.1.1.1.1.1.1.1.0.now;
    answer = args.1.1.1.1.1.1.1.1.1.1.1.1.1.1.1.1.1.0.now;
    returned = r;
    states' = end.1.1.1.1.1.1.1.1.1.1.1.0.now;
    starts' = end.1.1.1.1.1.1.1.1.1.1.1.1.0.now;
    other_starts' = end.1.1.1.1.1.1.1.1.1.1.1.1.1.0.now;
    ranges' = end.1.1.1.1.1.1.1.1.1.1.1.1.1.1.0.now;
    documents' = end.1.1.1.1.1.1.1.1.1.1.1.1.1.1.1.0.now;
    scores' = end.1.1.1.1.1.1.1.1.1.1.1.1.1.1.1.1.0.now;
    answer' = end.1.1.1.1.1.1.1.1.1.1.1.1.1.1.1.1.1.0.now;
    told = told.0;
    kept = told.1;
  }

-- ---- lot_pick
module _ (κs : Lfts 4) (args : Dens κs pick-kinds.ps) where
  pub pick-call : (r : (res_t pick-kinds.r κs).Denot) (end : AtExit (ended_of 4 pick-kinds.ps pick-kinds.r) κs) → pick-contract.Learnt κs args r end → PickCall args.0.now args.1.0.now args.1.1.0 args.1.1.1.0
  pick-call r end told = record {
    hits = args.1.1.1.1.0.now;
    answer = args.1.1.1.1.1.0.now;
    returned = r;
    hits' = end.1.1.1.1.0.now;
    answer' = end.1.1.1.1.1.0.now;
    told = told;
  }
