-- The clauses of the contracts of the exports lot_search, lot_page and lot_pick are those of `border`'s functions, so a call of an export is a call as `demands_border` has it. `Learnt` is what the kit reads from an `ensures`, `args` what a call was lent in the order of the parameters, `end` what it was lent as it stood afterwards. Assumes nothing.
use contract.Lifetimes.{Lfts}
use borrow.Fn.Kinds.{Dens, res_t, ended_of}
use denote.Triple.Clauses.{AtExit}
use Rattle.lot_search.proofs.lot_search.Kinds as search-kinds
use Rattle.lot_search.proofs.lot_search.Reads as search-contract
use Rattle.lot_search.proofs.lot_page.Kinds as page-kinds
use Rattle.lot_search.proofs.lot_page.Reads as page-contract
use Rattle.lot_search.proofs.lot_pick.Kinds as pick-kinds
use Rattle.lot_search.proofs.lot_pick.Reads as pick-contract
use Rattle.meaning.specs.Lent.{Index}
use Rattle.index.specs.Slices.{lent}
use Rattle.demands_border.specs.Calls.{SearchCall, PageCall, PickCall}
use Rattle.demands_border.proofs.Contracts as of-border

abbrev search-index : (κs : Lfts 15) → Dens κs search-kinds.ps → Index
search-index κs args = lent args.0 args.1.0.now args.1.1.0.now args.1.1.1.0.now args.1.1.1.1.0.now args.1.1.1.1.1.0.now args.1.1.1.1.1.1.0.now args.1.1.1.1.1.1.1.0.now args.1.1.1.1.1.1.1.1.0.now

pub search-call : (κs : Lfts 15) (args : Dens κs search-kinds.ps) (r : (res_t search-kinds.r κs).Denot) (end : AtExit (ended_of 15 search-kinds.ps search-kinds.r) κs) → search-contract.Learnt κs args r end → SearchCall (search-index κs args) args.1.1.1.1.1.1.1.1.1.0.now args.1.1.1.1.1.1.1.1.1.1.0 args.1.1.1.1.1.1.1.1.1.1.1.0
search-call κs args r end told = of-border.search-call κs args r end told

abbrev page-index : (κs : Lfts 16) → Dens κs page-kinds.ps → Index
page-index κs args = lent args.0 args.1.0.now args.1.1.0.now args.1.1.1.0.now args.1.1.1.1.0.now args.1.1.1.1.1.0.now args.1.1.1.1.1.1.0.now args.1.1.1.1.1.1.1.0.now args.1.1.1.1.1.1.1.1.0.now

pub page-call : (κs : Lfts 16) (args : Dens κs page-kinds.ps) (r : (res_t page-kinds.r κs).Denot) (end : AtExit (ended_of 16 page-kinds.ps page-kinds.r) κs) → page-contract.Learnt κs args r end → PageCall (page-index κs args) args.1.1.1.1.1.1.1.1.1.0.now
page-call κs args r end told = of-border.page-call κs args r end told

pub pick-call : (κs : Lfts 4) (args : Dens κs pick-kinds.ps) (r : (res_t pick-kinds.r κs).Denot) (end : AtExit (ended_of 4 pick-kinds.ps pick-kinds.r) κs) → pick-contract.Learnt κs args r end → PickCall args.0.now args.1.0.now args.1.1.0 args.1.1.1.0
pick-call κs args r end told = of-border.pick-call κs args r end told
