-- The ranges below this record are listed, one bitmap after the other.
use Rattle.std.proofs.Common.{◌≡◌}
use Rattle.index.specs.IndexOf.{index_of}
use Rattle.bits.specs.Bit.{bitmap_words}
use Rattle.tree_measure.specs.Measures.{range_places, range_counts}
use Rattle.tree_measure.proofs.Listing.{Listing, words_to}
use Rattle.tree_measure.proofs.list_ranges.Given as goal

abbrev pub invariant-loop-at : goal.invariant-loop-at
invariant-loop-at l =
    record { listing : Listing (index_of l.lent) l.query (range_places l.listed) (range_counts l.listed) l.ranges l.used l.at; used_is : l.used ≡ words_to l.query (bitmap_words l.lent.max_doc) l.at }
